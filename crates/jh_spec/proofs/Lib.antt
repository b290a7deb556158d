mod Unlisted
mod Marks
mod ListPrefixes
mod PaddedNames
mod Steps
mod Roots
mod KindLemmas
mod FieldLaws
mod FaultLaws
mod BitLaws
pub mod Public
