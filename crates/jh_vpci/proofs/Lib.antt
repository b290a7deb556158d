mod SplicedLemmas
mod BitLemmas
mod WordLemmas
pub mod Public
