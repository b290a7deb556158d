mod GrammarLemmas
mod LawLemmas
mod NumberLemmas
mod OperationLemmas
mod ProgramLemmas
mod WordLemmas
pub mod Public
