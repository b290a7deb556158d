mod IndexLemmas
mod AccessLemmas
mod HittingLemmas
mod LawLemmas
pub mod Public
