mod DistinctLemmas
mod StopLemmas
mod LoadLemmas
mod OrderLemmas
mod OneLemmas
mod NextLemmas
mod ReadLemmas
mod CauseLemmas
pub mod Public
