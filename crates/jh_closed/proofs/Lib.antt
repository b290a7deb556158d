pub mod Public
mod ClosedLemmas
