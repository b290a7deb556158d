mod ChangeLemmas
mod KeyLemmas
mod LeaveLemmas
mod OrderLemmas
mod LoopLemmas
mod NamedLemmas
mod ApartLemmas
mod LawLemmas
mod BesidesLemmas
mod PendingLemmas
pub mod Public
