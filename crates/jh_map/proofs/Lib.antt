mod ListLemmas
mod MapLemmas
mod RunLemmas
mod AlikeLemmas
pub mod Public
