mod CallerLemmas
mod ShelfLemmas
mod TrailLemmas
pub mod Public
