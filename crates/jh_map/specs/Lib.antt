pub mod Maps
pub mod Private
