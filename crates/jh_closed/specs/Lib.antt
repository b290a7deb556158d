pub mod Closed
pub mod Private
