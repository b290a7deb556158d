pub mod Index
pub mod IsIndex
pub mod Dispatch
pub mod Lookups
pub mod Private
