pub mod Descriptors
pub mod Levels
