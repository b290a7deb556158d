pub mod Windows
pub mod Space
pub mod Words
pub mod Writes
