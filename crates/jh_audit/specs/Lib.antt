pub mod Judges
pub mod Private
