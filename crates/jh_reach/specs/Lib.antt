pub mod Places
pub mod Looks
pub mod Fills
pub mod Private
