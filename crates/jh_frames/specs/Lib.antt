pub mod Memory
pub mod Kept
pub mod Lending
pub mod Private
