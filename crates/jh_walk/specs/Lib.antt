pub mod Walks
pub mod Counts
pub mod Pages
pub mod Paths
pub mod Private
