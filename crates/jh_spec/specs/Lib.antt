pub mod Json
pub mod Fields
pub mod Faults
pub mod Cpus
pub mod Cells
pub mod Specs
pub mod Laws
pub mod Private
