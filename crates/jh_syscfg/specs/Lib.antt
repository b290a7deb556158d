pub mod Layout
pub mod SystemFaults
