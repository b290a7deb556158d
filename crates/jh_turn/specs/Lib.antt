pub mod Hands
pub mod Histories
pub mod Opened
pub mod PortSets
pub mod Ports
pub mod Private
