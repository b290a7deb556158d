pub mod FaultText
pub mod Faults
pub mod Lines
pub mod LinesView
pub mod Maps
pub mod Private
pub mod Ranges
pub mod Text
