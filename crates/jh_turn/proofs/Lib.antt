mod Closes
mod Keeps
mod Opens
mod PortSets
mod Prefixes
mod Seating
mod Seats
mod Turns
pub mod Public
