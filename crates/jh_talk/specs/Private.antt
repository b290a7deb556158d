-- Definitions that mirror the code. Only clauses of functions that the crate keeps to itself cite these. No public
-- clause rests on them.
pub mod Others
pub mod Rooms
pub mod Seats
pub mod Sides
pub mod Spots
pub mod Steps
