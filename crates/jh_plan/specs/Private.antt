-- Definitions that mirror the code. Only clauses of functions that the crate keeps to itself cite these. No public
-- clause rests on them.
pub mod Lines
pub mod Searches
pub mod Seats
pub mod Unmet
