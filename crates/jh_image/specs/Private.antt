-- What single steps of the reading answer. Only clauses of functions that the crate keeps to itself cite these. No
-- public clause rests on them.
pub mod Causes
pub mod Order
