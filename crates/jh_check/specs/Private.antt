-- Definitions that mirror the code: clauses of private functions alone cite them, and no public clause rests on them.
pub mod Blocks
pub mod Bus
pub mod Fits
pub mod Links
pub mod Pairs
pub mod Envelopes
pub mod Rising
pub mod Seats
pub mod Sound
pub mod Cells
pub mod Sites
pub mod Spans
