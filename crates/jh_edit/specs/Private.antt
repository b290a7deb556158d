-- Definitions that mirror the code: clauses of private functions alone cite them, and no public clause rests on them.
pub mod Slots
pub mod Written
pub mod Finding
pub mod Steps
pub mod Standing
pub mod Turned
