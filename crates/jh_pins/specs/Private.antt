-- Definitions that mirror the code: clauses of private functions alone cite them, and no public clause rests on them.
pub mod Given
pub mod Words
pub mod Pieces
