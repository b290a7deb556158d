-- What single steps of a call answer. Only clauses of functions that the crate keeps to itself cite these. No public
-- clause rests on them.
pub mod Endings
pub mod JournalFiles
