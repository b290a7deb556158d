-- What single steps of a schedule or a run answer, and what types say of an image. Only clauses of functions that the
-- crate keeps to itself cite these. No public clause rests on them.
pub mod Driving
pub mod Ran
pub mod Typed
