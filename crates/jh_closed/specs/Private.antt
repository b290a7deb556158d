-- The invariant of a private type: no public clause rests on it.
pub mod IsCellRegions
