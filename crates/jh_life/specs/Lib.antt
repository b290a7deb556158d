pub mod Causes
pub mod Changes
pub mod Lives
pub mod CellsView
pub mod SoundRecords
pub mod Verdict
