pub mod Changes
pub mod Meanwhile
