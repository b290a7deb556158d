mod BytesLemmas
mod InsertLemmas
mod StepsLemmas
mod MeetingLemmas
mod MergeLemmas
mod RemoveLemmas
mod ReadLemmas
mod SearchLemmas
mod MemoryLemmas
mod SpelledLemmas
mod StoredLemmas
mod RowLemmas
mod BelowLemmas
mod Booleans
mod Lists
mod Results
pub mod Public
