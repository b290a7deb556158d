mod AmongLemmas
mod CleanLemmas
mod CpuLemmas
mod CreateLemmas
mod FitLemmas
mod LineLemmas
mod PlaceLemmas
mod PlanLemmas
pub mod Public
mod ReadBackLemmas
mod ReadLemmas
mod StandLemmas
mod TextLemmas
mod UniqueLemmas
mod WantedLemmas
mod WrittenLemmas
