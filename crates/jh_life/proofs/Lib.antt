pub mod Public
mod JoinedLemmas
mod VerdictLemmas
mod CauseLemmas
mod ChangeLemmas
mod OrderLemmas
mod SoundLemmas
