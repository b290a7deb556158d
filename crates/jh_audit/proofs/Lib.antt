mod JudgeLemmas
mod RestLemmas
mod TextLemmas
