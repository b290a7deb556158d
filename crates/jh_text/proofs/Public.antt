-- The lemmas that this crate hands up: what a proof of another crate may cite, and all that it can.
unfoldable pub use Rattle.jh_text.proofs.JournalLaws.{OneJournal, NoBadLine, NotLong, NotBoth, OneLine}
