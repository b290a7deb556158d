-- Below the word the span's slots that the other list lacks are marked, besides the old marks.
use Rattle.std.proofs.Common.{◌≡◌, ℕ, ◌&&◌, ◌||◌, not}
use Rattle.jh_shape.specs.Private.Marks.{is_marked}
use Rattle.jh_shape.proofs.WordLemmas.{below_word}
use Rattle.jh_shape.proofs.marks.mark_free.Given as goal

abbrev pub invariant-loop-word : goal.invariant-loop-word
invariant-loop-word l = (k : ℕ) → is_marked l.words k ≡ (is_marked l.initial.words k || (below_word l.from l.to l.word k && not (is_marked l.taken k)))
