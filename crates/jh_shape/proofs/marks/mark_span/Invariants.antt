-- The span's slots below the word are marked, and any count past the span has grown by the sum.
use Rattle.std.proofs.Common.{◌≡◌, ℕ, ◌+◌, ◌≤◌, ◌||◌}
use Rattle.jh_shape.specs.Private.Marks.{is_marked}
use Rattle.jh_shape.specs.Pages.{count_below}
use Rattle.jh_shape.proofs.WordLemmas.{below_word}
use Rattle.jh_shape.proofs.marks.mark_span.Given as goal

abbrev pub invariant-loop-word : goal.invariant-loop-word
invariant-loop-word l =
    (l.more ≤ l.to)
    × ((k : ℕ) → is_marked l.words k ≡ (is_marked l.initial.words k || below_word l.from l.to l.word k))
    × ((end : ℕ) → l.to ≤ end → count_below (λ k. is_marked l.words k) end ≡ count_below (λ k. is_marked l.initial.words k) end + l.more)
