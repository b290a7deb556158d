use Rattle.std.proofs.Common.{◌≡◌, ◌<◌, true, ℕ}
use Rattle.jh_edit.specs.Seats.{is_tag_used}
use Rattle.jh_edit.proofs.seats.lowest_tag.Given as goal

-- each tag before is had
abbrev pub invariant-loop-tag : goal.invariant-loop-tag
invariant-loop-tag l = (tag : ℕ) → tag < l.tag → is_tag_used tag l.seats ≡ true
