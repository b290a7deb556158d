-- The byte after those that were written so far.
use Rattle.std.proofs.Common.{◌≡◌, take}
use Rattle.jh_history.specs.Private.PlainView.{last_byte}
use Rattle.jh_history.proofs.plain_known.PlainBytes.byte.Given as goal

abbrev pub invariant-loop-one : goal.invariant-loop-one
invariant-loop-one l = l.byte ≡ last_byte l.self.image (take l.one-index l.one-items) l.place
