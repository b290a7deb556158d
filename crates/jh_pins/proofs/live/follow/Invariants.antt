-- The items so far.
use Rattle.std.proofs.Common.{◌≡◌, take, false}
use Rattle.jh_history.specs.Items.{items}
use Rattle.jh_pins.proofs.LiveLemmas.{reached}
use Rattle.jh_pins.proofs.live.follow.Given as goal

abbrev pub invariant-loop-cpu : goal.invariant-loop-cpu
invariant-loop-cpu l =
    (items l.fn.board.image l.fn.board.form l.fn.board.limit (take l.cpu-index l.schedule) l.fn.board.entries ≡ reached l.board.entries false)
    × (l.board.image ≡ l.fn.board.image) × (l.board.form ≡ l.fn.board.form) × (l.board.limit ≡ l.fn.board.limit)
