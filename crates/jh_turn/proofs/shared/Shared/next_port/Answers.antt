-- As the callers differ, the first hand can go to a seat of its own.
use Rattle.std.proofs.Common.{rules}
use Rattle.jh_turn.proofs.Opens.{splits_first}
use Rattle.jh_turn.proofs.shared.Shared.next_port.Goals as goal

pub split_seat-seat-requires : goal.split_seat-seat-requires
split_seat-seat-requires g c = let t = g.T.Turner in (
  c.requires.seat.0,
  search rules,
  splits_first t.whose t.origin t.serves t.history c.args.self.now.table.shared.key _ c.args.seat.now.me.0 c.args.left.now _ _ c.requires.some c.requires.differ c.requires.seat.1,
)
