-- An empty journal is legal, and a new board stands for it.
use Rattle.std.proofs.Common.{◌≡◌, arith}
use Rattle.jh_history.proofs.Public.{IsLegal_nil}
use Rattle.jh_board.proofs.board.Board.open_as.Goals as goal

pub invariant_of-result : goal.invariant_of-result
invariant_of-result c =
    let same : c.in-Ok-new.image ≡ c.args.image = c.in-Ok-new.ensures.ok in record {
      admitted = rw same c.requires.admitted;
      legal = rw (c.with.ensures.entries, c.with.ensures.form, same) (IsLegal_nil c.args.image c.args.form);
      within = rw c.with.ensures.entries (omega arith);
      means = rw (c.with.ensures.entries, c.with.ensures.form, same) c.in-Ok.ensures;
      last = omega arith;
    }
