-- No more pages are missing than there are, and as many as before where no room was taken.
use Rattle.std.proofs.Common.{arith, refl}
use Rattle.jh_frames.proofs.HeldLemmas.{missing_few, missing_kept}
use Rattle.jh_frames.proofs.frames.Frames.reserve_enough.Goals as goal

pub returns-in-Ok-clause-ok : goal.returns-in-Ok-clause-ok
returns-in-Ok-clause-ok c = omega (arith, missing_few c.args.self.now c.args.first c.args.count, c.in-Ok.ensures.ok)

pub returns-in-Err-clause-succeeds : goal.returns-in-Err-clause-succeeds
returns-in-Err-clause-succeeds c =
    let same = missing_kept (record { own = c.self.inside.own; guest = c.self.inside.guest }) (record { own = c.self.inside.own; guest = c.reserve.new.self }) c.args.first c.args.count refl c.in-Err.ensures.pages in
    rw (← c.self.view_is) (λ few. c.reserve_missing.ensures.succeeds (omega (arith, same, few, c.in-Err.ensures.spare)))
