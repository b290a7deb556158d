-- Each seat adds a device like the one and a new number, and any two such devices fit.
use Rattle.std.proofs.Common.{◌∙◌, sym, arith}
use Rattle.jh_check.specs.declared.seats.Seat.{Seat}
use Rattle.jh_check.specs.Private.Cells.{cells_of}
use Rattle.jh_check.proofs.FitLemmas.{fit_each, like_more}
use Rattle.jh_check.proofs.fits.are_like.Goals as goal

pub loop-i-init : goal.loop-i-init
loop-i-init c = record { each = λ k d h. absurd (omega arith); ids = λ j k d l h. absurd (omega arith) }

pub loop-i-preserved : goal.loop-i-preserved
loop-i-preserved c =
    let none : Seat = record { bdf = 0; id = 0; cell = 0; item = 0 } in
    like_more (cells_of c.args.setup.now) c.args.regions.now c.args.device.now c.args.run.now c.loop-i.i none c.loop-i-test.true c.loop-i.invariant (c.is_like_at.ensures c.if-not-is_like_at.false) (sym c.has_id.ensures ∙ c.if-has_id.false)

pub returns : goal.returns
returns c = λ t.
    fit_each (cells_of c.args.setup.now) c.args.regions.now c.args.device.now c.args.run.now c.loop-i.i c.loop-i-test.false c.loop-i.invariant
