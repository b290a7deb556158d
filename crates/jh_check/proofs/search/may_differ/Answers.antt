-- No peer stands at an unmarked bdf, all fit at a sure one, and elsewhere they are compared.
use Rattle.std.proofs.Common.{◌≡◌, true, take, subst, sym, ◌∙◌}
use Rattle.std.proofs.lemmas.Bool.{not-false}
use Rattle.jh_check.specs.Private.Cells.{cells_of}
use Rattle.jh_check.specs.Devices.{agrees_with_all}
use Rattle.jh_check.proofs.BusLemmas.{agrees_unmarked}
use Rattle.jh_check.proofs.FitLemmas.{agrees_sure}
use Rattle.jh_check.proofs.search.may_differ.Goals as goal

pub returns-then-not-has_mark : goal.returns-then-not-has_mark
returns-then-not-has_mark c = λ f.
    agrees_unmarked (take c.args.a (cells_of c.args.setup.now)) c.args.marks.now c.args.cell.now.memory_regions c.args.device.now c.requires.bdfs (c.has_mark.ensures.unmarked c.if-not-has_mark.true)

pub returns-then-is_sure : goal.returns-then-is_sure
returns-then-is_sure c = λ f.
    agrees_sure (cells_of c.args.setup.now) c.args.a c.args.cell.now c.args.device.now c.args.seats.now c.args.sure.now c.requires.count c.requires.seats c.requires.sure (sym c.is_sure.ensures ∙ c.if-is_sure.true) c.requires.seated

pub returns : goal.returns
returns c = λ f.
    let t : c.agrees_with_linked.result ≡ true = not-false c.agrees_with_linked.result f in
    subst (λ regions. agrees_with_all (take c.args.a (cells_of c.args.setup.now)) regions c.args.device.now ≡ true) c.as_slice.ensures.value (c.agrees_with_linked.ensures t)
