-- By a rule about one cell, a cell gives something with itself only.
use Rattle.std.proofs.Common.{◌≡◌, ◌<◌, ◌++◌, length, get_or, refl, sym, ap, ◌∙◌, arith}
use Rattle.jh_check.specs.Private.Cells.{cells_of}
use Rattle.jh_check.specs.Lists.{capped}
use Rattle.jh_check.specs.Findings.{between, from_cell, in_pairs}
use Rattle.jh_check.proofs.ListLemmas.{found_step, found_done}
use Rattle.jh_check.proofs.RisingLemmas.{cell_in_itself}
use Rattle.jh_check.proofs.pairing.in_each.Goals as goal

pub loop-a-init : goal.loop-a-init
unfolding in_pairs
loop-a-init c = refl

pub loop-a-preserved : goal.loop-a-preserved
loop-a-preserved c =
    let rule = c.args.rule in
    let all = cells_of c.args.setup.now in
    let a = c.loop-a.a in
    let one = c.cell.result.now in
    let v = c.cell.ensures in
    let h : a < length all = omega arith in
    let x = c.in_ok-in_itself.ensures in
    let is : one ≡ get_or all a one = v in
    let e : capped c.in_itself.new.found ≡ capped (c.loop-a.found ++ between rule a one a one) = x in
    let own : from_cell rule all a one ≡ between rule a one a one = cell_in_itself rule all a one h c.requires.within is in
    let f : capped c.in_itself.new.found ≡ capped (c.loop-a.found ++ from_cell rule all a (get_or all a one)) =
    e ∙ ap (λ xs. capped (c.loop-a.found ++ xs)) (sym own) ∙ ap (λ cell. capped (c.loop-a.found ++ from_cell rule all a cell)) is
    in
    found_step (from_cell rule all) all a one c.loop-a.found c.in_itself.new.found _ h f c.loop-a.invariant

pub returns : goal.returns
returns c = found_done (from_cell c.args.rule (cells_of c.args.setup.now)) (cells_of c.args.setup.now) c.loop-a.a c.loop-a.found _ (omega arith) c.loop-a.invariant
