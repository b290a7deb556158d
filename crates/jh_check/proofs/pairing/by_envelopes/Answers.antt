-- Each cell in turn adds what its regions give with those of all cells.
use Rattle.std.proofs.Common.{◌<◌, length, refl, sym, subst, arith}
use Rattle.jh_check.specs.Private.Cells.{cells_of}
use Rattle.jh_check.specs.Private.Envelopes.{AreOfEach}
use Rattle.jh_check.specs.Findings.{from_cell, in_pairs}
use Rattle.jh_check.proofs.ListLemmas.{found_step, found_done}
use Rattle.jh_check.proofs.pairing.by_envelopes.Goals as goal

pub loop-a-init : goal.loop-a-init
unfolding in_pairs
loop-a-init c = refl

pub loop-a-preserved : goal.loop-a-preserved
loop-a-preserved c =
    let all = cells_of c.args.setup.now in
    let h : c.loop-a.a < length all = omega arith in
    found_step (from_cell c.args.rule all) all c.loop-a.a c.args.setup.now.root.now c.loop-a.found c.from_cell.new.found _ h (c.in_ok-from_cell.ensures c.args.setup.now.root.now) c.loop-a.invariant

pub returns : goal.returns
returns c = found_done (from_cell c.args.rule (cells_of c.args.setup.now)) (cells_of c.args.setup.now) c.loop-a.a c.loop-a.found _ (omega arith) c.loop-a.invariant

pub from_cell-requires-clause-each : goal.from_cell-requires-clause-each
from_cell-requires-clause-each c = subst (λ xs. AreOfEach c.args.rule (cells_of c.args.setup.now) xs) (sym c.as_slice.ensures.value) c.in_ok-each.ensures.each
