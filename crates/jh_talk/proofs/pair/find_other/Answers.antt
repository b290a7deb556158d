-- The first that is found is the lowest; where none of the cell's devices is one, there is none.
use Rattle.std.proofs.Common.{◌≤◌, ◌∙◌, length, sym, arith}
use Rattle.jh_talk.specs.Private.Others.{is_other}
use Rattle.jh_talk.proofs.CpuLemmas.{none_more, none_at_all}
use Rattle.jh_talk.proofs.PairLemmas.{other_within}
use Rattle.jh_talk.proofs.pair.find_other.Goals as goal

pub returns-then-is_other : goal.returns-then-is_other
returns-then-is_other c = record { passes = sym c.is_other.ensures ∙ c.if-is_other.true; lowest = c.loop-number.invariant }

pub loop-number-preserved : goal.loop-number-preserved
loop-number-preserved c = none_more (is_other c.args.cell.now c.args.bdf) c.loop-number.number c.loop-number.invariant (sym c.is_other.ensures ∙ c.if-is_other.false)

pub returns : goal.returns
returns c =
    let all : length c.args.cell.now.pci_devices ≤ c.loop-number.number = omega arith in
    none_at_all (is_other c.args.cell.now c.args.bdf) (length c.args.cell.now.pci_devices) c.loop-number.number (other_within c.args.cell.now c.args.bdf) all c.loop-number.invariant
