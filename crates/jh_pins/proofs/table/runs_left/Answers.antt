-- One cell more.
use Rattle.std.proofs.Common.{◌+◌, List, take, sym, subst, arith}
use Rattle.jh_pins.specs.declared.pin.PinRun.{PinRun}
use Rattle.jh_pins.specs.Runs.{AreRuns}
use Rattle.jh_pins.specs.Private.Pieces.{names, is_left, is_without}
use Rattle.jh_pins.proofs.HolderLemmas.{one_left_more}
use Rattle.jh_pins.proofs.RunLemmas.{same_runs}
use Rattle.jh_pins.proofs.table.runs_left.Goals as goal

pub loop-other-preserved : goal.loop-other-preserved
loop-other-preserved c =
    let own = c.args.own.now in
    let others = c.args.others.now in
    let index = c.loop-other.other-index in
    let other = c.other-item.result in
    let P : List PinRun → Type 0 = λ l. AreRuns (is_left own (take index others)) l in
    same_runs (is_without (is_left own (take index others)) (names other)) (is_left own (take (index + 1) others)) c.in_ok-left-2.left.items
    (λ pin. one_left_more own others index other pin (omega arith) c.other-item.is)
    (c.in_ok-left-2.ensures (is_left own (take index others)) (names other) (subst P (sym c.as_slice.ensures.value) c.loop-other.invariant) c.runs-in-loop-other.ensures)
