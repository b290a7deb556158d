-- The bit of each CPU is set as its turn comes.
use Rattle.std.proofs.Common.{sym, ◌∙◌}
use Rattle.jh_history.specs.Lives.{is_on_board}
use Rattle.jh_cli.proofs.CpuLemmas.{none_below, one_more, one_less, all_below}
use Rattle.jh_cli.proofs.schedule.cpu_mask_of.Goals.{then-is_on_board, else-is_on_board}
use Rattle.jh_cli.proofs.schedule.cpu_mask_of.Goals as goal

pub loop-cpu-init : goal.loop-cpu-init
loop-cpu-init c = none_below (is_on_board c.args.image.now)

pub loop-cpu-preserved : goal.loop-cpu-preserved
loop-cpu-preserved c =
    let p = is_on_board c.args.image.now in
    let k = c.loop-cpu.cpu in
    elim c.if-is_on_board.branch [
      | then-is_on_board w ↦ one_more p k c.loop-cpu.cpus c.if-is_on_board.cpus c.loop-cpu-test.true w.cpus-is (sym c.is_on_board.ensures ∙ w.if-is_on_board.true) c.loop-cpu.invariant
      | else-is_on_board w ↦ one_less p k c.loop-cpu.cpus c.if-is_on_board.cpus w.cpus-is (sym c.is_on_board.ensures ∙ w.if-is_on_board.false) c.loop-cpu.invariant
    ]

pub returns : goal.returns
returns c = all_below (is_on_board c.args.image.now) c.loop-cpu.cpu c.loop-cpu.cpus c.loop-cpu-test.false c.loop-cpu.invariant
