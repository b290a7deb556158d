-- A spare CPU is taken where one is still wanted; else the set stays.
use Rattle.std.proofs.Common.{◌≡◌, ◌-◌, suc, true, false, rules, arith, sym, ◌∙◌}
use Rattle.jh_cellcfg.specs.Cells.{is_cpu_set}
use Rattle.jh_plan.specs.Cpus.{is_spare}
use Rattle.jh_plan.proofs.CpuLemmas.{few_at, left_none, left_passed, left_taken, none_wanted, not_passing, passed_step, taken_step}
use Rattle.jh_plan.proofs.cpus.greatest_cpus.Goals.{else-left-gt0-via-then-left-gt0+else-is_spare, else-left-gt0-via-else-left-gt0}
use Rattle.jh_plan.proofs.cpus.greatest_cpus.Goals as goal

pub loop-cpu-preserved-then-is_spare : goal.loop-cpu-preserved-then-is_spare
loop-cpu-preserved-then-is_spare c =
    let spare = is_spare c.args.root.now c.args.earlier.now in
    let count = c.args.count in
    let loop = c.loop-cpu in
    let cpu = loop.cpu - 1 in
    let next : loop.cpu ≡ suc cpu = omega (arith, c.loop-cpu-test.true) in
    let passes : spare cpu ≡ true = sym c.is_spare.ensures ∙ c.if-is_spare.true in
    record {
      within = omega (arith, loop.invariant.within);
      bytes = search rules;
      each = c.put_cpu.ensures.each loop.invariant.each;
      left = left_taken spare count cpu loop.cpu loop.left next loop.invariant.within loop.invariant.left passes;
      names = taken_step spare count cpu loop.cpu loop.left (is_cpu_set loop.set) (is_cpu_set c.put_cpu.new.set) next loop.invariant.within loop.invariant.left c.if-left-gt0.true passes loop.invariant.names c.put_cpu.ensures.names;
    }

pub loop-cpu-preserved : goal.loop-cpu-preserved
loop-cpu-preserved c =
    let spare = is_spare c.args.root.now c.args.earlier.now in
    let count = c.args.count in
    let loop = c.loop-cpu in
    let cpu = loop.cpu - 1 in
    let next : loop.cpu ≡ suc cpu = omega (arith, c.loop-cpu-test.true) in
    elim c.else-left-gt0.branch [
      | else-left-gt0-via-then-left-gt0+else-is_spare w ↦
          let fails : spare cpu ≡ false = sym w.is_spare.ensures ∙ w.if-is_spare.false in
          record {
            within = omega (arith, loop.invariant.within);
            bytes = loop.invariant.bytes;
            each = loop.invariant.each;
            left = left_passed spare count cpu loop.cpu loop.left next loop.invariant.left fails;
            names = passed_step spare count cpu loop.cpu (is_cpu_set loop.set) next (not_passing spare count cpu fails) loop.invariant.names;
          }
      | else-left-gt0-via-else-left-gt0 w ↦
          let none : loop.left ≡ 0 = omega (arith, w.if-left-gt0.false) in
          record {
            within = omega (arith, loop.invariant.within);
            bytes = loop.invariant.bytes;
            each = loop.invariant.each;
            left = left_none spare count cpu loop.cpu loop.left next loop.invariant.left none;
            names = passed_step spare count cpu loop.cpu (is_cpu_set loop.set) next (none_wanted spare count cpu loop.cpu loop.left next loop.invariant.left none) loop.invariant.names;
          }
    ]

pub returns-else-left-eq0 : goal.returns-else-left-eq0
returns-else-left-eq0 c =
    let loop = c.loop-cpu in
    few_at (is_spare c.args.root.now c.args.earlier.now) c.args.count loop.cpu loop.left (omega (arith, c.loop-cpu-test.false)) loop.invariant.left (omega (arith, c.if-left-eq0.false))
