-- One page more was looked at.
use Rattle.std.proofs.Common.{◌≡◌, ◌*◌, true, false, arith, sym, ◌∙◌}
use Rattle.jh_frames.specs.Memory.{holds}
use Rattle.jh_frames.proofs.HeldLemmas.{missing_held, missing_lacks}
use Rattle.jh_frames.proofs.frames.Frames.missing_from.Goals as goal
use Rattle.jh_frames.proofs.frames.Frames.missing_from.Goals.{then-not-holds, else-not-holds}

pub loop-number-preserved : goal.loop-number-preserved
loop-number-preserved c =
    elim c.if-not-holds.branch [
      | then-not-holds w ↦
          let lacks : holds c.args.self.now (4096 * c.loop-number.number) ≡ false = sym c.holds.ensures.value ∙ w.if-not-holds.true in
          rw w.missing-is (record {
            missing = missing_lacks c.args.self.now c.args.first c.loop-number.number c.loop-number.missing c.loop-number.auto.number c.loop-number.invariant.missing lacks;
            most = omega (arith, c.loop-number.invariant.most);
          })
      | else-not-holds w ↦
          let held : holds c.args.self.now (4096 * c.loop-number.number) ≡ true = sym c.holds.ensures.value ∙ w.if-not-holds.false in
          rw w.missing-is (record {
            missing = missing_held c.args.self.now c.args.first c.loop-number.number c.loop-number.missing c.loop-number.auto.number c.loop-number.invariant.missing held;
            most = omega (arith, c.loop-number.invariant.most);
          })
    ]
