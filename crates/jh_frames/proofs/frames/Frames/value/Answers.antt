-- One page is all the hypervisor's, or a guest's.
use Rattle.std.proofs.Common.{◌+◌, ◌%◌, ◌≤◌, arith, sym, ◌∙◌}
use Rattle.jh_frames.proofs.MemoryLemmas.{own_within, own_value, guest_all}
use Rattle.jh_frames.proofs.frames.Frames.value.Goals as goal

pub returns-then-has-clause-value : goal.returns-then-has-clause-value
returns-then-has-clause-value c =
    let within : c.args.at % 4096 + c.args.width ≤ 4096 = omega (arith, c.from.ensures) in
    rw (← c.self.view_is) (c.value.ensures.value
    ∙ own_value (record { own = c.self.inside.own; guest = c.self.inside.guest }) c.args.at c.args.width (own_within c.self.inside.own c.args.at c.args.width c.has.ensures.whole (sym c.has.ensures.value ∙ c.if-has.true) within))

pub returns-else-has-clause-value : goal.returns-else-has-clause-value
returns-else-has-clause-value c =
    let within : c.args.at % 4096 + c.args.width ≤ 4096 = omega (arith, c.from.ensures) in
    rw (← c.self.view_is) (c.value-else-has.ensures.value
    ∙ guest_all (record { own = c.self.inside.own; guest = c.self.inside.guest }) c.args.at c.args.width c.has.ensures.whole (sym c.has.ensures.value ∙ c.if-has.false) within)
