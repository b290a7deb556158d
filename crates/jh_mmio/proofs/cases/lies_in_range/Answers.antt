-- The range's end is its start and what it has.
use Rattle.std.proofs.Common.{◌≡◌, ◌+◌, ◌-◌, ap, ◌∙◌, arith}
use Rattle.jh_mmio.specs.Dispatch.{lies_between}
use Rattle.jh_mmio.proofs.cases.lies_in_range.Goals as goal

pub returns : goal.returns
returns c =
    let e : c.args.range.start + (c.args.range.end - c.args.range.start) ≡ c.args.range.end = omega (arith, c.args.range.ordered) in
    c.lies_in.ensures ∙ ap (λ end. lies_between c.args.range.start end c.args.at c.args.width) e
