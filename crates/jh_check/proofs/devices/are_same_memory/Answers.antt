-- Lists that match section by section are equally long, so that others aren't the same memory.
use Rattle.std.proofs.Common.{sym}
use Rattle.std.specs.Cmp.Lexicographic.{pointwise, as_long}
use Rattle.std.proofs.lemmas.Bool.{false_from_ne_true}
use Rattle.jh_check.specs.Devices.{is_same_memory}
use Rattle.jh_check.proofs.devices.are_same_memory.Goals as goal

pub returns-then-ones-others : goal.returns-then-ones-others
returns-then-ones-others c =
    sym (false_from_ne_true (pointwise is_same_memory c.args.ones.now c.args.others.now) (λ e. c.if-ones-others.true (as_long is_same_memory c.args.ones.now c.args.others.now e)))
