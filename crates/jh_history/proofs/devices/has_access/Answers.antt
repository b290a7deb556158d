-- The bytes behind the first are enough, or the first lies before the start.
use Rattle.std.proofs.Common.{arith}
use Rattle.jh_mmio.proofs.Public.{lies_test}
use Rattle.jh_history.proofs.devices.has_access.Goals as goal

pub returns-then-wanted-window : goal.returns-then-wanted-window
returns-then-wanted-window c =
    let window = c.args.window.now in
    let wanted = c.args.wanted.now in
    lies_test window.start window.size wanted.at wanted.width c.from.result c.saturating_sub.result c.from.ensures c.saturating_sub.ensures c.requires (omega arith)
