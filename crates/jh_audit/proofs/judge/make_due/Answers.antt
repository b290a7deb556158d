-- A CPU that the board lacks has nothing due.
use Rattle.std.proofs.Common.{sym, ◌∙◌, refl}
use Rattle.jh_history.specs.History.{facts}
use Rattle.jh_history.proofs.Public.{due_at_absent}
use Rattle.jh_audit.proofs.judge.make_due.Goals as goal

pub returns-then-not-has_cpu : goal.returns-then-not-has_cpu
returns-then-not-has_cpu c = (due_at_absent c.args.board.now.image (facts c.args.board.now.image c.args.board.now.form c.args.board.now.entries) c.args.entry.now.cpu (sym c.has_cpu.ensures ∙ c.if-not-has_cpu.true), refl)
