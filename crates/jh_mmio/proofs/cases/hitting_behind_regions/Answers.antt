-- The ECAM window, or the first window that has the access.
use Rattle.std.proofs.Common.{sym, ◌∙◌, Some, None}
use Rattle.jh_mmio.proofs.AccessLemmas.{lies_parts}
use Rattle.jh_mmio.proofs.HittingLemmas.{behind_window, behind_ecam}
use Rattle.jh_mmio.proofs.cases.hitting_behind_regions.Goals as goal

pub by_ecam-requires : goal.by_ecam-requires
by_ecam-requires c = (lies_parts c.args.ecam.start c.args.ecam.end c.args.at c.args.width c.requires.some (sym c.if-lies_in_range.ensures)).0

pub returns-then-lies_in_range : goal.returns-then-lies_in_range
returns-then-lies_in_range c = c.by_ecam.ensures ∙ behind_ecam c.args.ecam c.args.windows.now c.args.at c.args.width (sym c.if-lies_in_range.ensures)

pub returns-in-Some : goal.returns-in-Some
returns-in-Some c = c.by_window.ensures ∙ behind_window c.args.ecam c.args.windows.now c.args.at c.args.width (Some c.in-Some.number) (sym c.if-lies_in_range.ensures) c.in-Some.ensures.first

pub returns-in-None : goal.returns-in-None
returns-in-None c = behind_window c.args.ecam c.args.windows.now c.args.at c.args.width None (sym c.if-lies_in_range.ensures) c.in-None.ensures.first
