-- The one region that may have the address decides.
use Rattle.std.proofs.Common.{sym, ◌∙◌}
use Rattle.jh_cellcfg.proofs.Public.{has_some}
use Rattle.jh_history.proofs.Public.{gives_has}
use Rattle.jh_board.proofs.IndexLemmas.{giving_true, giving_false, region_of_none}
use Rattle.jh_board.proofs.indexed.giving.Goals as goal

pub returns-then-gives-clause-found : goal.returns-then-gives-clause-found
returns-then-gives-clause-found c = λ regions is. giving_true regions c.args.access c.args.at c.in_ok-found.found (rw c.in_ok-found.was at is) (sym c.if-gives.ensures.gives)

pub returns-then-gives-clause-within : goal.returns-then-gives-clause-within
returns-then-gives-clause-within c = λ within. (rw c.in_ok-found.was at within) (has_some c.in_ok-found.found c.args.at (gives_has c.args.access c.args.at c.in_ok-found.found (sym c.if-gives.ensures.gives)))

pub returns-else-gives-clause-found : goal.returns-else-gives-clause-found
returns-else-gives-clause-found c = λ regions is. giving_false regions c.args.access c.args.at c.in_ok-found.found (rw c.in_ok-found.was at is) (sym c.if-gives.ensures.gives)

pub returns-in_err-found-clause-found : goal.returns-in_err-found-clause-found
returns-in_err-found-clause-found c = λ regions is. c.from_residual.ensures ∙ region_of_none regions c.args.access c.args.at (rw c.in_err-found.was at is)
