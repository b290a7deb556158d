-- New ports are the object's, and their callers are all for whom it was opened.
use Rattle.std.proofs.Common.{ℕ, List, Contains, All, sym, subst}
use Rattle.std.proofs.lemmas.List.Elements.{All-weaker, All-contains_itself}
use Rattle.jh_turn.specs.Private.Dealing.{IsNewPort}
use Rattle.jh_turn.specs.Ports.{IsPortOf, opened_value}
use Rattle.jh_turn.proofs.shared.Shared.open.Goals as goal

pub returns-clause-all : goal.returns-clause-all
returns-clause-all g c = (
  All-weaker (IsNewPort (g.T.Turner.history (opened_value c.in_ok-shared.shared)) c.in_ok-shared.shared) (IsPortOf c.in_ok-shared.shared) (λ p new. new.0) c.deal-ports.result.items c.deal-ports.ensures.ports,
  subst (λ (z : List ℕ × List ℕ). All (Contains z.0) z.1) (λ i. (sym c.deal-ports.ensures.callers i, sym c.in_ok-shared.ensures.opened.1 i)) (All-contains_itself c.args.callers.now),
)
