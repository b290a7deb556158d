-- Something is found, or the pool decides.
use Rattle.std.proofs.Common.{◌≡◌, [], sym, ◌∙◌, arith}
use Rattle.std.proofs.lemmas.Bool.{false≢true}
use Rattle.jh_check.specs.Findings.{findings}
use Rattle.jh_check.proofs.Public.{capped_nil, capped_none}
use Rattle.jh_cli.proofs.plan.unadmitted.Goals as goal

pub returns-then-not-is_empty : goal.returns-then-not-is_empty
returns-then-not-is_empty c =
    let all = findings c.args.system.now [] in
    (λ e. false≢true (sym c.if-not-is_empty.true ∙ c.is_empty.ensures.1 (c.in_ok-found.ensures ∙ capped_nil all e)), c.in_ok-found.ensures)

pub returns-then-have-need : goal.returns-then-have-need
returns-then-have-need c =
    let clean : findings c.args.system.now [] ≡ [] = capped_none (findings c.args.system.now []) (sym c.in_ok-found.ensures ∙ c.is_empty.ensures.0 c.if-not-is_empty.false) in
    (clean, omega (arith, c.if-have-need.true, c.root_pages-need.ensures, c.pool_pages-have.ensures), c.root_pages-need.ensures, c.pool_pages-have.ensures)

pub returns : goal.returns
returns c = record {
  clean = capped_none (findings c.args.system.now []) (sym c.in_ok-found.ensures ∙ c.is_empty.ensures.0 c.if-not-is_empty.false);
  room = omega (arith, c.if-have-need.false, c.root_pages-need.ensures, c.pool_pages-have.ensures);
}
