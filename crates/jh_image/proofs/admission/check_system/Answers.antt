-- Something is found, or the pool decides.
use Rattle.std.proofs.Common.{◌≡◌, [], sym, ◌∙◌, refl}
use Rattle.std.proofs.lemmas.Bool.{false≢true}
use Rattle.jh_check.specs.Findings.{findings}
use Rattle.jh_image.specs.declared.fault.ImageCause.TheVariants.{Findings}
use Rattle.jh_image.specs.Private.Causes.{IsUnadmitted}
use Rattle.jh_check.proofs.Public.{capped_none, capped_nil}
use Rattle.jh_image.proofs.StopLemmas.{on_refusal, checked_ok, checked_err}
use Rattle.jh_image.proofs.admission.check_system.Goals as goal

pub returns-then-not-is_empty-clause-err : goal.returns-then-not-is_empty-clause-err
returns-then-not-is_empty-clause-err c =
    let system = c.args.system.now in
    let all = findings system [] in
    on_refusal (IsUnadmitted c.args.board.now c.args.name.now system) c.args.name.now (Findings c.in_ok-found.found) c.refused.result c.refused.ensures
    (refl, c.in_ok-found.ensures, λ e. false≢true (sym c.if-not-is_empty.true ∙ c.is_empty.ensures.1 (c.in_ok-found.ensures ∙ capped_nil all e)))

pub returns-clause-ok : goal.returns-clause-ok
returns-clause-ok c =
    let system = c.args.system.now in
    let clean : findings system [] ≡ [] = capped_none (findings system []) (sym c.in_ok-found.ensures ∙ c.is_empty.ensures.0 c.if-not-is_empty.false) in
    checked_ok system clean c.check_pool.result c.check_pool.ensures.ok

pub returns-clause-err : goal.returns-clause-err
returns-clause-err c =
    let system = c.args.system.now in
    let clean : findings system [] ≡ [] = capped_none (findings system []) (sym c.in_ok-found.ensures ∙ c.is_empty.ensures.0 c.if-not-is_empty.false) in
    checked_err c.args.board.now c.args.name.now system clean c.check_pool.result c.check_pool.ensures.err
