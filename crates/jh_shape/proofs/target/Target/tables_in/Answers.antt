-- A window that no region meets has no table, and one that is met is itself the one of the first level.
use Rattle.std.proofs.Common.{sym, ap, ◌∙◌}
use Rattle.jh_shape.specs.Claims.{claims_of}
use Rattle.jh_shape.specs.Private.Marks.{tables_in}
use Rattle.jh_shape.proofs.WindowLemmas.{empty_window, first_level}
use Rattle.jh_shape.proofs.target.Target.tables_in.Goals as goal

pub returns-then-not-any_met-clause-value : goal.returns-then-not-any_met-clause-value
returns-then-not-any_met-clause-value c =
    sym (empty_window (claims_of c.args.self.now) c.args.level c.args.base (sym c.any_met.ensures ∙ c.if-not-any_met.true))

pub returns-then-level-eq-FIRST_LEVEL-clause-value : goal.returns-then-level-eq-FIRST_LEVEL-clause-value
returns-then-level-eq-FIRST_LEVEL-clause-value c =
    sym (ap (λ level. tables_in (claims_of c.args.self.now) level c.args.base) c.if-level-eq-FIRST_LEVEL.true
    ∙ first_level (claims_of c.args.self.now) c.args.base (sym c.any_met.ensures ∙ c.if-not-any_met.false))
