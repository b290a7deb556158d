-- Each window brings its tables, until no region ends behind, or none is left.
use Rattle.std.proofs.Common.{◌≡◌, ℕ, ◌+◌, ◌*◌, sym, ap, ◌∙◌, arith}
use Rattle.jh_shape.specs.declared.marks.TheConstants.{WINDOW, WINDOWS}
use Rattle.jh_shape.specs.Claims.{claims_of}
use Rattle.jh_shape.specs.Private.Marks.{tables_in}
use Rattle.jh_shape.proofs.WindowLemmas.{all_windows, in_windows, last_window, next_window, no_window}
use Rattle.jh_shape.proofs.target.Target.tables_at.Goals as goal

pub loop-window-init : goal.loop-window-init
loop-window-init c = (omega arith, omega arith, sym (no_window (claims_of c.args.self.now) c.args.level))

pub loop-window-preserved : goal.loop-window-preserved
loop-window-preserved c =
    let claims = claims_of c.args.self.now in
    let level = c.args.level in
    let window = c.loop-window.window in
    let few = c.loop-window.invariant.1 in
    let bound = c.tables_in-tables.ensures.bound in
    let next = next_window claims level window c.requires.level in
    let value : c.tables_in-tables.result ≡ tables_in claims level (window * WINDOW) = c.tables_in-tables.ensures.value in
    let test = c.loop-window-test.true in (
      omega arith,
      omega arith,
      ap (λ (t : ℕ). t + c.tables_in-tables.result) c.loop-window.invariant.2
          ∙ ap (λ (t : ℕ). in_windows claims level window + t) value
          ∙ sym next,
    )

pub returns-then-not-any_beyond-clause-value : goal.returns-then-not-any_beyond-clause-value
returns-then-not-any_beyond-clause-value c =
    c.loop-window.invariant.2
    ∙ last_window (claims_of c.args.self.now) c.args.level c.loop-window.window c.requires.level c.loop-window.invariant.0 (sym c.any_beyond.ensures ∙ c.if-not-any_beyond.true)

pub returns-clause-value : goal.returns-clause-value
returns-clause-value c =
    let end : c.loop-window.window ≡ WINDOWS = (let few = c.loop-window.invariant.0 in let test = c.loop-window-test.false in omega arith) in
    c.loop-window.invariant.2
    ∙ ap (λ (window : ℕ). in_windows (claims_of c.args.self.now) c.args.level window) end
    ∙ all_windows (claims_of c.args.self.now) c.args.level c.requires.level
