-- The first two bytes name CPUs below 16, and of those behind them none may be given away.
use Rattle.std.proofs.Common.{◌≡◌, ◌<◌, ℕ, ◌∙◌, sym, subst, get_or, drop, not, List}
use Rattle.std.specs.List.{list_all}
use Rattle.jh_cellcfg.specs.Limits.{is_zero}
use Rattle.jh_check.proofs.RefusalLemmas.{beyond_low, beyond_high}
use Rattle.jh_check.proofs.refusal.names_beyond.Goals as goal

pub returns-then-any_beyond : goal.returns-then-any_beyond
returns-then-any_beyond c =
    c.if-any_beyond.true ∙ beyond_low c.args.may c.args.cell.now.cpu_set (sym c.any_beyond.ensures ∙ c.if-any_beyond.true)

pub returns-else-any_beyond : goal.returns-else-any_beyond
returns-else-any_beyond c =
    let set = c.args.cell.now.cpu_set in
    let bytes = subst (λ (xs : List ℕ). (i : ℕ) → get_or xs i 0 < 256) c.as_slice.ensures.value c.names_high.ensures.bytes in
    let value = subst (λ (xs : List ℕ). c.names_high.result ≡ not (list_all is_zero (drop 2 xs))) c.as_slice.ensures.value c.names_high.ensures.value in
    value ∙ beyond_high c.args.may set c.ranges.may.fits bytes (sym c.any_beyond.ensures ∙ c.if-any_beyond.false)
