-- Beside 15 cells no CPU may be given away.
use Rattle.std.proofs.Common.{◌≡◌, ℕ, Bool, ap, refl, ◌∙◌}
use Rattle.std.proofs.lemmas.Nat.Bits.{bit_at-zero}
use Rattle.jh_num.specs.Bits.{has_bit}
use Rattle.jh_check.specs.Refusals.{nobody, refusal_of}
use Rattle.jh_history.specs.Admitted.{pool_pages}
use Rattle.jh_history.proofs.FactsLemmas.{same_function}
use Rattle.jh_history.proofs.creation.refusal_with.Goals as goal

none_given : (may : ℕ) → may ≡ 0 → (cpu : ℕ) → nobody cpu ≡ has_bit may cpu
none_given may none cpu = rw (none, bit_at-zero cpu) refl

pub returns-then-cells-eq-MAX_CELLS : goal.returns-then-cells-eq-MAX_CELLS
returns-then-cells-eq-MAX_CELLS c =
    let system = c.args.image.now.system in
    let may = c.args.may in
    c.refusal_without_cpus.ensures.value c.args.pages (pool_pages system)
    ∙ ap (λ (m : ℕ → Bool). refusal_of system c.args.cells.now c.args.config.now m c.args.pages (pool_pages system)) (same_function nobody (has_bit may) (none_given may (c.requires.full c.if-cells-eq-MAX_CELLS.true)))
