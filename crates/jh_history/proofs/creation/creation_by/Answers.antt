-- A configuration that was read.
use Rattle.std.proofs.Common.{ℕ, ◌^◌, ◌<◌, Bool, List, ap, sym, ◌∙◌, w64, arith}
use Rattle.std.specs.Int.{bit_at, trailing_zeros}
use Rattle.std.proofs.lemmas.Bool.{eq-eqb}
use Rattle.std.proofs.lemmas.Nat.Bits.{bit_at-trailing_zeros}
use Rattle.jh_num.specs.Bits.{has_bit}
use Rattle.jh_cellcfg.specs.declared.config.CellConfig.{CellConfig}
use Rattle.jh_history.specs.Phases.{may_give, unless_refused}
use Rattle.jh_shape.specs.Lives.{configs_of}
use Rattle.jh_history.specs.ReadView.{refusal_by}
use Rattle.jh_history.proofs.FactsLemmas.{same_function}
use Rattle.jh_history.proofs.creation.creation_by.Goals as goal

pub returns-in_ok-refusal-in-Reads-clause-told : goal.returns-in_ok-refusal-in-Reads-clause-told
returns-in_ok-refusal-in-Reads-clause-told c = λ f e h.
    let image = c.args.image.now in
    let config = c.in-Reads.config in
    let may : ℕ → Bool = has_bit c.given-may.result in
    rw c.in-Reads.is
    (c.unless_refused.ensures
    ∙ ap (unless_refused config)
    (c.in_ok-refusal-in-Reads.ensures
    ∙ ap (λ (cells : List CellConfig). refusal_by image cells may config) (sym e)
    ∙ ap (λ (m : ℕ → Bool). refusal_by image (configs_of f.cells) m config) (same_function may (may_give image f c.args.caller) (c.given-may.ensures f h))))

-- a number that isn't 0 has a bit
pub returns-then-may-ne0-clause-given : goal.returns-then-may-ne0-clause-given
returns-then-may-ne0-clause-given c = λ f h.
    let may : ℕ = c.given-may.result in
    let some : 0 < may = omega (arith, c.if-may-ne0.true) in
    let small : may < 2 ^ 64 = omega (arith, c.given-may.type_inv) in
    let lowest : ℕ = trailing_zeros w64 may in
    let set = (bit_at-trailing_zeros w64 may some small).1 in
    (lowest, sym (c.given-may.ensures f h lowest) ∙ eq-eqb (bit_at may lowest) 1 set)
