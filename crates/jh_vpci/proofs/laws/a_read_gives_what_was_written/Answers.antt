-- An aligned access ends in its word, so that a read shows the very bits of the write.
use Rattle.std.proofs.Common.{◌≡◌, ◌+◌, ◌*◌, ◌%◌, ◌<◌, ◌≤◌, ◌⊎◌, inl, inr, ℕ, arith, subst, ap}
use Rattle.jh_vpci.specs.Space.{Space}
use Rattle.jh_vpci.specs.Windows.{AreWindows}
use Rattle.jh_vpci.proofs.WordLemmas.{read_put, read_kept}
use Rattle.jh_vpci.proofs.laws.a_read_gives_what_was_written.Goals as goal

vectors_fit : (c : goal.After-_space) → c.args._space.now.spec.vectors < 256
vectors_fit c =
    let same = ap (λ (space : Space). space.spec.vectors) c._space.view_is in
    omega (arith, same)

-- an aligned access ends in its word
within_word : (at width : ℕ) → (width ≡ 1) ⊎ ((width ≡ 2) ⊎ (width ≡ 4)) → at % width ≡ 0 → 8 * (at % 4) + 8 * width ≤ 32
within_word at width (inl e) aligned = omega arith
within_word at width (inr (inl e)) aligned = let P : ℕ → Type 0 = λ n. at % n ≡ 0 in let even : at % 2 ≡ 0 = subst P e aligned in omega arith
within_word at width (inr (inr e)) aligned = let P : ℕ → Type 0 = λ n. at % n ≡ 0 in let whole : at % 4 ≡ 0 = subst P e aligned in omega arith

pub returns-clause-put : goal.returns-clause-put
returns-clause-put c =
    let P : Space → Type 0 = λ space. AreWindows space.bar0 space.bar1 in
    read_put c.args._space.now c.args._at c.args._width c.args._value c.args._bit
    (subst P c._space.view_is c._space.invariant) (vectors_fit c)
    (within_word c.args._at c.args._width c.requires.width c.requires.aligned) c.requires.bit

pub returns-clause-kept : goal.returns-clause-kept
returns-clause-kept c =
    let P : Space → Type 0 = λ space. AreWindows space.bar0 space.bar1 in
    read_kept c.args._space.now c.args._at c.args._width c.args._value c.args._bit
    (subst P c._space.view_is c._space.invariant) (vectors_fit c)
    (within_word c.args._at c.args._width c.requires.width c.requires.aligned) c.requires.bit
