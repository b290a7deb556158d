-- Programs that grow operation by operation.
use Rattle.std.proofs.Common.{◌≡◌, ℕ, ◌+◌, ◌*◌, List, [], ◌∷◌, ◌++◌, refl, sym, ap, subst, ◌∙◌, append_assoc, add-one}
use Rattle.jh_script.specs.declared.op.Op.TheVariants.{Read, Write}
use Rattle.jh_run.specs.Soak.{number_writes, number_reads, round_ops, rounds_ops}

-- a part behind others, with one more behind it
pub behind_more : {X : Type 0} (first part more before after : List X) (x : X) → before ≡ first ++ part → after ≡ before ++ x ∷ [] → more ≡ part ++ x ∷ [] → after ≡ first ++ more
behind_more first part more before after x was is grown = is ∙ (ap (λ w. w ++ x ∷ []) was ∙ (append_assoc first part (x ∷ []) ∙ ap (λ w. first ++ w) (sym grown)))

pub writes_none : (base first : ℕ) → number_writes base first 0 ≡ []
unfolding number_writes
writes_none base first = refl

pub writes_more : (base first n : ℕ) → number_writes base first (n + 1) ≡ number_writes base first n ++ Write 8 (base + 8 * (first + n)) (first + n) ∷ []
unfolding number_writes
writes_more base first n = rw add-one refl

pub reads_none : (base : ℕ) → number_reads base 0 ≡ []
unfolding number_reads
reads_none base = refl

pub reads_more : (base n : ℕ) → number_reads base (n + 1) ≡ number_reads base n ++ Read 8 (base + 8 * n) ∷ []
unfolding number_reads
reads_more base n = rw add-one refl

pub rounds_none : rounds_ops 0 ≡ []
unfolding rounds_ops
rounds_none = refl

pub rounds_more : (n : ℕ) → rounds_ops (n + 1) ≡ rounds_ops n ++ round_ops (n + 1)
unfolding rounds_ops
rounds_more n = subst (λ m. rounds_ops m ≡ rounds_ops n ++ round_ops (n + 1)) (sym (add-one n)) refl
