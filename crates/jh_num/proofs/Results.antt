-- Answers that are values or errors.
use Rattle.std.proofs.Common.{◌≡◌, Result, Ok, Err, sym, subst}
use Rattle.std.specs.Prelude.{IsErrAnd, IfErr}

-- a result is one value
pub ok_one : {X E : Type 0} (r : Result X E) (one other : X) → r ≡ Ok one → r ≡ Ok other → one ≡ other
ok_one r one other h k = cc

-- a result is no value where it is an error
pub ok_err : {X E : Type 0} (r : Result X E) (x : X) (e : E) → r ≡ Ok x → r ≡ Err e → ⊥
ok_err r x e h k = let same : r ≡ Ok x = h in cc

-- what holds of an error that is passed up holds of the answer
pub passed_up : {X E : Type 0} (r : Result X E) (e : E) (P : E → Type 0) → IsErrAnd r (λ y. y ≡ e) → P e → IfErr r P
passed_up (Ok x) e P is p = tt
passed_up (Err y) e P is p = subst P (sym is) p
