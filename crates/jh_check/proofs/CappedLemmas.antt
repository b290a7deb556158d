-- The first thousand findings are none exactly where there is none.
use Rattle.std.proofs.Common.{◌≡◌, ℕ, zero, suc, ◌<◌, List, [], ◌∷◌, take, refl, arith}
use Rattle.jh_check.specs.declared.finding.Finding.{Finding}
use Rattle.jh_check.specs.declared.checking.TheConstants.{MAX_FINDINGS}
use Rattle.jh_check.specs.Lists.{capped}

take_none : (n : ℕ) (xs : List Finding) → 0 < n → take n xs ≡ [] → xs ≡ []
take_none zero xs some h = absurd (omega arith)
take_none (suc n) [] some h = refl
take_none (suc n) (x ∷ xs) some h = cc

take_empty : (n : ℕ) (xs : List Finding) → xs ≡ [] → take n xs ≡ []
take_empty zero xs h = refl
take_empty (suc n) [] h = refl
take_empty (suc n) (x ∷ xs) h = cc

pub capped_none : (xs : List Finding) → capped xs ≡ [] → xs ≡ []
unfolding capped
capped_none xs h = take_none MAX_FINDINGS xs (omega arith) h

pub capped_nil : (xs : List Finding) → xs ≡ [] → capped xs ≡ []
unfolding capped
capped_nil xs h = take_empty MAX_FINDINGS xs h
