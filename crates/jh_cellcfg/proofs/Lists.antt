-- Lists of records, one after the other.
use Rattle.std.proofs.Common.{◌≡◌, ℕ, ◌+◌, ◌*◌, ◌<◌, ◌≤◌, List, [], ◌∷◌, ◌++◌, length, refl, sym, ap, ◌∙◌, append_assoc, length-append, arith}
use Rattle.std.specs.List.{flat_map, AllByRecursion}
use Rattle.std.proofs.lemmas.List.{append-nil}
use Rattle.std.proofs.lemmas.List.Concat.{flat_map-append}
use Rattle.std.proofs.Math.Nat.{add-mul, mul-le-mul_right}

-- what the loop that reads records has read and what is left
pub record ReadSoFar {R : Type 0} (bytes_of : R → List ℕ) (Fits : R → Type 0) (size : ℕ) (whole rest : List ℕ) (list : List R) (n : ℕ) : Type 0 where
  pub taken : whole ≡ flat_map bytes_of list ++ rest
  pub fits : AllByRecursion Fits list
  pub count : length list ≡ n
  pub left : length whole ≡ n * size + length rest

pub AllByRecursion_push : {R : Type 0} (P : R → Type 0) (xs : List R) (x : R) → AllByRecursion P xs → P x → AllByRecursion P (xs ++ x ∷ [])
AllByRecursion_push P [] x all here = (here, tt)
AllByRecursion_push P (y ∷ ys) x all here = (all.0, AllByRecursion_push P ys x all.1 here)

-- while records are missing, there is room for one
pub room : (count i size len rest : ℕ) → i < count → count * size ≤ len → len ≡ i * size + rest → size ≤ rest
room count i size len rest lt enough is =
    let more : (i + 1) * size ≤ count * size = mul-le-mul_right size (omega arith) in
    let split : (i + 1) * size ≡ i * size + 1 * size = add-mul i 1 size in
    omega arith

pub one_more : {R : Type 0} (bytes_of : R → List ℕ) (Fits : R → Type 0) (size : ℕ) (whole rest after : List ℕ) (list : List R) (n : ℕ) (x : R)
    → ReadSoFar bytes_of Fits size whole rest list n → rest ≡ bytes_of x ++ after → Fits x → length rest ≡ size + length after
    → ReadSoFar bytes_of Fits size whole after (list ++ x ∷ []) (n + 1)
one_more {R = R} bytes_of Fits size whole rest after list n x so_far taken fits left = record {
  taken = so_far.taken ∙ ap (λ (r : List ℕ). flat_map bytes_of list ++ r) taken ∙ sym (append_assoc (flat_map bytes_of list) (bytes_of x) after)
      ∙ ap (λ (r : List ℕ). r ++ after) (ap (λ (r : List ℕ). flat_map bytes_of list ++ r) (sym (append-nil (bytes_of x))) ∙ sym (flat_map-append bytes_of list (x ∷ [])));
  fits = AllByRecursion_push Fits list x so_far.fits fits;
  count = omega (arith, so_far.count, length-append list (x ∷ []));
  left = let split : (n + 1) * size ≡ n * size + 1 * size = add-mul n 1 size in omega (arith, so_far.left, left);
}

pub none_yet : {R : Type 0} (bytes_of : R → List ℕ) (Fits : R → Type 0) (size : ℕ) (whole : List ℕ) → ReadSoFar bytes_of Fits size whole whole [] 0
none_yet bytes_of Fits size whole = record { taken = refl; fits = tt; count = refl; left = omega arith }
