-- A CPU's bit in the bitmap.
use Rattle.std.proofs.Common.{◌≡◌, ◌↔◌, ℕ, zero, suc, ◌+◌, ◌*◌, ◌/◌, ◌%◌, ◌<◌, ◌≤◌, Bool, true, false, cond, List, [], ◌∷◌, ◌++◌, ◌==◌, length, get_or, option_and_then, Some, None, inl, inr, refl, sym, ap, ◌∙◌, subst, arith}
use Rattle.std.specs.Prelude.{Contains}
use Rattle.std.specs.Int.{bit_at}
use Rattle.std.proofs.lemmas.Bool.{cases_lt, eqb-true, eq-eqb, false≢true}
use Rattle.std.proofs.lemmas.List.{get_or_append_left, get_or_push}
use Rattle.std.proofs.lemmas.Option.{same_Some, none-some}
use Rattle.jh_num.proofs.Public.{IsFound_from_list_any, list_any_from_Contains}
use Rattle.serde_json.specs.Data.{Data}
use Rattle.jh_spec.specs.Json.{list_told}
use Rattle.jh_spec.specs.Fields.{u64_told}
use Rattle.jh_spec.specs.Cpus.{names_cpu, are_new, cpu_byte, bitmap, bitmap_of, cpus_told}
use Rattle.jh_spec.proofs.Marks.{length_bitmap}

byte_at : (bytes : ℕ) (cpus : List ℕ) (k : ℕ) → k < bytes → get_or (bitmap bytes cpus) k 0 ≡ cpu_byte cpus (8 * k)
unfolding bitmap
byte_at zero cpus k lt = absurd (let no : ⊥ = omega arith in no)
byte_at (suc bytes) cpus k lt =
    let counted = length_bitmap bytes cpus in
    elim (cases_lt k bytes) as (λ _. get_or (bitmap bytes cpus ++ cpu_byte cpus (8 * bytes) ∷ []) k 0 ≡ cpu_byte cpus (8 * k)) [
      | inl before ↦
          let inside : k < length (bitmap bytes cpus) = omega arith in
          get_or_append_left (bitmap bytes cpus) (cpu_byte cpus (8 * bytes) ∷ []) 0 k inside ∙ byte_at bytes cpus k before
      | inr past ↦
          let last : bytes ≡ k = omega arith in
          let there : length (bitmap bytes cpus) ≡ k = counted ∙ last in
          get_or_push (bitmap bytes cpus) (cpu_byte cpus (8 * bytes)) 0 k there ∙ ap (λ n. cpu_byte cpus (8 * n)) last
    ]

weighs : (b : Bool) (w : ℕ) → cond b w 0 ≡ cond b 1 0 * w
weighs true w = omega arith
weighs false w = omega arith

small : (b : Bool) → cond b 1 0 ≤ 1
small true = omega arith
small false = omega arith

bit_0 : (b0 b1 b2 b3 b4 b5 b6 b7 : Bool) → (cond b0 1 0 + cond b1 2 0 + cond b2 4 0 + cond b3 8 0 + cond b4 16 0 + cond b5 32 0 + cond b6 64 0 + cond b7 128 0) / 1 % 2 ≡ cond b0 1 0
bit_0 b0 b1 b2 b3 b4 b5 b6 b7 = omega (arith, weighs b0 1, weighs b1 2, weighs b2 4, weighs b3 8, weighs b4 16, weighs b5 32, weighs b6 64, weighs b7 128, small b0, small b1, small b2, small b3, small b4, small b5, small b6, small b7)

bit_1 : (b0 b1 b2 b3 b4 b5 b6 b7 : Bool) → (cond b0 1 0 + cond b1 2 0 + cond b2 4 0 + cond b3 8 0 + cond b4 16 0 + cond b5 32 0 + cond b6 64 0 + cond b7 128 0) / 2 % 2 ≡ cond b1 1 0
bit_1 b0 b1 b2 b3 b4 b5 b6 b7 = omega (arith, weighs b0 1, weighs b1 2, weighs b2 4, weighs b3 8, weighs b4 16, weighs b5 32, weighs b6 64, weighs b7 128, small b0, small b1, small b2, small b3, small b4, small b5, small b6, small b7)

bit_2 : (b0 b1 b2 b3 b4 b5 b6 b7 : Bool) → (cond b0 1 0 + cond b1 2 0 + cond b2 4 0 + cond b3 8 0 + cond b4 16 0 + cond b5 32 0 + cond b6 64 0 + cond b7 128 0) / 4 % 2 ≡ cond b2 1 0
bit_2 b0 b1 b2 b3 b4 b5 b6 b7 = omega (arith, weighs b0 1, weighs b1 2, weighs b2 4, weighs b3 8, weighs b4 16, weighs b5 32, weighs b6 64, weighs b7 128, small b0, small b1, small b2, small b3, small b4, small b5, small b6, small b7)

bit_3 : (b0 b1 b2 b3 b4 b5 b6 b7 : Bool) → (cond b0 1 0 + cond b1 2 0 + cond b2 4 0 + cond b3 8 0 + cond b4 16 0 + cond b5 32 0 + cond b6 64 0 + cond b7 128 0) / 8 % 2 ≡ cond b3 1 0
bit_3 b0 b1 b2 b3 b4 b5 b6 b7 = omega (arith, weighs b0 1, weighs b1 2, weighs b2 4, weighs b3 8, weighs b4 16, weighs b5 32, weighs b6 64, weighs b7 128, small b0, small b1, small b2, small b3, small b4, small b5, small b6, small b7)

bit_4 : (b0 b1 b2 b3 b4 b5 b6 b7 : Bool) → (cond b0 1 0 + cond b1 2 0 + cond b2 4 0 + cond b3 8 0 + cond b4 16 0 + cond b5 32 0 + cond b6 64 0 + cond b7 128 0) / 16 % 2 ≡ cond b4 1 0
bit_4 b0 b1 b2 b3 b4 b5 b6 b7 = omega (arith, weighs b0 1, weighs b1 2, weighs b2 4, weighs b3 8, weighs b4 16, weighs b5 32, weighs b6 64, weighs b7 128, small b0, small b1, small b2, small b3, small b4, small b5, small b6, small b7)

bit_5 : (b0 b1 b2 b3 b4 b5 b6 b7 : Bool) → (cond b0 1 0 + cond b1 2 0 + cond b2 4 0 + cond b3 8 0 + cond b4 16 0 + cond b5 32 0 + cond b6 64 0 + cond b7 128 0) / 32 % 2 ≡ cond b5 1 0
bit_5 b0 b1 b2 b3 b4 b5 b6 b7 = omega (arith, weighs b0 1, weighs b1 2, weighs b2 4, weighs b3 8, weighs b4 16, weighs b5 32, weighs b6 64, weighs b7 128, small b0, small b1, small b2, small b3, small b4, small b5, small b6, small b7)

bit_6 : (b0 b1 b2 b3 b4 b5 b6 b7 : Bool) → (cond b0 1 0 + cond b1 2 0 + cond b2 4 0 + cond b3 8 0 + cond b4 16 0 + cond b5 32 0 + cond b6 64 0 + cond b7 128 0) / 64 % 2 ≡ cond b6 1 0
bit_6 b0 b1 b2 b3 b4 b5 b6 b7 = omega (arith, weighs b0 1, weighs b1 2, weighs b2 4, weighs b3 8, weighs b4 16, weighs b5 32, weighs b6 64, weighs b7 128, small b0, small b1, small b2, small b3, small b4, small b5, small b6, small b7)

bit_7 : (b0 b1 b2 b3 b4 b5 b6 b7 : Bool) → (cond b0 1 0 + cond b1 2 0 + cond b2 4 0 + cond b3 8 0 + cond b4 16 0 + cond b5 32 0 + cond b6 64 0 + cond b7 128 0) / 128 % 2 ≡ cond b7 1 0
bit_7 b0 b1 b2 b3 b4 b5 b6 b7 = omega (arith, weighs b0 1, weighs b1 2, weighs b2 4, weighs b3 8, weighs b4 16, weighs b5 32, weighs b6 64, weighs b7 128, small b0, small b1, small b2, small b3, small b4, small b5, small b6, small b7)

at_bit : (cpus : List ℕ) (first k : ℕ) → k < 8 → bit_at (cpu_byte cpus first) k ≡ cond (names_cpu cpus (first + k)) 1 0
at_bit cpus first zero lt = bit_0 (names_cpu cpus first) (names_cpu cpus (first + 1)) (names_cpu cpus (first + 2)) (names_cpu cpus (first + 3)) (names_cpu cpus (first + 4)) (names_cpu cpus (first + 5)) (names_cpu cpus (first + 6)) (names_cpu cpus (first + 7)) ∙ ap (λ n. cond (names_cpu cpus n) 1 0) (let same : first ≡ first + 0 = omega arith in same)
at_bit cpus first (suc zero) lt = bit_1 (names_cpu cpus first) (names_cpu cpus (first + 1)) (names_cpu cpus (first + 2)) (names_cpu cpus (first + 3)) (names_cpu cpus (first + 4)) (names_cpu cpus (first + 5)) (names_cpu cpus (first + 6)) (names_cpu cpus (first + 7))
at_bit cpus first (suc (suc zero)) lt = bit_2 (names_cpu cpus first) (names_cpu cpus (first + 1)) (names_cpu cpus (first + 2)) (names_cpu cpus (first + 3)) (names_cpu cpus (first + 4)) (names_cpu cpus (first + 5)) (names_cpu cpus (first + 6)) (names_cpu cpus (first + 7))
at_bit cpus first (suc (suc (suc zero))) lt = bit_3 (names_cpu cpus first) (names_cpu cpus (first + 1)) (names_cpu cpus (first + 2)) (names_cpu cpus (first + 3)) (names_cpu cpus (first + 4)) (names_cpu cpus (first + 5)) (names_cpu cpus (first + 6)) (names_cpu cpus (first + 7))
at_bit cpus first (suc (suc (suc (suc zero)))) lt = bit_4 (names_cpu cpus first) (names_cpu cpus (first + 1)) (names_cpu cpus (first + 2)) (names_cpu cpus (first + 3)) (names_cpu cpus (first + 4)) (names_cpu cpus (first + 5)) (names_cpu cpus (first + 6)) (names_cpu cpus (first + 7))
at_bit cpus first (suc (suc (suc (suc (suc zero))))) lt = bit_5 (names_cpu cpus first) (names_cpu cpus (first + 1)) (names_cpu cpus (first + 2)) (names_cpu cpus (first + 3)) (names_cpu cpus (first + 4)) (names_cpu cpus (first + 5)) (names_cpu cpus (first + 6)) (names_cpu cpus (first + 7))
at_bit cpus first (suc (suc (suc (suc (suc (suc zero)))))) lt = bit_6 (names_cpu cpus first) (names_cpu cpus (first + 1)) (names_cpu cpus (first + 2)) (names_cpu cpus (first + 3)) (names_cpu cpus (first + 4)) (names_cpu cpus (first + 5)) (names_cpu cpus (first + 6)) (names_cpu cpus (first + 7))
at_bit cpus first (suc (suc (suc (suc (suc (suc (suc zero))))))) lt = bit_7 (names_cpu cpus first) (names_cpu cpus (first + 1)) (names_cpu cpus (first + 2)) (names_cpu cpus (first + 3)) (names_cpu cpus (first + 4)) (names_cpu cpus (first + 5)) (names_cpu cpus (first + 6)) (names_cpu cpus (first + 7))
at_bit cpus first (suc (suc (suc (suc (suc (suc (suc (suc k)))))))) lt = absurd (let no : ⊥ = omega arith in no)

abbrev digit : Bool → ℕ
digit b = cond b 1 0

is_one : (b : Bool) → digit b ≡ 1 → b ≡ true
is_one true h = refl
is_one false h = absurd (let no : ⊥ = omega (arith, h) in no)

one_of : (b : Bool) → b ≡ true → digit b ≡ 1
one_of true h = refl
one_of false h = absurd (false≢true h)

named : (cpus : List ℕ) (cpu : ℕ) → (digit (names_cpu cpus cpu) ≡ 1) ↔ Contains cpus cpu
named cpus cpu = (
  (λ h.
      let found = IsFound_from_list_any (λ other. other == cpu) cpus (is_one (names_cpu cpus cpu) h) in
      subst (Contains cpus) (eqb-true found.0 cpu found.1.passes) found.1.among),
  (λ held. one_of (names_cpu cpus cpu) (list_any_from_Contains (λ other. other == cpu) cpus cpu held (eq-eqb cpu cpu refl))),
)

bit_of : (bytes : ℕ) (cpus : List ℕ) (cpu : ℕ) → cpu < 8 * bytes → (bit_at (get_or (bitmap bytes cpus) (cpu / 8) 0) (cpu % 8) ≡ 1) ↔ Contains cpus cpu
bit_of bytes cpus cpu lt =
    let byte : cpu / 8 < bytes = omega arith in
    let whole : 8 * (cpu / 8) + cpu % 8 ≡ cpu = omega arith in
    let value : bit_at (get_or (bitmap bytes cpus) (cpu / 8) 0) (cpu % 8) ≡ cond (names_cpu cpus cpu) 1 0 =
    ap (λ n. bit_at n (cpu % 8)) (byte_at bytes cpus (cpu / 8) byte)
    ∙ at_bit cpus (8 * (cpu / 8)) (cpu % 8) (omega arith)
    ∙ ap (λ n. cond (names_cpu cpus n) 1 0) whole in
    let law = named cpus cpu in
    ((λ h. law.0 (sym value ∙ h)), (λ h. value ∙ law.1 h))

set_by : (bytes : ℕ) (cpus : List ℕ) (b : Bool) (set : List ℕ) → cond b (Some (bitmap bytes cpus)) None ≡ Some set → bitmap bytes cpus ≡ set
set_by bytes cpus true set h = same_Some (bitmap bytes cpus) set h
set_by bytes cpus false set h = absurd (none-some set h)

-- the bitmap that a list of CPUs tells
set_is : (d : Data) (bytes : ℕ) (cpus set : List ℕ) → list_told u64_told d ≡ Some cpus → cpus_told bytes d ≡ Some set → bitmap bytes cpus ≡ set
set_is d bytes cpus set told h =
    set_by bytes cpus (are_new (8 * bytes) [] cpus) set (sym (ap (option_and_then (bitmap_of bytes)) told) ∙ h)

pub bitmap_law : (d : Data) (bytes : ℕ) (cpus set : List ℕ) → list_told u64_told d ≡ Some cpus → cpus_told bytes d ≡ Some set → (cpu : ℕ) → cpu < 8 * bytes
    → (bit_at (get_or set (cpu / 8) 0) (cpu % 8) ≡ 1) ↔ Contains cpus cpu
bitmap_law d bytes cpus set told h cpu lt =
    let P : List ℕ → Type 0 = λ s. (bit_at (get_or s (cpu / 8) 0) (cpu % 8) ≡ 1) ↔ Contains cpus cpu in
    subst P (set_is d bytes cpus set told h) (bit_of bytes cpus cpu lt)

pub size_law : (d : Data) (bytes : ℕ) (cpus set : List ℕ) → list_told u64_told d ≡ Some cpus → cpus_told bytes d ≡ Some set → length set ≡ bytes
size_law d bytes cpus set told h = sym (ap (λ (s : List ℕ). length s) (set_is d bytes cpus set told h)) ∙ length_bitmap bytes cpus
