-- Numbers that bytes spell, and bytes that are stored.
use Rattle.std.proofs.Common.{◌≡◌, ℕ, zero, suc, ◌+◌, ◌-◌, ◌*◌, ◌^◌, ◌<◌, ◌≤◌, List, [], ◌∷◌, length, slice_index, refl, sym, ap, ◌∙◌, add-one, leb, ltb, arith}
use Rattle.std.proofs.lemmas.Bool.{le-leb, lt-leb, lt-ltb, le-ltb, and_right}
use Rattle.std.proofs.lemmas.Grind.{pow_more}
use Rattle.std.proofs.Math.Nat.{one-le-pow, pow-le-pow_right, pow-suc, mul_assoc}
use Rattle.jh_num.specs.Memory.{spelled, little_endian, stored}

-- a value of one byte more
pub byte_fits : (v b m : ℕ) → v < 256 ^ m → b < 256 → v * 256 + b < 256 ^ (m + 1)
byte_fits v b m small byte = rw (pow_more 256 m) (grind arith)

-- eight bytes fit
pub word_fits : (v m : ℕ) → m ≤ 8 → v < 256 ^ m → v < 2 ^ 64
word_fits v m few small = let le : 256 ^ m ≤ 256 ^ 8 = pow-le-pow_right (omega arith) few in omega arith

-- the number by its first byte
pub little_endian_first : (count : ℕ) (byte : ℕ → ℕ) → little_endian (suc count) byte ≡ byte 0 + 256 * little_endian count (λ k. byte (k + 1))
little_endian_first zero byte = omega arith
little_endian_first (suc count) byte =
    let first : little_endian (suc count) byte ≡ byte 0 + 256 * little_endian count (λ k. byte (k + 1)) = little_endian_first count byte in
    let last : byte (suc count) * 256 ^ suc count ≡ byte (suc count) * 256 ^ count * 256 = ap (λ (x : ℕ). byte (suc count) * x) (pow-suc 256 count) ∙ sym (mul_assoc (byte (suc count)) (256 ^ count) 256) in
    let next : byte (count + 1) ≡ byte (suc count) = ap byte (add-one count) in
    let goal : little_endian (suc count) byte + byte (suc count) * 256 ^ suc count ≡ byte 0 + 256 * (little_endian count (λ k. byte (k + 1)) + byte (suc count) * 256 ^ count) = omega arith in
    rw next goal

-- two readings of the same bytes
pub little_endian_same : (count : ℕ) (f g : ℕ → ℕ) → ((k : ℕ) → k < count → f k ≡ g k) → little_endian count f ≡ little_endian count g
little_endian_same zero f g same = refl
little_endian_same (suc count) f g same =
    let rest : little_endian count f ≡ little_endian count g = little_endian_same count f g (λ k below. same k (omega arith)) in
    let last : f count ≡ g count = same count (omega arith) in
    ap (λ (n : ℕ). n + f count * 256 ^ count) rest ∙ ap (λ (b : ℕ). little_endian count g + b * 256 ^ count) last

-- the number that bytes spell is that of which byte k counts 256 ^ k
pub spelled_little_endian : (bytes : List ℕ) → spelled bytes ≡ little_endian (length bytes) (slice_index bytes)
spelled_little_endian [] = refl
spelled_little_endian (b ∷ bs) =
    ap (λ (n : ℕ). b + 256 * n) (spelled_little_endian bs)
    ∙ ap (λ (n : ℕ). b + 256 * n) (little_endian_same (length bs) (slice_index bs) (λ k. slice_index (b ∷ bs) (k + 1)) (λ k below. let e : suc k ≡ k + 1 = omega arith in ap (slice_index (b ∷ bs)) e))
    ∙ sym (little_endian_first (length bs) (slice_index (b ∷ bs)))

-- the bytes of the list where it is stored
pub stored_there : (byte : ℕ → ℕ) (at : ℕ) (bytes : List ℕ) (k : ℕ) → k < length bytes → stored byte at bytes (at + k) ≡ slice_index bytes k
stored_there byte at bytes k within =
    let same : (at + k) - at ≡ k = omega arith in
    rw (le-leb at (at + k) (omega arith), lt-ltb (at + k) (at + length bytes) (omega arith), same) refl

-- the bytes below
pub stored_before : (byte : ℕ → ℕ) (at : ℕ) (bytes : List ℕ) (place : ℕ) → place < at → stored byte at bytes place ≡ byte place
stored_before byte at bytes place below = rw (lt-leb at place below) refl

-- and above
pub stored_behind : (byte : ℕ → ℕ) (at : ℕ) (bytes : List ℕ) (place : ℕ) → at + length bytes ≤ place → stored byte at bytes place ≡ byte place
stored_behind byte at bytes place above = rw (and_right (leb at place) (ltb place (at + length bytes)) (le-ltb place (at + length bytes) above)) refl

-- zero has room in any number of bytes
pub zero_fits : (n : ℕ) → 0 < 256 ^ n
zero_fits n = let le : 1 ≤ 256 ^ n = one-le-pow n 256 (omega arith) in omega arith
