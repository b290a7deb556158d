-- A word with some of its bits replaced: it stays a word, and which bits it has.
use Rattle.std.proofs.Common.{ℕ, ◌≡◌, ◌+◌, ◌-◌, ◌*◌, ◌/◌, ◌%◌, ◌^◌, ◌<◌, ◌≤◌, arith, sym, ◌∙◌, ap}
use Rattle.std.specs.Int.{bit_at}
use Rattle.std.proofs.lemmas.Nat.{pow_pos, pow-add, shr-shr, shr_split, mod_below, div_below, row_fits}
use Rattle.std.proofs.lemmas.Nat.Bits.{bit_at_cat_low, bit_at_cat_high}

-- the word with the lowest bits of the value in place of `wide` of its bits from `low` on
abbrev pub placed : ℕ → ℕ → ℕ → ℕ → ℕ
placed word low wide value =
    word % 2 ^ low + value % 2 ^ wide * 2 ^ low + word / 2 ^ (low + wide) * 2 ^ (low + wide)

-- what stays above `high` leaves room for all below
above_fits : (word high : ℕ) → high ≤ 32 → word < 2 ^ 32 → word / 2 ^ high * 2 ^ high + 2 ^ high ≤ 2 ^ 32
above_fits word high within is_word =
    let whole : 2 ^ (32 - high) * 2 ^ high ≡ 2 ^ 32 =
    sym (pow-add 2 (32 - high) high) ∙ ap (λ n. 2 ^ n) (let e : 32 - high + high ≡ 32 = omega arith in e) in
    let below : word < 2 ^ (32 - high) * 2 ^ high = omega arith in
    let part = div_below word (2 ^ high) (2 ^ (32 - high)) (pow_pos high) below in
    let fits : word / 2 ^ high * 2 ^ high + 2 ^ high ≤ 2 ^ (32 - high) * 2 ^ high =
    row_fits (word / 2 ^ high) (2 ^ high) (2 ^ (32 - high)) (2 ^ high) part (omega arith) in
    omega arith

-- what is put below `low + wide` stays below
below_fits : (word low wide value : ℕ) → word % 2 ^ low + value % 2 ^ wide * 2 ^ low < 2 ^ (low + wide)
below_fits word low wide value =
    let a = mod_below word (2 ^ low) (pow_pos low) in
    let b = mod_below value (2 ^ wide) (pow_pos wide) in
    let fits : value % 2 ^ wide * 2 ^ low + 2 ^ low ≤ 2 ^ wide * 2 ^ low =
    row_fits (value % 2 ^ wide) (2 ^ low) (2 ^ wide) (2 ^ low) b (omega arith) in
    omega (arith, pow-add 2 low wide)

pub placed_lt : (word low wide value : ℕ) → low + wide ≤ 32 → word < 2 ^ 32 → placed word low wide value < 2 ^ 32
placed_lt word low wide value within is_word =
    let a = below_fits word low wide value in
    let b = above_fits word (low + wide) within is_word in
    omega arith

-- the bits in three blocks
blocks : (word low wide value : ℕ) → placed word low wide value
    ≡ (word / 2 ^ (low + wide) * 2 ^ wide + value % 2 ^ wide) * 2 ^ low + word % 2 ^ low
blocks word low wide value =
    omega (arith, ap (λ n. word / 2 ^ (low + wide) * n) (pow-add 2 low wide))

bit_of_rest : (n k j : ℕ) → k < j → bit_at (n % 2 ^ j) k ≡ bit_at n k
bit_of_rest n k j below =
    sym (bit_at_cat_low (n / 2 ^ j) j (n % 2 ^ j) k below) ∙ ap (λ m. bit_at m k) (shr_split n j)

bit_of_shifted : (n k j : ℕ) → j ≤ k → bit_at (n / 2 ^ j) (k - j) ≡ bit_at n k
bit_of_shifted n k j above =
    ap (λ m. m % 2) (shr-shr n j (k - j)) ∙ ap (λ m. n / 2 ^ m % 2) (let e : j + (k - j) ≡ k = omega arith in e)

pub placed_below : (word low wide value k : ℕ) → k < low → bit_at (placed word low wide value) k ≡ bit_at word k
placed_below word low wide value k below =
    ap (λ n. bit_at n k) (blocks word low wide value)
    ∙ bit_at_cat_low (word / 2 ^ (low + wide) * 2 ^ wide + value % 2 ^ wide) low (word % 2 ^ low) k below
    ∙ bit_of_rest word k low below

upper : (word low wide value k : ℕ) → low ≤ k → bit_at (placed word low wide value) k
    ≡ bit_at (word / 2 ^ (low + wide) * 2 ^ wide + value % 2 ^ wide) (k - low)
upper word low wide value k above =
    ap (λ n. bit_at n k) (blocks word low wide value)
    ∙ bit_at_cat_high (word / 2 ^ (low + wide) * 2 ^ wide + value % 2 ^ wide) low (word % 2 ^ low) k
    (mod_below word (2 ^ low) (pow_pos low)) above

pub placed_inside : (word low wide value k : ℕ) → low ≤ k → k < low + wide
    → bit_at (placed word low wide value) k ≡ bit_at value (k - low)
placed_inside word low wide value k above below =
    let inside : k - low < wide = omega arith in
    upper word low wide value k above
    ∙ bit_at_cat_low (word / 2 ^ (low + wide)) wide (value % 2 ^ wide) (k - low) inside
    ∙ bit_of_rest value (k - low) wide inside

pub placed_above : (word low wide value k : ℕ) → low + wide ≤ k → bit_at (placed word low wide value) k ≡ bit_at word k
placed_above word low wide value k above =
    let past : wide ≤ k - low = omega arith in
    let over : low ≤ k = omega arith in
    let same : k - low - wide ≡ k - (low + wide) = omega arith in
    upper word low wide value k over
    ∙ bit_at_cat_high (word / 2 ^ (low + wide)) wide (value % 2 ^ wide) (k - low)
    (mod_below value (2 ^ wide) (pow_pos wide)) past
    ∙ ap (λ n. bit_at (word / 2 ^ (low + wide)) n) same
    ∙ bit_of_shifted word k (low + wide) above

-- the bits of a part
pub part_bit : (word low wide k : ℕ) → k < wide → bit_at (word / 2 ^ low % 2 ^ wide) k ≡ bit_at word (low + k)
part_bit word low wide k below =
    bit_of_rest (word / 2 ^ low) k wide below ∙ ap (λ m. m % 2) (shr-shr word low k)
