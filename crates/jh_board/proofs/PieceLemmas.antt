-- Bytes of memory in a row, and lists of bytes that are stored.
use Rattle.std.proofs.Common.{◌≡◌, ℕ, zero, suc, ◌+◌, ◌-◌, ◌/◌, ◌%◌, ◌^◌, ◌<◌, ◌≤◌, List, [], ◌∷◌, length, take, map, cond, eqb, true, false, Option, Some, refl, sym, ◌∙◌, ap, subst, inl, inr, arith}
use Rattle.std.specs.Prelude.{slice_index}
use Rattle.std.specs.Int.{byte_at as byte_of_number, bytes_low_first}
use Rattle.std.proofs.lemmas.Bool.{true≢false, cases_eq, cases_lt, eq-eqb, ne_eqb}
use Rattle.std.proofs.Math.Nat.{div-div-eq-div-mul, div-one, pow-suc}
use Rattle.jh_num.specs.Memory.{spelled, stored}
use Rattle.jh_history.specs.declared.place.Place.{Place}
use Rattle.jh_history.specs.declared.place.Place.TheVariants.{Physical, Page}
use Rattle.jh_history.specs.Places.{places_in_row, with_byte, written}
use Rattle.jh_history.proofs.Public.{row_length}
use Rattle.jh_board.specs.Pages.{byte_of, comm_byte}
use Rattle.jh_board.specs.Seats.{comm_of, IsOwnPage}
use Rattle.jh_edit.specs.declared.stage.Stage2.{Stage2}
use Rattle.jh_board.specs.Private.Pages.{bytes_from}
use Rattle.jh_frames.specs.Memory.{OwnView, byte_at, is_own}
use Rattle.jh_num.proofs.Public.{stored_before, stored_behind, stored_in}
use Rattle.jh_board.proofs.PlaceLemmas.{comm_same, own_kept, page_beside, KeepsSeats}

-- so many bytes from the place on are beside the hypervisor's memory
abbrev pub IsBeside : OwnView → ℕ → ℕ → Type 0
IsBeside own at count = (k : ℕ) → k < count → is_own own (at + k) ≡ false

-- the bytes at places of physical memory in a row beside the hypervisor's
pub row_of_memory : (memory : Stage2) (a n : ℕ) → IsBeside memory.frames.own a n → map (byte_of memory) (places_in_row (Physical a) n) ≡ bytes_from (byte_at memory.frames) a n
row_of_memory memory a zero beside = refl
row_of_memory memory a (suc n) beside =
    let first : a + 0 ≡ a = omega arith in
    let own : is_own memory.frames.own a ≡ false = subst (λ (x : ℕ). is_own memory.frames.own x ≡ false) first (beside 0 (omega arith)) in
    ap (λ b. cond b 0 (byte_at memory.frames a) ∷ map (byte_of memory) (places_in_row (Physical (a + 1)) n)) own
    ∙ ap (λ (bs : List ℕ). byte_at memory.frames a ∷ bs) (row_of_memory memory (a + 1) n (λ k lt.
    let next : a + suc k ≡ a + 1 + k = omega arith in
    subst (λ (x : ℕ). is_own memory.frames.own x ≡ false) next (beside (suc k) (omega arith))))

take_le : (n : ℕ) (xs : List ℕ) → length (take n xs) ≤ n
take_le zero xs = omega arith
take_le (suc n) [] = omega arith
take_le (suc n) (x ∷ xs) = let rest = take_le n xs in omega arith

take_few : (n : ℕ) (xs bytes : List ℕ) → bytes ≡ take n xs → length bytes ≤ n
take_few n xs bytes is = subst (λ (bs : List ℕ). length bs ≤ n) (sym is) (take_le n xs)

-- zeros spell nothing
pub zeros_spell_nothing : (offset n : ℕ) → spelled (bytes_from (λ k. 0) offset n) ≡ 0
zeros_spell_nothing offset zero = refl
zeros_spell_nothing offset (suc n) =
    let rest : spelled (bytes_from (λ k. 0) (offset + 1) n) ≡ 0 = zeros_spell_nothing (offset + 1) n in omega arith

-- one byte before a list
stored_first : (byte : ℕ → ℕ) (at b : ℕ) (bytes : List ℕ) (q : ℕ) → stored (λ y. cond (eqb y at) b (byte y)) (at + 1) bytes q ≡ stored byte at (b ∷ bytes) q
stored_first byte at b bytes q =
    let put : ℕ → ℕ = λ y. cond (eqb y at) b (byte y) in
    elim (cases_lt q at) [
      | inl before ↦ stored_before put (at + 1) bytes q (omega arith) ∙ rw (ne_eqb q at (omega arith)) refl ∙ sym (stored_before byte at (b ∷ bytes) q before)
      | inr above ↦ elim (cases_eq q at) [
        | inl e ↦
            let none : q - at ≡ 0 = omega arith in
            stored_before put (at + 1) bytes q (omega arith) ∙ rw (eq-eqb q at e) refl ∙ ap (slice_index (b ∷ bytes)) (sym none) ∙ sym (stored_in byte at (b ∷ bytes) q above (omega arith))
        | inr other ↦ elim (cases_lt q ((at + 1) + length bytes)) [
          | inl below ↦
              let e : q - at ≡ suc (q - (at + 1)) = omega arith in
              stored_in put (at + 1) bytes q (omega arith) below ∙ ap (slice_index (b ∷ bytes)) (sym e) ∙ sym (stored_in byte at (b ∷ bytes) q above (omega arith))
          | inr behind ↦ stored_behind put (at + 1) bytes q behind ∙ rw (ne_eqb q at other) refl ∙ sym (stored_behind byte at (b ∷ bytes) q (omega arith))
        ]
      ]
    ]

byte_of_number_div : (i v : ℕ) → byte_of_number i v ≡ (v / 256 ^ i) % 256
byte_of_number_div zero v = ap (λ (x : ℕ). x % 256) (sym (div-one v))
byte_of_number_div (suc i) v = refl

-- a value that is written over places in a row is the list of its bytes, stored
written_low_first : (byte : Place → ℕ) (a n i k v q : ℕ) → n ≤ k → written byte (places_in_row (Physical a) n) (v / 256 ^ i) (Physical q) ≡ stored (λ y. byte (Physical y)) a (take n (bytes_low_first i k v)) q
written_low_first byte a zero i k v q le = elim (cases_lt q a) [
  | inl before ↦ sym (stored_before (λ y. byte (Physical y)) a [] q before)
  | inr above ↦ sym (stored_behind (λ y. byte (Physical y)) a [] q (omega arith))
]
written_low_first byte a (suc n) i zero v q le = absurd (omega arith)
written_low_first byte a (suc n) i (suc k) v q le =
    let b = (v / 256 ^ i) % 256 in
    let next : (v / 256 ^ i) / 256 ≡ v / 256 ^ suc i = div-div-eq-div-mul v (256 ^ i) 256 ∙ ap (λ (x : ℕ). v / x) (sym (pow-suc 256 i)) in
    ap (λ (x : ℕ). written (with_byte byte (Physical a) b) (places_in_row (Physical (a + 1)) n) x (Physical q)) next
    ∙ written_low_first (with_byte byte (Physical a) b) (a + 1) n (suc i) k v q (omega arith)
    ∙ stored_first (λ y. byte (Physical y)) a b (take n (bytes_low_first (suc i) k v)) q
    ∙ ap (λ (x : ℕ). stored (λ y. byte (Physical y)) a (x ∷ take n (bytes_low_first (suc i) k v)) q) (sym (byte_of_number_div i v))

written_elsewhere : (byte : Place → ℕ) (a n v cell offset : ℕ) → written byte (places_in_row (Physical a) n) v (Page cell offset) ≡ byte (Page cell offset)
written_elsewhere byte a zero v cell offset = refl
written_elsewhere byte a (suc n) v cell offset = written_elsewhere (with_byte byte (Physical a) (v % 256)) (a + 1) n (v / 256) cell offset

-- bytes that are stored beside the hypervisor's memory, where no place tells one of the hypervisor's
pub stored_beside : (pool : OwnView) (byte : ℕ → ℕ) (at : ℕ) (bytes : List ℕ) (q : ℕ) → IsBeside pool at (length bytes) → cond (is_own pool q) 0 (stored byte at bytes q) ≡ stored (λ y. cond (is_own pool y) 0 (byte y)) at bytes q
stored_beside pool byte at bytes q beside = elim (cases_lt q at) [
  | inl before ↦
      ap (λ (b : ℕ). cond (is_own pool q) 0 b) (stored_before byte at bytes q before)
      ∙ sym (stored_before (λ y. cond (is_own pool y) 0 (byte y)) at bytes q before)
  | inr above ↦ elim (cases_lt q (at + length bytes)) [
    | inl within ↦
        let e : at + (q - at) ≡ q = omega arith in
        let own : is_own pool q ≡ false = subst (λ (x : ℕ). is_own pool x ≡ false) e (beside (q - at) (omega arith)) in
        ap (λ b. cond b 0 (stored byte at bytes q)) own ∙ stored_in byte at bytes q above within
        ∙ sym (stored_in (λ y. cond (is_own pool y) 0 (byte y)) at bytes q above within)
    | inr behind ↦
        ap (λ (b : ℕ). cond (is_own pool q) 0 b) (stored_behind byte at bytes q behind)
        ∙ sym (stored_behind (λ y. cond (is_own pool y) 0 (byte y)) at bytes q behind)
  ]
]

-- they change no byte of the hypervisor's
pub stored_of_own : (pool : OwnView) (byte : ℕ → ℕ) (at : ℕ) (bytes : List ℕ) (q : ℕ) → IsBeside pool at (length bytes) → is_own pool q ≡ true → stored byte at bytes q ≡ byte q
stored_of_own pool byte at bytes q beside own = elim (cases_lt q at) [
  | inl before ↦ stored_before byte at bytes q before
  | inr above ↦ elim (cases_lt q (at + length bytes)) [
    | inl within ↦
        let e : at + (q - at) ≡ q = omega arith in
        absurd (true≢false (sym own ∙ subst (λ (x : ℕ). is_own pool x ≡ false) e (beside (q - at) (omega arith))))
    | inr behind ↦ stored_behind byte at bytes q behind
  ]
]

-- each place of physical memory, once they are stored
pub physical_stored : (old new : Stage2) (at : ℕ) (bytes : List ℕ) → KeepsSeats old new → IsBeside old.frames.own at (length bytes) → ((q : ℕ) → byte_at new.frames q ≡ stored (byte_at old.frames) at bytes q)
    → (q : ℕ) → byte_of new (Physical q) ≡ stored (λ y. byte_of old (Physical y)) at bytes q
physical_stored old new at bytes seats beside put q =
    ap (λ b. cond b 0 (byte_at new.frames q)) (own_kept old new q seats)
    ∙ ap (λ (b : ℕ). cond (is_own old.frames.own q) 0 b) (put q)
    ∙ stored_beside old.frames.own (byte_at old.frames) at bytes q beside

-- and each of a communication page
pub comm_stored : (old new : Stage2) (at : ℕ) (bytes : List ℕ) → KeepsSeats old new → IsBeside old.frames.own at (length bytes) → ((id page : ℕ) → comm_of old id ≡ Some page → IsOwnPage old.frames.own page)
    → ((q : ℕ) → byte_at new.frames q ≡ stored (byte_at old.frames) at bytes q) → (cell offset : ℕ) → byte_of new (Page cell offset) ≡ byte_of old (Page cell offset)
comm_stored old new at bytes seats beside inside put cell offset =
    ap (λ (o : Option ℕ). comm_byte new.frames o offset) (comm_same old new cell seats)
    ∙ page_beside old.frames.own old.frames new.frames (comm_of old cell) offset (inside cell) (λ q own. put q ∙ stored_of_own old.frames.own (byte_at old.frames) at bytes q beside own)

-- so a value is written where the list of its bytes was put
pub written_piece : (old new : Stage2) (a n v : ℕ) (bytes : List ℕ) → n ≤ 8 → bytes ≡ take n (bytes_low_first 0 8 v) → IsBeside old.frames.own a n → ((id page : ℕ) → comm_of old id ≡ Some page → IsOwnPage old.frames.own page)
    → ((q : ℕ) → byte_at new.frames q ≡ stored (byte_at old.frames) a bytes q) → KeepsSeats old new
    → (q : Place) → byte_of new q ≡ written (byte_of old) (places_in_row (Physical a) n) v q
written_piece old new a n v bytes few is beside inside put same (Physical q) =
    let count : length bytes ≤ n = take_few n (bytes_low_first 0 8 v) bytes is in
    physical_stored old new a bytes same (λ k lt. beside k (omega arith)) put q
    ∙ ap (λ (bs : List ℕ). stored (λ y. byte_of old (Physical y)) a bs q) is ∙ sym (written_low_first (byte_of old) a n 0 8 v q few)
    ∙ ap (λ (x : ℕ). written (byte_of old) (places_in_row (Physical a) n) x (Physical q)) (div-one v)
written_piece old new a n v bytes few is beside inside put same (Page cell offset) =
    let count : length bytes ≤ n = take_few n (bytes_low_first 0 8 v) bytes is in
    comm_stored old new a bytes same (λ k lt. beside k (omega arith)) inside put cell offset ∙ sym (written_elsewhere (byte_of old) a n v cell offset)

-- bytes that are stored beside the hypervisor's memory change none of it
pub stored_writes : (old : Stage2) (byte : ℕ → ℕ) (at : ℕ) (bytes : List ℕ) → IsBeside old.frames.own at (length bytes) → ((q : ℕ) → byte q ≡ stored (byte_at old.frames) at bytes q) → (q : ℕ) → is_own old.frames.own q ≡ true → byte q ≡ byte_at old.frames q
stored_writes old byte at bytes beside put q own = put q ∙ stored_of_own old.frames.own (byte_at old.frames) at bytes q beside own

pub few_stored : (n v : ℕ) (bytes : List ℕ) → bytes ≡ take n (bytes_low_first 0 8 v) → length bytes ≤ n
few_stored n v bytes is = take_few n (bytes_low_first 0 8 v) bytes is

-- a number of so many bytes as a row has places
pub fits_in_row : (v n : ℕ) (p : Place) (places : List Place) → places ≡ places_in_row p n → v < 256 ^ n → v < 256 ^ length places
fits_in_row v n p places is h =
    let e : length places ≡ n = ap (λ (ps : List Place). length ps) is ∙ row_length p n in
    rw e h
