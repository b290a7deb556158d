-- Bytes at places in a row, one more behind the others, and those of a communication page.
use Rattle.std.proofs.Common.{◌≡◌, ℕ, zero, suc, ◌+◌, ◌<◌, ◌≤◌, cond, List, [], ◌∷◌, ◌++◌, map, Option, Some, None, refl, sym, ap, ◌∙◌, arith}
use Rattle.std.proofs.lemmas.Bool.{lt-ltb}
use Rattle.std.proofs.lemmas.List.{append-nil, append_assoc}
use Rattle.jh_frames.specs.Memory.{byte_at}
use Rattle.jh_history.specs.declared.place.Place.{Place}
use Rattle.jh_history.specs.declared.place.Place.TheVariants.{Page}
use Rattle.jh_history.specs.Places.{further, places_in_row}
use Rattle.jh_history.proofs.Public.{further_none, further_next}
use Rattle.jh_board.specs.Pages.{byte_of, comm_byte}
use Rattle.jh_board.specs.Seats.{comm_of}
use Rattle.jh_edit.specs.declared.stage.Stage2.{Stage2}
use Rattle.jh_board.specs.Private.Pages.{bytes_from}

-- ---- one more

row_more : (byte : Place → ℕ) (p : Place) (k : ℕ) → map byte (places_in_row p (suc k)) ≡ map byte (places_in_row p k) ++ byte (further p k) ∷ []
row_more byte p zero = ap (λ (q : Place). byte q ∷ []) (sym (further_none p))
row_more byte p (suc k) =
    let e : k + 1 ≡ suc k = omega arith in
    ap (λ (bs : List ℕ). byte p ∷ bs)
    (row_more byte (further p 1) k ∙ ap (λ (q : Place). map byte (places_in_row (further p 1) k) ++ byte q ∷ []) (further_next p k ∙ ap (further p) e))

pub row_last : (old items : List ℕ) (byte : Place → ℕ) (p : Place) (k : ℕ) → items ≡ old ++ map byte (places_in_row p k) → items ++ byte (further p k) ∷ [] ≡ old ++ map byte (places_in_row p (k + 1))
row_last old items byte p k is =
    let e : suc k ≡ k + 1 = omega arith in
    ap (λ (bs : List ℕ). bs ++ byte (further p k) ∷ []) is
    ∙ append_assoc old (map byte (places_in_row p k)) (byte (further p k) ∷ [])
    ∙ ap (λ (bs : List ℕ). old ++ bs) (sym (row_more byte p k))
    ∙ ap (λ (n : ℕ). old ++ map byte (places_in_row p n)) e

pub row_none : (old : List ℕ) (byte : Place → ℕ) (p : Place) → old ≡ old ++ map byte (places_in_row p 0)
row_none old byte p = sym (append-nil old)

-- ---- a communication page

pub row_of_comm : (memory : Stage2) (cell page offset n : ℕ) → comm_of memory cell ≡ Some page → offset + n ≤ 4096 → map (byte_of memory) (places_in_row (Page cell offset) n) ≡ bytes_from (byte_at memory.frames) (page + offset) n
row_of_comm memory cell page offset zero own within = refl
row_of_comm memory cell page offset (suc n) own within =
    let lt : offset < 4096 = omega arith in
    let next : page + (offset + 1) ≡ page + offset + 1 = omega arith in
    let first : byte_of memory (Page cell offset) ≡ byte_at memory.frames (page + offset) =
    ap (λ (o : Option ℕ). comm_byte memory.frames o offset) own ∙ ap (λ b. cond b (byte_at memory.frames (page + offset)) 0) (lt-ltb offset 4096 lt) in
    ap (λ (b : ℕ). b ∷ map (byte_of memory) (places_in_row (Page cell (offset + 1)) n)) first
    ∙ ap (λ (bs : List ℕ). byte_at memory.frames (page + offset) ∷ bs)
    (row_of_comm memory cell page (offset + 1) n own (omega arith) ∙ ap (λ (a : ℕ). bytes_from (byte_at memory.frames) a n) next)

pub row_of_none : (memory : Stage2) (cell offset n : ℕ) → comm_of memory cell ≡ None → map (byte_of memory) (places_in_row (Page cell offset) n) ≡ bytes_from (λ k. 0) offset n
row_of_none memory cell offset zero none = refl
row_of_none memory cell offset (suc n) none =
    ap (λ (b : ℕ). b ∷ map (byte_of memory) (places_in_row (Page cell (offset + 1)) n)) (ap (λ (o : Option ℕ). comm_byte memory.frames o offset) none)
    ∙ ap (λ (bs : List ℕ). 0 ∷ bs) (row_of_none memory cell (offset + 1) n none)
