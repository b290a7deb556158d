-- What the slow plain program writes into pages.
use Rattle.std.proofs.Common.{◌≡◌, ℕ, ◌+◌, ◌-◌, ◌<◌, ◌≤◌, ◌&&◌, Bool, true, false, cond, eqb, ltb, List, [], ◌∷◌, ◌++◌, length, get_or, take, refl, sym, ap, ◌∙◌, inl, inr, eq-eqb, arith}
use Rattle.std.specs.Prelude.{slice_index, replicate}
use Rattle.std.specs.Int.{to_le_bytes, w32}
use Rattle.std.proofs.lemmas.Bool.{cases_lt, lt-ltb, le-ltb, ne_eqb}
use Rattle.std.proofs.lemmas.List.{length-take-le, get_or-take}
use Rattle.std.proofs.lemmas.Option.{get_or_from_slice_get, slice_get-get_or}
use Rattle.jh_num.proofs.Public.{stored_there, stored_before, stored_behind}
use Rattle.jh_num.specs.Memory.{stored}
use Rattle.jh_comm.specs.Page.{with_state, sent, fresh_page}
use Rattle.jh_script.specs.declared.image.Image.{Image}
use Rattle.jh_history.specs.declared.place.Place.{Place}
use Rattle.jh_history.specs.declared.place.Place.TheVariants.{Physical, Page}
use Rattle.jh_history.specs.declared.written.WrittenByte.{WrittenByte}
use Rattle.jh_history.specs.declared.comm.PageChange.TheVariants.{State, Message, Fresh}
use Rattle.jh_history.specs.Places.{is_same}
use Rattle.jh_history.specs.Pages.{with_page}
use Rattle.jh_history.specs.Private.PlainView.{last_byte, put_in_page}
use Rattle.jh_history.proofs.FactsLemmas.{same_function}
use Rattle.jh_history.proofs.KeptLemmas.{last_byte_push}

cond_same : (n a b : ℕ) → cond (eqb n n) a b ≡ a
cond_same n a b = rw (eq-eqb n n refl) refl

pub again : (list : List ℕ) (i b : ℕ) → i < length list → get_or list i b ≡ get_or list i 0
again list i b lt = get_or_from_slice_get list i (get_or list i 0) b (slice_get-get_or list i 0 lt)

-- the bytes of a list, one more
stored_more : (f : ℕ → ℕ) (at : ℕ) (list : List ℕ) (i b k : ℕ) → i < length list → b ≡ get_or list i b → cond (eqb k (at + i)) b (stored f at (take i list) k) ≡ stored f at (take (i + 1) list) k
stored_more f at list i b k lt is =
    let few : length (take i list) ≡ i = length-take-le i list (omega arith) in
    let more : length (take (i + 1) list) ≡ i + 1 = length-take-le (i + 1) list (omega arith) in
    elim (cases_lt k (at + i)) [
      | inl below ↦ (
          let other : eqb k (at + i) ≡ false = ne_eqb k (at + i) (λ e. absurd (omega arith)) in
          rw other (elim (cases_lt k at) [
            | inl before ↦ stored_before f at (take i list) k before ∙ sym (stored_before f at (take (i + 1) list) k before)
            | inr from ↦ (
                let j : ℕ = k - at in
                let e : k ≡ at + j = omega arith in
                let near : j < i = omega arith in
                rw e (
                stored_there f at (take i list) j (omega arith)
                ∙ get_or-take i list j 0 near
                ∙ sym (get_or-take (i + 1) list j 0 (omega arith))
                ∙ sym (stored_there f at (take (i + 1) list) j (omega arith))))
          ]))
      | inr above ↦ elim (cases_lt (at + i) k) [
        | inl past ↦ (
            let other : eqb k (at + i) ≡ false = ne_eqb k (at + i) (λ e. absurd (omega arith)) in
            rw other (stored_behind f at (take i list) k (omega arith) ∙ sym (stored_behind f at (take (i + 1) list) k (omega arith))))
        | inr same ↦ (
            let e : k ≡ at + i = omega arith in
            rw e (
            cond_same (at + i) b (stored f at (take i list) (at + i))
            ∙ is
            ∙ again list i b lt
            ∙ sym (get_or-take (i + 1) list i 0 (omega arith))
            ∙ sym (stored_there f at (take (i + 1) list) i (omega arith))))
      ]
    ]

in_page_more : (byte : Place → ℕ) (cell at : ℕ) (list : List ℕ) (i b : ℕ) (q : Place) → i < length list → b ≡ get_or list i b
    → cond (is_same q (Page cell (at + i))) b (put_in_page cell at (take i list) byte q) ≡ put_in_page cell at (take (i + 1) list) byte q
in_page_more byte cell at list i b (Physical p) lt is = refl
in_page_more byte cell at list i b (Page other k) lt is =
    elim (eqb other cell) as (λ (here : Bool). cond (here && eqb k (at + i)) b (cond here (stored (λ j. byte (Page other j)) at (take i list) k) (byte (Page other k))) ≡ cond here (stored (λ j. byte (Page other j)) at (take (i + 1) list) k) (byte (Page other k))) [
      | true ↦ stored_more (λ j. byte (Page other j)) at list i b k lt is
      | false ↦ refl
    ]

-- one byte more of those that are put
pub put_more : (image : Image) (first old new : List WrittenByte) (cell at i b : ℕ) (list : List ℕ) (q : Place) → i < length list → b ≡ get_or list i b
    → last_byte image old q ≡ put_in_page cell at (take i list) (last_byte image first) q → new ≡ old ++ record { place = Page cell (at + i); byte = b } ∷ []
    → last_byte image new q ≡ put_in_page cell at (take (i + 1) list) (last_byte image first) q
put_more image first old new cell at i b list q lt is so_far e =
    ap (λ (bytes : List WrittenByte). last_byte image bytes q) e
    ∙ last_byte_push image old (record { place = Page cell (at + i); byte = b }) q
    ∙ ap (λ (n : ℕ). cond (is_same q (Page cell (at + i))) b n) so_far
    ∙ in_page_more (last_byte image first) cell at list i b q lt is

put_none_by : (byte : Place → ℕ) (other k at : ℕ) (here : Bool) → byte (Page other k) ≡ cond here (stored (λ j. byte (Page other j)) at [] k) (byte (Page other k))
put_none_by byte other k at true = sym (elim (cases_lt k at) [
  | inl before ↦ stored_before (λ j. byte (Page other j)) at [] k before
  | inr from ↦ stored_behind (λ j. byte (Page other j)) at [] k (let e : length {A = ℕ} [] ≡ 0 = refl in omega arith)
])
put_none_by byte other k at false = refl

pub put_none : (byte : Place → ℕ) (cell at : ℕ) (q : Place) → byte q ≡ put_in_page cell at [] byte q
put_none byte cell at (Physical p) = refl
put_none byte cell at (Page other k) = put_none_by byte other k at (eqb other cell)

-- where all that is put lies in the page, and is what the change says of the page's bytes
page_by : (byte : Place → ℕ) (other k : ℕ) (here : Bool) (after said : ℕ → ℕ) → (k < 4096 → after k ≡ said k) → (4096 ≤ k → after k ≡ byte (Page other k))
    → cond here (after k) (byte (Page other k)) ≡ cond (here && ltb k 4096) (said k) (byte (Page other k))
page_by byte other k false after said within beyond = refl
page_by byte other k true after said within beyond = elim (cases_lt k 4096) [
  | inl lt ↦ rw (lt-ltb k 4096 lt) (within lt)
  | inr le ↦ rw (le-ltb k 4096 le) (beyond le)
]

pub put_state : (byte : Place → ℕ) (cell state : ℕ) (list : List ℕ) (q : Place) → list ≡ to_le_bytes w32 state → put_in_page cell 8 list byte q ≡ with_page (record { cell = cell; change = State state }) byte q
put_state byte cell state list (Physical p) e = refl
put_state byte cell state list (Page other k) e =
    rw e (page_by byte other k (eqb other cell) (stored (λ j. byte (Page other j)) 8 (to_le_bytes w32 state)) (with_state (λ j. byte (Page other j)) state) (λ lt. refl)
    (λ le. stored_behind (λ j. byte (Page other j)) 8 (to_le_bytes w32 state) k (let n : length (to_le_bytes w32 state) ≡ 4 = refl in omega arith)))

message_by : (byte : Place → ℕ) (other message k : ℕ) (here : Bool)
    → cond here (stored (λ j. cond here (stored (λ m. byte (Page other m)) 16 (replicate 4 0) j) (byte (Page other j))) 12 (to_le_bytes w32 message) k) (cond here (stored (λ m. byte (Page other m)) 16 (replicate 4 0) k) (byte (Page other k)))
    ≡ cond (here && ltb k 4096) (sent (λ j. byte (Page other j)) message k) (byte (Page other k))
message_by byte other message k false = refl
message_by byte other message k true =
    page_by byte other k true (stored (stored (λ j. byte (Page other j)) 16 (replicate 4 0)) 12 (to_le_bytes w32 message)) (sent (λ j. byte (Page other j)) message) (λ lt. refl)
    (λ le.
    stored_behind (stored (λ j. byte (Page other j)) 16 (replicate 4 0)) 12 (to_le_bytes w32 message) k (let n : length (to_le_bytes w32 message) ≡ 4 = refl in omega arith)
    ∙ stored_behind (λ j. byte (Page other j)) 16 (replicate 4 0) k (let n : length {A = ℕ} (replicate 4 0) ≡ 4 = refl in omega arith))

message_at : (byte : Place → ℕ) (cell message : ℕ) (q : Place)
    → put_in_page cell 12 (to_le_bytes w32 message) (put_in_page cell 16 (replicate 4 0) byte) q ≡ with_page (record { cell = cell; change = Message message }) byte q
message_at byte cell message (Physical p) = refl
message_at byte cell message (Page other k) = message_by byte other message k (eqb other cell)

pub put_message : (byte middle : Place → ℕ) (cell message : ℕ) (zeros list : List ℕ) (q : Place) → ((p : Place) → middle p ≡ put_in_page cell 16 zeros byte p) → zeros ≡ replicate 4 0 → list ≡ to_le_bytes w32 message
    → put_in_page cell 12 list middle q ≡ with_page (record { cell = cell; change = Message message }) byte q
put_message byte middle cell message zeros list q first none e =
    ap (λ (f : Place → ℕ). put_in_page cell 12 list f q) (same_function middle (put_in_page cell 16 zeros byte) first)
    ∙ ap (λ (ls : List ℕ). put_in_page cell 12 ls (put_in_page cell 16 zeros byte) q) e
    ∙ ap (λ (zs : List ℕ). put_in_page cell 12 (to_le_bytes w32 message) (put_in_page cell 16 zs byte) q) none
    ∙ message_at byte cell message q

pub put_fresh : (byte : Place → ℕ) (cell state window : ℕ) (console page : List ℕ) (q : Place) → length page ≡ 4096 → ((k : ℕ) → k < 4096 → slice_index page k ≡ fresh_page state console window k)
    → put_in_page cell 0 page byte q ≡ with_page (record { cell = cell; change = Fresh state console window }) byte q
put_fresh byte cell state window console page (Physical p) len is = refl
put_fresh byte cell state window console page (Page other k) len is =
    page_by byte other k (eqb other cell) (stored (λ j. byte (Page other j)) 0 page) (fresh_page state console window)
    (λ lt. (let e : k ≡ 0 + k = omega arith in ap (stored (λ j. byte (Page other j)) 0 page) e) ∙ stored_there (λ j. byte (Page other j)) 0 page k (omega arith) ∙ is k lt)
    (λ le. stored_behind (λ j. byte (Page other j)) 0 page k (omega arith))
