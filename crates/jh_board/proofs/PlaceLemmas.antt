-- What a change of physical memory tells at places, where it is one beside the hypervisor's memory, or one of a communication page.
use Rattle.std.proofs.Common.{◌≡◌, ◌⊎◌, inl, inr, ℕ, ◌+◌, ◌<◌, ◌≤◌, length, Bool, true, false, ◌&&◌, cond, eqb, Option, Some, None, refl, sym, ap, subst, ◌∙◌, arith}
use Rattle.std.specs.Prelude.{nat_le, nat_lt}
use Rattle.std.proofs.lemmas.Bool.{true≢false, cases_lt, eq-eqb, ne_eqb, eqb-true, ltb-true, lt-ltb}
use Rattle.jh_num.proofs.Public.{within_both}
use Rattle.jh_frames.specs.Memory.{FramesView, OwnView, byte_at, is_own}
use Rattle.jh_edit.specs.declared.stage.Stage2.{Stage2}
use Rattle.jh_edit.specs.Seats.{cell_comm}
use Rattle.jh_history.specs.declared.comm.PageChange.{PageChange}
use Rattle.jh_history.specs.declared.comm.PageWrite.{PageWrite}
use Rattle.jh_history.specs.declared.place.Place.{Place}
use Rattle.jh_history.specs.declared.place.Place.TheVariants.{Physical, Page}
use Rattle.jh_history.specs.Pages.{page_after, with_page}
use Rattle.jh_history.specs.Places.{with_byte}
use Rattle.jh_board.specs.Pages.{byte_in, byte_of, comm_byte, KeepsTables}
use Rattle.jh_board.specs.Seats.{comm_of, IsOwnPage}

-- ---- the hypervisor's memory

pub own_same : (old new : OwnView) (place : ℕ) → new.base ≡ old.base → length new.bytes ≡ length old.bytes → is_own new place ≡ is_own old place
own_same old new place base size =
    ap (λ (b : ℕ). nat_le b place && nat_lt place (b + length new.bytes)) base
    ∙ ap (λ (n : ℕ). nat_le old.base place && nat_lt place (old.base + n)) size

-- the bytes of a page of it are its own
pub page_of_own : (own : OwnView) (page k : ℕ) → IsOwnPage own page → k < 4096 → is_own own (page + k) ≡ true
page_of_own own page k inside lt =
    let above = inside.above in
    let below = inside.below in
    within_both own.base (own.base + length own.bytes) (page + k) (omega arith) (omega arith)

-- a place beside it is none of the page
pub beside_page : (own : OwnView) (page place : ℕ) → IsOwnPage own page → is_own own place ≡ false → (place < page) ⊎ (page + 4096 ≤ place)
beside_page own page place inside beside = elim (cases_lt place page) [
  | inl below ↦ inl below
  | inr above ↦ elim (cases_lt place (page + 4096)) [
    | inl within ↦
        let low = inside.above in
        let high = inside.below in
        absurd (true≢false (sym (within_both own.base (own.base + length own.bytes) place (omega arith) (omega arith)) ∙ beside))
    | inr behind ↦ inr behind
  ]
]

-- the hypervisor's memory lies where it lay, and the cells have the seats that they had
pub record KeepsSeats (old new : Stage2) : Type 0 where
  pub base : new.frames.own.base ≡ old.frames.own.base
  pub size : length new.frames.own.bytes ≡ length old.frames.own.bytes
  pub seats : new.seats.items ≡ old.seats.items

pub seats_kept : (old new : Stage2) → KeepsTables old new → KeepsSeats old new
seats_kept old new kept = record { base = kept.writes.base; size = kept.writes.size; seats = ap (λ s. s.items) kept.seats }

pub own_kept : (old new : Stage2) (place : ℕ) → KeepsSeats old new → is_own new.frames.own place ≡ is_own old.frames.own place
own_kept old new place kept = own_same old.frames.own new.frames.own place kept.base kept.size

pub comm_same : (old new : Stage2) (id : ℕ) → KeepsSeats old new → comm_of new id ≡ comm_of old id
comm_same old new id kept = ap (cell_comm id) kept.seats

-- ---- bytes

-- all bytes but those of the page stay
abbrev pub KeepsOthers : FramesView → FramesView → ℕ → Type 0
KeepsOthers old new page = (q : ℕ) → (q < page) ⊎ (page + 4096 ≤ q) → byte_at new q ≡ byte_at old q

-- so each place of physical memory tells what it told
physical_by : (b : Bool) (old new : ℕ) → (b ≡ false → new ≡ old) → cond b 0 new ≡ cond b 0 old
physical_by true old new same = refl
physical_by false old new same = same refl

pub physical_kept : (own : OwnView) (old new : FramesView) (page place : ℕ) → IsOwnPage own page → KeepsOthers old new page → cond (is_own own place) 0 (byte_at new place) ≡ cond (is_own own place) 0 (byte_at old place)
physical_kept own old new page place inside kept =
    physical_by (is_own own place) (byte_at old place) (byte_at new place) (λ beside. kept place (beside_page own page place inside beside))

in_by : (b : Bool) (k : ℕ) (old new : ℕ) → nat_lt k 4096 ≡ b → (k < 4096 → new ≡ old) → cond b new 0 ≡ cond b old 0
in_by true k old new is same = same (ltb-true k 4096 is)
in_by false k old new is same = refl

-- the bytes of a page are alike where each below its end is
pub in_page : (old new : FramesView) (page : ℕ) (k : ℕ) → (k < 4096 → byte_at new (page + k) ≡ byte_at old (page + k)) → byte_in new page k ≡ byte_in old page k
in_page old new page k same = in_by (nat_lt k 4096) k (byte_at old (page + k)) (byte_at new (page + k)) refl same

-- and so does the page of another cell
pub comm_kept : (old new : FramesView) (page : ℕ) (o : Option ℕ) (k : ℕ) → KeepsOthers old new page → ((other : ℕ) → o ≡ Some other → (page + 4096 ≤ other) ⊎ (other + 4096 ≤ page)) → comm_byte new o k ≡ comm_byte old o k
comm_kept old new page None k kept apart = refl
comm_kept old new page (Some other) k kept apart =
    in_page old new other k (λ lt. elim (apart other refl) [
      | inl above ↦ kept (other + k) (inr (omega arith))
      | inr below ↦ kept (other + k) (inl (omega arith))
    ])

-- where memory changes at a place beside the hypervisor's alone, pages stay
pub page_beside : (own : OwnView) (old new : FramesView) (o : Option ℕ) (k : ℕ) → ((page : ℕ) → o ≡ Some page → IsOwnPage own page) → ((q : ℕ) → is_own own q ≡ true → byte_at new q ≡ byte_at old q) → comm_byte new o k ≡ comm_byte old o k
page_beside own old new None k inside kept = refl
page_beside own old new (Some page) k inside kept = in_page old new page k (λ lt. kept (page + k) (page_of_own own page k (inside page refl) lt))

-- ---- one byte

byte_by : (b : Bool) (old new : FramesView) (page k offset byte : ℕ) → eqb k offset ≡ b → offset < 4096 → byte_at new (page + offset) ≡ byte → ((q : ℕ) → (q ≡ page + offset → ⊥) → byte_at new q ≡ byte_at old q)
    → byte_in new page k ≡ cond b byte (byte_in old page k)
byte_by true old new page k offset byte is lt put kept =
    let e : offset ≡ k = sym (eqb-true k offset is) in
    subst (λ (j : ℕ). byte_in new page j ≡ byte) e (rw (lt-ltb offset 4096 lt) put)
byte_by false old new page k offset byte is lt put kept =
    in_page old new page k (λ below. kept (page + k) (λ e. true≢false (sym (eq-eqb k offset (omega arith)) ∙ is)))

-- the byte at an offset of a communication page
comm_put_by : (b : Bool) (old new : FramesView) (o : Option ℕ) (page k offset byte : ℕ) → (b ≡ true → o ≡ Some page) → offset < 4096 → byte_at new (page + offset) ≡ byte → ((q : ℕ) → (q ≡ page + offset → ⊥) → byte_at new q ≡ byte_at old q)
    → (b ≡ false → comm_byte new o k ≡ comm_byte old o k) → comm_byte new o k ≡ cond (b && eqb k offset) byte (comm_byte old o k)
comm_put_by true old new o page k offset byte own lt put kept other =
    let P : Option ℕ → Type 0 = λ x. comm_byte new x k ≡ cond (eqb k offset) byte (comm_byte old x k) in
    subst P (sym (own refl)) (byte_by (eqb k offset) old new page k offset byte refl lt put kept)
comm_put_by false old new o page k offset byte own lt put kept other = other refl

pub comm_put : (old new : Stage2) (cell page offset byte : ℕ) → KeepsSeats old new → comm_of old cell ≡ Some page → IsOwnPage old.frames.own page → offset < 4096
    → ((id other : ℕ) → (cell ≡ id → ⊥) → comm_of old id ≡ Some other → (page + 4096 ≤ other) ⊎ (other + 4096 ≤ page))
    → byte_at new.frames (page + offset) ≡ byte → ((q : ℕ) → (q ≡ page + offset → ⊥) → byte_at new.frames q ≡ byte_at old.frames q)
    → (q : Place) → byte_of new q ≡ with_byte (byte_of old) (Page cell offset) byte q
comm_put old new cell page offset byte seats own inside lt apart put kept (Physical place) =
    ap (λ b. cond b 0 (byte_at new.frames place)) (own_kept old new place seats)
    ∙ physical_kept old.frames.own old.frames new.frames page place inside (λ q beside. kept q (λ e. elim beside [
      | inl below ↦ absurd (omega arith)
      | inr above ↦ absurd (omega arith)
    ]))
comm_put old new cell page offset byte seats own inside lt apart put kept (Page id k) =
    ap (λ (o : Option ℕ). comm_byte new.frames o k) (comm_same old new id seats)
    ∙ comm_put_by (eqb id cell) old.frames new.frames (comm_of old id) page k offset byte (λ same. ap (comm_of old) (eqb-true id cell same) ∙ own) lt put kept
    (λ differ. comm_kept old.frames new.frames page (comm_of old id) k (λ q beside. kept q (λ e. elim beside [
      | inl below ↦ absurd (omega arith)
      | inr above ↦ absurd (omega arith)
    ])) (λ other is. apart id other (λ e. true≢false (sym (eq-eqb id cell (sym e)) ∙ differ)) is))

-- the byte at a place of physical memory beside the hypervisor's
put_by : (b c : Bool) (old new byte : ℕ) → (b ≡ true → c ≡ false) → (c ≡ true → new ≡ byte) → (c ≡ false → new ≡ old) → cond b 0 new ≡ cond c byte (cond b 0 old)
put_by true true old new byte apart own other = absurd (true≢false (apart refl))
put_by true false old new byte apart own other = refl
put_by false true old new byte apart own other = own refl
put_by false false old new byte apart own other = other refl

pub physical_put : (old new : Stage2) (address byte : ℕ) → KeepsSeats old new → is_own old.frames.own address ≡ false → ((id page : ℕ) → comm_of old id ≡ Some page → IsOwnPage old.frames.own page)
    → byte_at new.frames address ≡ byte → ((q : ℕ) → (q ≡ address → ⊥) → byte_at new.frames q ≡ byte_at old.frames q)
    → (q : Place) → byte_of new q ≡ with_byte (byte_of old) (Physical address) byte q
physical_put old new address byte seats beside inside put kept (Physical place) =
    ap (λ b. cond b 0 (byte_at new.frames place)) (own_kept old new place seats)
    ∙ put_by (is_own old.frames.own place) (eqb place address) (byte_at old.frames place) (byte_at new.frames place) byte
    (λ own. ne_eqb place address (λ e. true≢false (sym own ∙ ap (is_own old.frames.own) e ∙ beside)))
    (λ same. ap (byte_at new.frames) (eqb-true place address same) ∙ put)
    (λ differ. kept place (λ e. true≢false (sym (eq-eqb place address e) ∙ differ)))
physical_put old new address byte seats beside inside put kept (Page id k) =
    ap (λ (o : Option ℕ). comm_byte new.frames o k) (comm_same old new id seats)
    ∙ page_beside old.frames.own old.frames new.frames (comm_of old id) k (inside id) (λ q own. kept q (λ e. true≢false (sym own ∙ ap (is_own old.frames.own) e ∙ beside)))

-- ---- a whole page

-- the page of the cell after a change of its bytes
changed_by : (b : Bool) (new : FramesView) (page k : ℕ) (g : ℕ → ℕ) (before : ℕ) → nat_lt k 4096 ≡ b → (k < 4096 → byte_at new (page + k) ≡ g k) → (b ≡ false → before ≡ 0) → cond b (byte_at new (page + k)) 0 ≡ cond b (g k) before
changed_by true new page k g before is put past = put (ltb-true k 4096 is)
changed_by false new page k g before is put past = sym (past refl)

pub past_by : (o : Option ℕ) (frames : FramesView) (k : ℕ) → nat_lt k 4096 ≡ false → comm_byte frames o k ≡ 0
past_by None frames k past = refl
past_by (Some page) frames k past = ap (λ b. cond b (byte_at frames (page + k)) 0) past

-- what is known of a page that is changed, which its cell has, or takes and then writes whole
pub record IsChanged (old new : Stage2) (cell page : ℕ) (change : PageChange) : Type 0 where
  pub base : new.frames.own.base ≡ old.frames.own.base
  pub size : length new.frames.own.bytes ≡ length old.frames.own.bytes
  pub inside : IsOwnPage old.frames.own page
  pub own : comm_of new cell ≡ Some page
  pub others : (id : ℕ) → (id ≡ cell → ⊥) → comm_of new id ≡ comm_of old id
  pub apart : (id other : ℕ) → (id ≡ cell → ⊥) → comm_of new id ≡ Some other → (page + 4096 ≤ other) ⊎ (other + 4096 ≤ page)
  pub put : (k : ℕ) → k < 4096 → byte_at new.frames (page + k) ≡ page_after change (λ j. byte_of old (Page cell j)) k
  pub kept : KeepsOthers old.frames new.frames page

change_by : (b : Bool) (old new : Stage2) (id cell page k : ℕ) (change : PageChange) → eqb id cell ≡ b → IsChanged old new cell page change
    → comm_byte new.frames (comm_of new id) k ≡ cond (b && nat_lt k 4096) (page_after change (λ j. byte_of old (Page id j)) k) (comm_byte old.frames (comm_of old id) k)
change_by true old new id cell page k change is h =
    let e : cell ≡ id = sym (eqb-true id cell is) in
    let P : ℕ → Type 0 = λ n. comm_byte new.frames (comm_of new n) k ≡ cond (nat_lt k 4096) (page_after change (λ j. byte_of old (Page n j)) k) (comm_byte old.frames (comm_of old n) k) in
    subst P e
    (ap (λ (o : Option ℕ). comm_byte new.frames o k) h.own
    ∙ changed_by (nat_lt k 4096) new.frames page k (page_after change (λ j. byte_of old (Page cell j))) (comm_byte old.frames (comm_of old cell) k) refl (h.put k) (past_by (comm_of old cell) old.frames k))
change_by false old new id cell page k change is h =
    let other : id ≡ cell → ⊥ = λ e. true≢false (sym (eq-eqb id cell e) ∙ is) in
    comm_kept old.frames new.frames page (comm_of new id) k h.kept (λ place there. h.apart id place other there)
    ∙ ap (λ (o : Option ℕ). comm_byte old.frames o k) (h.others id other)

pub page_changed : (old new : Stage2) (write : PageWrite) (page : ℕ) → IsChanged old new write.cell page write.change → (q : Place) → byte_of new q ≡ with_page write (byte_of old) q
page_changed old new write page h (Physical place) =
    ap (λ b. cond b 0 (byte_at new.frames place)) (own_same old.frames.own new.frames.own place h.base h.size)
    ∙ physical_kept old.frames.own old.frames new.frames page place h.inside h.kept
page_changed old new write page h (Page id k) = change_by (eqb id write.cell) old new id write.cell page k write.change refl h
