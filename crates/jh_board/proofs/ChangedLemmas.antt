-- A communication page that the hypervisor writes: that of a cell, or one that was just taken and is written whole.
use Rattle.std.proofs.Common.{◌≡◌, ◌⊎◌, inl, inr, ℕ, zero, suc, ◌+◌, ◌-◌, ◌<◌, ◌≤◌, Bool, true, false, ◌&&◌, cond, eqb, List, [], ◌∷◌, length, Option, Some, None, nat_lt, refl, sym, ap, subst, ◌∙◌, arith}
use Rattle.std.specs.Prelude.{IfSome, slice_index}
use Rattle.std.proofs.lemmas.Bool.{true≢false, cases_lt, eq-eqb, false_from_ne_true, lt-ltb, ltb-true}
use Rattle.std.proofs.lemmas.Option.{none-some, same_Some}
use Rattle.jh_num.specs.Memory.{stored}
use Rattle.jh_num.proofs.Public.{stored_before, stored_behind, stored_in}
use Rattle.jh_frames.specs.Memory.{byte_at}
use Rattle.jh_history.specs.declared.comm.PageChange.{PageChange}
use Rattle.jh_history.specs.declared.comm.PageChange.TheVariants.{Fresh}
use Rattle.jh_history.specs.declared.comm.PageWrite.{PageWrite}
use Rattle.jh_history.specs.declared.place.Place.{Place}
use Rattle.jh_history.specs.declared.place.Place.TheVariants.{Physical, Page}
use Rattle.jh_history.specs.Pages.{page_after, with_page}
use Rattle.jh_edit.specs.declared.stage.Stage2.{Stage2}
use Rattle.jh_board.specs.Pages.{HoldsPlace, byte_of, comm_byte}
use Rattle.jh_board.specs.Seats.{comm_of, IsOwnPage, IsSeated}
use Rattle.jh_edit.specs.declared.planning.Planned.{Planned}
use Rattle.jh_edit.specs.declared.planning.Planned.TheVariants.{Unchanged, Create, Destroy}
use Rattle.jh_board.specs.Private.Editing.{HasComeIf, LastsBy, MayWritePage, StaysBy, StaysIf}
use Rattle.jh_board.specs.Private.Pages.{IsFresh, IsOtherPlace}
use Rattle.jh_board.proofs.PlaceLemmas.{past_by, IsChanged}
use Rattle.jh_history.proofs.Public.{same_function}

-- ---- the page of a cell

index_past : (xs : List ℕ) (k : ℕ) → length xs ≤ k → slice_index xs k ≡ 0
index_past [] k le = refl
index_past (x ∷ xs) zero le = absurd (omega arith)
index_past (x ∷ xs) (suc k) le = index_past xs k (omega arith)

past_end : (j : ℕ) → 4096 ≤ j → nat_lt j 4096 ≡ false
past_end j past = false_from_ne_true (nat_lt j 4096) (λ lt. let below = ltb-true j 4096 lt in absurd (omega arith))

-- the bytes that were on the page of a cell
before_by : (old : Stage2) (cell page : ℕ) (before : List ℕ) (j : ℕ) → comm_of old cell ≡ Some page → length before ≡ 4096 → ((k : ℕ) → k < 4096 → slice_index before k ≡ byte_at old.frames (page + k)) → slice_index before j ≡ byte_of old (Page cell j)
before_by old cell page before j own len bytes = elim (cases_lt j 4096) [
  | inl lt ↦ bytes j lt ∙ sym (ap (λ (o : Option ℕ). comm_byte old.frames o j) own ∙ ap (λ b. cond b (byte_at old.frames (page + j)) 0) (lt-ltb j 4096 lt))
  | inr past ↦ index_past before j (omega arith) ∙ sym (ap (λ (o : Option ℕ). comm_byte old.frames o j) own ∙ ap (λ b. cond b (byte_at old.frames (page + j)) 0) (past_end j past))
]

-- what the page that is written back tells
pub written_back : (old new : Stage2) (write : PageWrite) (page : ℕ) (before after : List ℕ) → new.seats ≡ old.seats → new.frames.own.base ≡ old.frames.own.base → length new.frames.own.bytes ≡ length old.frames.own.bytes
    → comm_of old write.cell ≡ Some page → IsOwnPage old.frames.own page
    → ((id other : ℕ) → (id ≡ write.cell → ⊥) → comm_of old id ≡ Some other → (page + 4096 ≤ other) ⊎ (other + 4096 ≤ page))
    → length before ≡ 4096 → ((k : ℕ) → k < 4096 → slice_index before k ≡ byte_at old.frames (page + k))
    → length after ≡ 4096 → ((k : ℕ) → k < 4096 → slice_index after k ≡ page_after write.change (λ j. slice_index before j) k)
    → ((q : ℕ) → byte_at new.frames q ≡ stored (byte_at old.frames) page after q)
    → IsChanged old new write.cell page write.change
written_back old new write page before after seats base size own inside apart len bytes whole changed put =
    let comm : (id : ℕ) → comm_of new id ≡ comm_of old id = λ id. ap (λ s. comm_of (record old { seats = s }) id) seats in
    record {
      base = base;
      size = size;
      inside = inside;
      own = comm write.cell ∙ own;
      others = λ id other. comm id;
      apart = λ id other differ there. apart id other differ (sym (comm id) ∙ there);
      put = λ k lt.
          let e : page + k - page ≡ k = omega arith in
          put (page + k)
          ∙ stored_in (byte_at old.frames) page after (page + k) (omega arith) (omega arith)
          ∙ ap (slice_index after) e
          ∙ changed k lt
          ∙ ap (λ (f : ℕ → ℕ). page_after write.change f k) (λ i j. before_by old write.cell page before j own len bytes i);
      kept = λ q beside. put q ∙ (elim beside [
        | inl below ↦ stored_before (byte_at old.frames) page after q below
        | inr behind ↦ stored_behind (byte_at old.frames) page after q (omega arith)
      ]);
    }

-- ---- a cell that comes

planned_other : (id tables : ℕ) (P : Type 0) (q : Place) → (StaysBy (Create id tables) q → P) → IsOtherPlace id q → P
planned_other id tables P q h other = h other

-- a fresh page is the same whatever was there
fresh_alike : (change : PageChange) (f g : ℕ → ℕ) (k : ℕ) → IsFresh change → page_after change f k ≡ page_after change g k
fresh_alike (Fresh state console window) f g k is = refl
fresh_alike change f g k is = absurd is

fresh_in : (b c : Bool) (change : PageChange) (f g : ℕ → ℕ) (k x y : ℕ) → IsFresh change → (b ≡ false → x ≡ y) → (c ≡ false → x ≡ y) → cond (b && c) (page_after change f k) x ≡ cond (b && c) (page_after change g k) y
fresh_in true true change f g k x y is other past = fresh_alike change f g k is
fresh_in true false change f g k x y is other past = past refl
fresh_in false c change f g k x y is other past = other refl

-- so a page that the cell has just got is written whole
pub fresh_whole : (old middle : Stage2) (write : PageWrite) → IsFresh write.change → ((q : Place) → IsOtherPlace write.cell q → byte_of middle q ≡ byte_of old q) → (q : Place) → with_page write (byte_of middle) q ≡ with_page write (byte_of old) q
fresh_whole old middle write is bytes (Physical p) = bytes (Physical p) tt
fresh_whole old middle write is bytes (Page id k) =
    fresh_in (eqb id write.cell) (nat_lt k 4096) write.change (λ j. byte_of middle (Page id j)) (λ j. byte_of old (Page id j)) k (byte_of middle (Page id k)) (byte_of old (Page id k)) is
    (λ differ. bytes (Page id k) (λ e. true≢false (sym (eq-eqb id write.cell e) ∙ differ)))
    (λ past. past_by (comm_of middle id) middle.frames k past ∙ sym (past_by (comm_of old id) old.frames k past))

-- so a write after what is planned is one over the bytes before: a cell that comes has a page that is written whole
pub page_planned : (planned : Option Planned) (old middle : Stage2) (write : Option PageWrite) (w : PageWrite) → write ≡ Some w → MayWritePage planned old write → ((q : Place) → StaysIf planned q → byte_of middle q ≡ byte_of old q)
    → (q : Place) → with_page w (byte_of middle) q ≡ with_page w (byte_of old) q
page_planned None old middle write w is may bytes q = ap (λ (byte : Place → ℕ). with_page w byte q) (same_function (byte_of middle) (byte_of old) (λ p. bytes p tt))
page_planned (Some Unchanged) old middle write w is may bytes q = ap (λ (byte : Place → ℕ). with_page w byte q) (same_function (byte_of middle) (byte_of old) (λ p. bytes p tt))
page_planned (Some (Create id tables)) old middle write w is may bytes q =
    let same : may.0 ≡ w = same_Some may.0 w (sym may.1.0 ∙ is) in
    let named : w.cell ≡ id = ap (λ (x : PageWrite). x.cell) (sym same) ∙ may.1.1 in
    let P : PageWrite → Type 0 = λ x. IsFresh x.change in
    let Q : ℕ → Type 0 = λ n. (p : Place) → IsOtherPlace n p → byte_of middle p ≡ byte_of old p in
    fresh_whole old middle w (subst P same may.1.2) (subst Q (sym named) (λ p. planned_other id tables (byte_of middle p ≡ byte_of old p) p (bytes p))) q
page_planned (Some (Destroy id)) old middle write w is may bytes q = absurd (none-some w (sym may ∙ is))

-- the cell whose page is written has one then
pub seat_planned : (planned : Option Planned) (old middle : Stage2) (write : Option PageWrite) (w : PageWrite) → write ≡ Some w → MayWritePage planned old write → ((q : Place) → StaysIf planned q → HoldsPlace old q → HoldsPlace middle q) → HasComeIf planned middle
    → IsSeated middle w.cell
seat_planned None old middle write w is may held come = let P : Option PageWrite → Type 0 = λ o. IfSome o (λ x. IsSeated old x.cell) in (held (Page w.cell 0) tt (subst P is may, omega arith)).0
seat_planned (Some Unchanged) old middle write w is may held come =
    let P : Option PageWrite → Type 0 = λ o. IfSome o (λ x. IsSeated old x.cell) in (held (Page w.cell 0) tt (subst P is may, omega arith)).0
seat_planned (Some (Create id tables)) old middle write w is may held come =
    let same : may.0 ≡ w = same_Some may.0 w (sym may.1.0 ∙ is) in
    let named : w.cell ≡ id = ap (λ (x : PageWrite). x.cell) (sym same) ∙ may.1.1 in
    subst (IsSeated middle) (sym named) come
seat_planned (Some (Destroy id)) old middle write w is may held come = absurd (none-some w (sym may ∙ is))

-- where no page is written, no cell comes, and a place that lasts stays
pub unwritten_planned : (planned : Option Planned) (old : Stage2) (write : Option PageWrite) (q : Place) → write ≡ None → MayWritePage planned old write → LastsBy planned q → StaysIf planned q
unwritten_planned None old write q is may lasts = tt
unwritten_planned (Some Unchanged) old write q is may lasts = tt
unwritten_planned (Some (Create id tables)) old write q is may lasts = absurd (none-some may.0 (sym is ∙ may.1.0))
unwritten_planned (Some (Destroy id)) old write q is may lasts = lasts
