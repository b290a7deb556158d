-- What keeps the tables of all cells: nothing that is done, one change behind another, and bytes that change beside tables.
use Rattle.std.proofs.Common.{◌≡◌, ℕ, ◌+◌, ◌-◌, ◌%◌, ◌<◌, ◌≤◌, true, nat_eq, length, sum_by, List, Option, Some, None, if◌then◌else◌, refl, sym, ap, subst, ◌∙◌, arith}
use Rattle.std.specs.Prelude.{Contains, OnErr, OnOk, Result, Ok, Err}
use Rattle.jh_num.specs.Memory.{stored}
use Rattle.jh_frames.specs.Memory.{FramesView, OwnView, byte_at, is_own, own_byte}
use Rattle.jh_edit.specs.declared.stage.Editing.{Editing}
use Rattle.jh_edit.specs.declared.stage.Seat.{Seat}
use Rattle.jh_edit.specs.declared.stage.Stage2.{Stage2}
use Rattle.jh_edit.specs.Forest.{comm_times, comm_uses, is_gone, is_root, with_frames, IsForest, WritesNoTable}
use Rattle.jh_cellcfg.specs.declared.config.SystemConfig.{SystemConfig}
use Rattle.jh_pool.specs.Pages.{PoolView}
use Rattle.jh_cellcfg.specs.declared.live.Live.{Live}
use Rattle.jh_script.specs.declared.image.Image.{Image}
use Rattle.jh_shape.specs.Claims.{Claims}
use Rattle.jh_board.specs.Means.{IsInside, IsStageOf}
use Rattle.jh_board.specs.Tables.{claims_in}
use Rattle.jh_board.specs.Pages.{KeepsTables, LiesAlike}
use Rattle.jh_frames.proofs.Public.{byte_own}
use Rattle.jh_board.specs.Seats.{comm_of, ids_of, AreCellSeats}
use Rattle.jh_board.proofs.PieceLemmas.{stored_writes, IsBeside}
use Rattle.jh_board.proofs.PlaceLemmas.{own_same}
use Rattle.jh_board.proofs.SeatsLemmas.{comm_counts}

pub tables_same : (stage : Stage2) → KeepsTables stage stage
tables_same stage = record {
  pool = refl;
  cache = refl;
  seats = refl;
  editing = refl;
  writes = record { base = refl; size = refl; bytes = λ place own none. refl };
}

uses_same : (a b : Stage2) (page : ℕ) → KeepsTables a b → comm_uses b page ≡ comm_uses a page
uses_same a b page kept =
    ap (λ (e : Option Editing). sum_by (λ (seat : Seat). if is_gone e seat then 0 else comm_times page seat.comm) b.seats.items) kept.editing
    ∙ ap (λ s. sum_by (λ (seat : Seat). if is_gone a.editing seat then 0 else comm_times page seat.comm) s.items) kept.seats

pub tables_both : (a b c : Stage2) → KeepsTables a b → KeepsTables b c → KeepsTables a c
tables_both a b c first second = record {
  pool = second.pool ∙ first.pool;
  cache = second.cache ∙ first.cache;
  seats = second.seats ∙ first.seats;
  editing = second.editing ∙ first.editing;
  writes = record {
    base = second.writes.base ∙ first.writes.base;
    size = second.writes.size ∙ first.writes.size;
    bytes = λ place own none.
        second.writes.bytes place (own_same a.frames.own b.frames.own place first.writes.base first.writes.size ∙ own) (uses_same a b (place - place % 4096) first ∙ none)
        ∙ first.writes.bytes place own none;
  };
}

-- the stage with other memory, of which no byte of the hypervisor's changes but in communication pages
pub tables_put : (old : Stage2) (frames : FramesView) → WritesNoTable old frames → KeepsTables old (with_frames old frames)
tables_put old frames writes = record { pool = refl; cache = refl; seats = refl; editing = refl; writes = writes }

-- a write beside the hypervisor's memory is such
pub writes_beside : (old : Stage2) (frames : FramesView) → frames.own.base ≡ old.frames.own.base → length frames.own.bytes ≡ length old.frames.own.bytes → ((q : ℕ) → is_own old.frames.own q ≡ true → byte_at frames q ≡ byte_at old.frames q)
    → WritesNoTable old frames
writes_beside old frames base size same = record { base = base; size = size; bytes = λ place own none. same place own }

-- so are bytes that are stored beside it, or not for want of memory
pub writes_by : {T E : Type 0} (result : Result T E) (old : Stage2) (frames : FramesView) (at : ℕ) (bytes : List ℕ) → frames.own.base ≡ old.frames.own.base → length frames.own.bytes ≡ length old.frames.own.bytes → IsBeside old.frames.own at (length bytes)
    → OnOk result ((q : ℕ) → byte_at frames q ≡ stored (byte_at old.frames) at bytes q) → OnErr result ((frames.own ≡ old.frames.own) × (frames.guest.pages ≡ old.frames.guest.pages)) → WritesNoTable old frames
writes_by (Ok value) old frames at bytes base size beside put same = writes_beside old frames base size (stored_writes old (byte_at frames) at bytes beside put)
writes_by (Err fault) old frames at bytes base size beside put same =
    writes_beside old frames base size (λ q own.
    byte_own frames q (ap (λ (o : OwnView). is_own o q) same.0 ∙ own) ∙ ap (λ (o : OwnView). own_byte o q) same.0 ∙ sym (byte_own old.frames q own))

-- and so is one of the communication page of a cell
pub writes_comm : (old : Stage2) (frames : FramesView) (id page : ℕ) → old.editing ≡ None → comm_of old id ≡ Some page → page % 4096 ≡ 0 → frames.own.base ≡ old.frames.own.base → length frames.own.bytes ≡ length old.frames.own.bytes
    → ((q : ℕ) → (page ≤ q → q < page + 4096 → ⊥) → byte_at frames q ≡ byte_at old.frames q) → WritesNoTable old frames
writes_comm old frames id page still own aligned base size same = record {
  base = base;
  size = size;
  bytes = λ place is none. same place (λ above below.
      let e : place - place % 4096 ≡ page = omega arith in
      let P : ℕ → Type 0 = λ q. comm_uses old q ≡ 0 in
      comm_counts old id page still own (subst P e none));
}

-- ---- what stays with them

pub inside_lies : (system : SystemConfig) (old new : Stage2) → LiesAlike old new → IsInside system old → IsInside system new
inside_lies system old new same h = record { base = same.base ∙ h.base; size = same.size ∙ h.size; pages = same.pages ∙ h.pages }

pub lies_kept : (old new : Stage2) → KeepsTables old new → LiesAlike old new
lies_kept old new kept = record { base = kept.writes.base; size = kept.writes.size; pages = ap (λ (p : PoolView). p.size) kept.pool }

pub inside_kept : (system : SystemConfig) (old new : Stage2) → KeepsTables old new → IsInside system old → IsInside system new
inside_kept system old new kept = inside_lies system old new (lies_kept old new kept)

pub ids_same : (old new : Stage2) → KeepsTables old new → ids_of new ≡ ids_of old
ids_same old new kept = ap (λ s. ids_of (record old { seats = s })) kept.seats

comms_same : (root : ℕ) (old new : Stage2) → KeepsTables old new → AreCellSeats root old → AreCellSeats root new
comms_same root old new kept h =
    let P : List Seat → Type 0 = λ list. (seat : Seat) → Contains list seat → is_root seat ≡ nat_eq seat.id root in subst P (sym (ap (λ s. s.items) kept.seats)) h

-- what a write beside tables keeps
abbrev pub WritesKeepForests : Type 0
WritesKeepForests = (claims : Seat → Claims) (stage : Stage2) (after : FramesView) → IsForest claims stage → WritesNoTable stage after → IsForest claims (with_frames stage after)

-- but for its memory the stage is the same
put_same : (old new : Stage2) → KeepsTables old new → new ≡ with_frames old new.frames
put_same old new kept = λ i. record { frames = new.frames; pool = kept.pool i; cache = kept.cache i; seats = kept.seats i; editing = kept.editing i }

pub forest_kept : WritesKeepForests → (claims : Seat → Claims) (old new : Stage2) → KeepsTables old new → IsForest claims old → IsForest claims new
forest_kept law claims old new kept h = subst (IsForest claims) (sym (put_same old new kept)) (law claims old new.frames h kept.writes)

pub stage_kept : WritesKeepForests → (image : Image) (cells : List Live) (old new : Stage2) → KeepsTables old new → IsStageOf image cells old → IsStageOf image cells new
stage_kept law image cells old new kept h = record {
  inside = inside_kept image.system old new kept h.inside;
  seats = ids_same old new kept ∙ h.seats;
  comms = comms_same image.system.root.id old new kept h.comms;
  forest = forest_kept law (claims_in image cells) old new kept h.forest;
  still = kept.editing ∙ h.still;
}
