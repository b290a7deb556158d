-- The turn in which a cell gets its communication page and its first table.
use Rattle.std.proofs.Common.{◌≡◌, ◌≢◌, ℕ, ◌+◌, ◌*◌, ◌%◌, ◌/◌, ◌<◌, ◌≤◌, ◌⊎◌, ◌↔◌, inl, inr, ap, ◌∙◌, sym, subst, Bool, true, false, ◌||◌, nat_eq, List, [], ◌∷◌, ◌++◌, get_or, sum_by, Option, Some, None, if◌then◌else◌, arith, refl, ⊎_elim}
use Rattle.std.specs.Prelude.{AllPairs, Contains, IfSome}
use Rattle.std.proofs.lemmas.Bool.{and_left, cases_eq, cases_lt, eq-eqb, false≢true, ne_eqb}
use Rattle.std.proofs.lemmas.Option.{none-some, same_Some}
use Rattle.std.proofs.lemmas.List.Elements.{Contains-append_cases, Contains-append_left, Contains-append_right}
use Rattle.std.proofs.lemmas.List.Quantifiers.{all_pairs_push}
use Rattle.std.proofs.lemmas.List.Sums.{sum_by_push}
use Rattle.jh_num.proofs.Public.{Contains_cases, Contains_head, read_again, same_number}
use Rattle.jh_num.specs.declared.address.TheConstants.{ADDRESS_END}
use Rattle.jh_num.specs.declared.rights.Rights.{Rights}
use Rattle.jh_num.specs.Levels.{slot_size}
use Rattle.jh_desc.specs.declared.descriptor.Descriptor.{Descriptor}
use Rattle.jh_desc.specs.declared.descriptor.Descriptor.TheVariants.{Invalid}
use Rattle.jh_desc.specs.Descriptors.{read_of}
use Rattle.jh_frames.specs.Memory.{byte_at}
use Rattle.jh_pool.specs.Pages.{IsTakenPage, is_free}
use Rattle.jh_cache.specs.declared.translation.Translation.{Translation}
use Rattle.jh_cache.specs.Translations.{translations_of}
use Rattle.jh_walk.specs.Pages.{HaveSameTables, times}
use Rattle.jh_walk.specs.Walks.{levels, walk_of, walk_on}
use Rattle.jh_desc.specs.Levels.{index_of}
use Rattle.jh_walk.proofs.Public.{counts_same, index_small, walk_same}
use Rattle.jh_shape.specs.Claims.{Claims}
use Rattle.jh_shape.specs.Pages.{tables_at, tables_of}
use Rattle.jh_shape.specs.Shapes.{want_of}
use Rattle.jh_shape.specs.SoundClaims.{AreSoundClaims, IsSlot}
use Rattle.jh_shape.specs.Wanted.{slot_start, tables_under}
use Rattle.jh_shape.specs.declared.want.Want.{Want}
use Rattle.jh_shape.specs.declared.want.Want.TheVariants.{Nothing, Table as WantTable, Leaf as WantLeaf}
use Rattle.jh_edit.specs.declared.edit.Ahead.{Ahead}
use Rattle.jh_edit.specs.declared.stage.CellPart.TheVariants.{Fresh, Build}
use Rattle.jh_edit.specs.declared.stage.Editing.{Editing}
use Rattle.jh_edit.specs.declared.stage.Seat.{Seat}
use Rattle.jh_edit.specs.declared.stage.Stage2.{Stage2}
use Rattle.jh_edit.specs.declared.stage.Tree.{Tree}
use Rattle.jh_edit.specs.Forest.{AreApart, HasSeat, IsBuildPart, IsCellPart, IsEdit, IsForest, IsFreshPart, IsKeptOut, IsRootPart, IsTrueTranslation, ahead_times, ahead_uses, comm_times, comm_uses, is_built, is_coming, is_edited, is_gone, is_removed, is_root, left_of, part_ahead_times, part_left, table_uses, tree_times, uses, with_comm}
use Rattle.jh_edit.specs.Plans.{EditView, HasSameWords, IsMade, IsMadeTable, ahead_count}
use Rattle.jh_edit.specs.Stages.{IsFreshTurn}
use Rattle.jh_edit.specs.Tables.{IsPoolOf, is_ahead, words}
use Rattle.jh_edit.specs.Trees.{lack_at, lack_of, staying}
use Rattle.jh_edit.specs.Turns.{turns_of}
use Rattle.jh_edit.proofs.BlankLemmas.{IsClear, clear_lack, clear_times}
use Rattle.jh_edit.proofs.ForestEditLemmas.{ahead_words}
use Rattle.jh_edit.proofs.ForestLemmas.{same_stands, same_tree, sum_alike, sum_up, used_page}
use Rattle.jh_edit.proofs.MadeLemmas.{made_turns}
use Rattle.jh_edit.proofs.MoveLackLemmas.{lack_told}
use Rattle.jh_edit.proofs.PartLemmas.{fit_after, kept_after}
use Rattle.jh_edit.proofs.PlanLemmas.{plan_stays}
use Rattle.jh_edit.proofs.StepLemmas.{word_alike}
use Rattle.jh_edit.proofs.TurnedLemmas.{out_after}
use Rattle.jh_edit.proofs.TurningLemmas.{apart_pages}

-- ---- a list with one element more

snoc_cases : {X : Type 0} (xs : List X) (y x : X) → Contains (xs ++ y ∷ []) x → Contains xs x ⊎ (y ≡ x)
snoc_cases xs y x among =
    ⊎_elim
    (λ (old : Contains xs x). inl old)
    (λ (new : Contains (y ∷ []) x). ⊎_elim (λ (same : y ≡ x). inr same) (λ (past : Contains [] x). absurd (omega (arith, past.1))) (Contains_cases y [] x new))
    (Contains-append_cases xs (y ∷ []) x among)

-- ---- the turn

-- a cell gets its first pages, from tables of all cells and an edit of them
pub record Freshening (claims : Seat → Claims) (rootward coming : Claims) (id bound : ℕ) (edit' : EditView) (editing editing' : Editing) (old new : Stage2) : Type 0 where
  pub on : old.editing ≡ Some editing
  pub forest : IsForest claims old
  pub is : IsEdit rootward coming old editing
  pub turn : IsFreshTurn coming id bound edit' editing editing' old new
  pub part : IsFreshPart coming old id bound is.lack

abbrev pub fresh_tree : ℕ → ℕ → Tree
fresh_tree table tag = record { table = table; tag = tag }

abbrev pub fresh_seat : ℕ → ℕ → Tree → Seat
fresh_seat id comm tree = record { id = id; comm = Some comm; tree = Some tree }

-- a page that is free has no use
pub free_unused : (claims : Seat → Claims) (stage : Stage2) → IsForest claims stage → (page : ℕ) → is_free stage.pool page ≡ true → uses stage page ≡ 0
free_unused claims stage forest page free =
    ⊎_elim
    (λ (some : 0 < uses stage page). absurd (false≢true (sym ((forest.taken page).1 some).taken ∙ free)))
    (λ (none : uses stage page ≤ 0). omega arith)
    (cases_lt 0 (uses stage page))

-- a page that has a use has the same words after
fresh_page : (claims : Seat → Claims) (rootward coming : Claims) (id bound : ℕ) (edit' : EditView) (editing editing' : Editing) (old new : Stage2) → Freshening claims rootward coming id bound edit' editing editing' old new
    → (page : ℕ) → 0 < uses old page → (slot : ℕ) → slot < 512 → words new.frames (page + 8 * slot) ≡ words old.frames (page + 8 * slot)
fresh_page claims rootward coming id bound edit' editing editing' old new f page used slot few =
    let table = f.turn.table in
    let none : uses old table ≡ 0 = free_unused claims old f.forest table f.turn.table_free in
    let begins : page % 4096 ≡ 0 = (used_page claims old f.forest page used).aligned in
    let apart : page ≢ table = λ e. let same : uses old page ≡ uses old table = ap (uses old) e in omega arith in
    word_alike (byte_at old.frames) (byte_at new.frames) (page + 8 * slot) (λ r from below. f.turn.outside r (apart_pages page table slot r begins f.turn.table_taken.in_range.aligned apart few from below))

-- so have the tables of each cell
fresh_tables : (claims : Seat → Claims) (rootward coming : Claims) (id bound : ℕ) (edit' : EditView) (editing editing' : Editing) (old new : Stage2) → Freshening claims rootward coming id bound edit' editing editing' old new
    → (seat : Seat) (tree : Tree) → HasSeat old seat → seat.tree ≡ Some tree → HaveSameTables (words old.frames) (words new.frames) levels tree.table
fresh_tables claims rootward coming id bound edit' editing editing' old new f seat tree sits has = record {
  words = λ page slot some few.
      let up : tree_times (words old.frames) page seat.tree ≤ table_uses old page = sum_up (λ (s : Seat). tree_times (words old.frames) page s.tree) old.seats.items seat sits in
      let is : tree_times (words old.frames) page seat.tree ≡ times (words old.frames) levels tree.table page = ap (tree_times (words old.frames) page) has in
      fresh_page claims rootward coming id bound edit' editing editing' old new f page (omega arith) slot few;
}

-- ---- how often each page is used

-- one where the two are the same
abbrev one_at : ℕ → ℕ → ℕ
one_at a b = if nat_eq a b then 1 else 0

one_here : (a b : ℕ) → a ≡ b → one_at a b ≡ 1
one_here a b e = ap (λ (x : Bool). if x then 1 else 0) (eq-eqb a b e)

one_not : (a b : ℕ) → a ≢ b → one_at a b ≡ 0
one_not a b e = ap (λ (x : Bool). if x then 1 else 0) (ne_eqb a b e)

fresh_table_uses : (claims : Seat → Claims) (rootward coming : Claims) (id bound : ℕ) (edit' : EditView) (editing editing' : Editing) (old new : Stage2) → (f : Freshening claims rootward coming id bound edit' editing editing' old new)
    → (page : ℕ) → table_uses new page ≡ table_uses old page + one_at f.turn.table page
fresh_table_uses claims rootward coming id bound edit' editing editing' old new f page =
    let N : Seat → ℕ = λ (s : Seat). tree_times (words new.frames) page s.tree in
    let F : Seat → ℕ = λ (s : Seat). tree_times (words old.frames) page s.tree in
    let seat = fresh_seat id f.turn.comm (fresh_tree f.turn.table f.turn.tag) in
    let all : sum_by N new.seats.items ≡ sum_by N old.seats.items + N seat = ap (sum_by N) f.turn.seats ∙ sum_by_push N old.seats.items seat in
    let kept : sum_by N old.seats.items ≡ sum_by F old.seats.items =
    sum_alike N F old.seats.items (λ s among. same_tree (words old.frames) (words new.frames) page s.tree (λ tree has. fresh_tables claims rootward coming id bound edit' editing editing' old new f s tree among has))
    in
    let one : N seat ≡ one_at f.turn.table page = clear_times (words new.frames) f.turn.table page f.turn.zero in
    omega arith

fresh_gone : (editing : Editing) (id : ℕ) (edit : EditView) (seat : Seat) → editing.cell ≡ Build id edit → is_gone (Some editing) seat ≡ false
fresh_gone editing id edit seat is = and_left (is_removed editing.cell seat.id) (nat_eq (left_of editing) 0) (ap (λ part. is_removed part seat.id) is)

pub begun_gone : (editing : Editing) (id bound : ℕ) (seat : Seat) → editing.cell ≡ Fresh id bound → is_gone (Some editing) seat ≡ false
begun_gone editing id bound seat is = and_left (is_removed editing.cell seat.id) (nat_eq (left_of editing) 0) (ap (λ part. is_removed part seat.id) is)

fresh_comm_uses : (claims : Seat → Claims) (rootward coming : Claims) (id bound : ℕ) (edit' : EditView) (editing editing' : Editing) (old new : Stage2) → (f : Freshening claims rootward coming id bound edit' editing editing' old new)
    → (page : ℕ) → comm_uses new page ≡ comm_uses old page + one_at f.turn.comm page
fresh_comm_uses claims rootward coming id bound edit' editing editing' old new f page =
    let C : Seat → ℕ = λ (s : Seat). comm_times page s.comm in
    let N : Seat → ℕ = λ (s : Seat). if is_gone new.editing s then 0 else comm_times page s.comm in
    let F : Seat → ℕ = λ (s : Seat). if is_gone old.editing s then 0 else comm_times page s.comm in
    let seat = fresh_seat id f.turn.comm (fresh_tree f.turn.table f.turn.tag) in
    let each : (s : Seat) → N s ≡ C s = λ s. ap (λ b. if b then 0 else comm_times page s.comm) (ap (λ e. is_gone e s) f.turn.now ∙ fresh_gone editing' id edit' s f.turn.cell) in
    let each' : (s : Seat) → F s ≡ C s = λ s. ap (λ b. if b then 0 else comm_times page s.comm) (ap (λ e. is_gone e s) f.on ∙ begun_gone editing id bound s f.turn.was) in
    let all : sum_by N new.seats.items ≡ sum_by N old.seats.items + N seat = ap (sum_by N) f.turn.seats ∙ sum_by_push N old.seats.items seat in
    let kept : sum_by N old.seats.items ≡ sum_by F old.seats.items = sum_alike N F old.seats.items (λ s among. each s ∙ sym (each' s)) in
    let one : N seat ≡ one_at f.turn.comm page = each seat in
    omega arith

fresh_ahead_uses : (claims : Seat → Claims) (rootward coming : Claims) (id bound : ℕ) (edit' : EditView) (editing editing' : Editing) (old new : Stage2) → (f : Freshening claims rootward coming id bound edit' editing editing' old new)
    → (page : ℕ) → ahead_uses new.editing page ≡ ahead_uses old.editing page
fresh_ahead_uses claims rootward coming id bound edit' editing editing' old new f page =
    let after : ahead_uses new.editing page ≡ ahead_times page editing'.root + part_ahead_times page editing'.cell = ap (λ e. ahead_uses e page) f.turn.now in
    let before : ahead_uses old.editing page ≡ ahead_times page editing.root + part_ahead_times page editing.cell = ap (λ e. ahead_uses e page) f.on in
    let root : ahead_times page editing'.root ≡ ahead_times page editing.root = ap (ahead_times page) f.turn.root in
    let was : part_ahead_times page editing.cell ≡ 0 = ap (part_ahead_times page) f.turn.was in
    let is : part_ahead_times page editing'.cell ≡ ahead_times page edit' = ap (part_ahead_times page) f.turn.cell in
    let none : ahead_times page edit' ≡ 0 = ap (λ (a : Option Ahead). if is_ahead a page then 1 else 0) f.turn.ahead in
    omega arith

fresh_uses : (claims : Seat → Claims) (rootward coming : Claims) (id bound : ℕ) (edit' : EditView) (editing editing' : Editing) (old new : Stage2) → (f : Freshening claims rootward coming id bound edit' editing editing' old new)
    → (page : ℕ) → uses new page ≡ uses old page + (one_at f.turn.table page + one_at f.turn.comm page)
fresh_uses claims rootward coming id bound edit' editing editing' old new f page =
    let tables = fresh_table_uses claims rootward coming id bound edit' editing editing' old new f page in
    let comms = fresh_comm_uses claims rootward coming id bound edit' editing editing' old new f page in
    let aheads = fresh_ahead_uses claims rootward coming id bound edit' editing editing' old new f page in
    omega arith

-- ---- pages after

fresh_once : (claims : Seat → Claims) (rootward coming : Claims) (id bound : ℕ) (edit' : EditView) (editing editing' : Editing) (old new : Stage2) → (f : Freshening claims rootward coming id bound edit' editing editing' old new)
    → (page : ℕ) → uses new page ≤ 1
fresh_once claims rootward coming id bound edit' editing editing' old new f page =
    let all = fresh_uses claims rootward coming id bound edit' editing editing' old new f page in
    let once : uses old page ≤ 1 = f.forest.once page in
    ⊎_elim
    (λ (comm : f.turn.comm ≡ page).
    let none : uses old page ≡ 0 = ap (uses old) (sym comm) ∙ free_unused claims old f.forest f.turn.comm f.turn.comm_free in
    let no : one_at f.turn.table page ≡ 0 = (one_not f.turn.table page (λ e. f.turn.apart (comm ∙ sym e))) in
    let one : one_at f.turn.comm page ≡ 1 = (one_here f.turn.comm page comm) in
    omega arith)
    (λ other.
    let no' : one_at f.turn.comm page ≡ 0 = (one_not f.turn.comm page other) in
    ⊎_elim
    (λ (table : f.turn.table ≡ page).
    let none : uses old page ≡ 0 = ap (uses old) (sym table) ∙ free_unused claims old f.forest f.turn.table f.turn.table_free in
    let one : one_at f.turn.table page ≡ 1 = (one_here f.turn.table page table) in
    omega arith)
    (λ other'.
    let no : one_at f.turn.table page ≡ 0 = (one_not f.turn.table page other') in
    omega arith)
    (cases_eq f.turn.table page))
    (cases_eq f.turn.comm page)

-- a page besides the two is taken after where it was before
fresh_range : (coming : Claims) (id bound : ℕ) (edit' : EditView) (editing editing' : Editing) (old new : Stage2) → (r : IsFreshTurn coming id bound edit' editing editing' old new) → (page : ℕ) → r.comm ≢ page → r.table ≢ page
    → IsTakenPage new.pool page ↔ IsTakenPage old.pool page
fresh_range coming id bound edit' editing editing' old new r page other other' =
    let base : new.pool.base ≡ old.pool.base = r.pool_base in
    let size : new.pool.size ≡ old.pool.size = r.pool_size in
    let same : is_free new.pool page ≡ is_free old.pool page = r.others page (λ e. other (sym e)) (λ e. other' (sym e)) in (
      λ taken.
          let above : new.pool.base ≤ page = taken.in_range.above in
          let below : page < new.pool.base + 4096 * new.pool.size = taken.in_range.below in
          record { in_range = record { aligned = taken.in_range.aligned; above = omega arith; below = omega arith }; taken = sym same ∙ taken.taken },
      λ taken.
          let above : old.pool.base ≤ page = taken.in_range.above in
          let below : page < old.pool.base + 4096 * old.pool.size = taken.in_range.below in
          record { in_range = record { aligned = taken.in_range.aligned; above = omega arith; below = omega arith }; taken = same ∙ taken.taken },
    )

fresh_taken : (claims : Seat → Claims) (rootward coming : Claims) (id bound : ℕ) (edit' : EditView) (editing editing' : Editing) (old new : Stage2) → (f : Freshening claims rootward coming id bound edit' editing editing' old new)
    → (page : ℕ) → IsTakenPage new.pool page ↔ (0 < uses new page)
fresh_taken claims rootward coming id bound edit' editing editing' old new f page =
    let all = fresh_uses claims rootward coming id bound edit' editing editing' old new f page in
    ⊎_elim
    (λ (comm : f.turn.comm ≡ page).
    let one : one_at f.turn.comm page ≡ 1 = (one_here f.turn.comm page comm) in
    let taken : IsTakenPage new.pool page = subst (IsTakenPage new.pool) comm f.turn.comm_taken in
    (λ is. omega arith, λ some. taken))
    (λ other. ⊎_elim
    (λ (table : f.turn.table ≡ page).
    let one : one_at f.turn.table page ≡ 1 = (one_here f.turn.table page table) in
    let taken : IsTakenPage new.pool page = subst (IsTakenPage new.pool) table f.turn.table_taken in
    (λ is. omega arith, λ some. taken))
    (λ other'.
    let no' : one_at f.turn.comm page ≡ 0 = (one_not f.turn.comm page other) in
    let no : one_at f.turn.table page ≡ 0 = (one_not f.turn.table page other') in
    let range = fresh_range coming id bound edit' editing editing' old new f.turn page other other' in
    (λ is. let some : 0 < uses old page = (f.forest.taken page).0 (range.0 is) in omega arith, λ some. range.1 ((f.forest.taken page).1 (omega arith))))
    (cases_eq f.turn.table page))
    (cases_eq f.turn.comm page)

-- ---- seats after

fresh_cases : (claims : Seat → Claims) (rootward coming : Claims) (id bound : ℕ) (edit' : EditView) (editing editing' : Editing) (old new : Stage2) → (f : Freshening claims rootward coming id bound edit' editing editing' old new)
    → (seat : Seat) → HasSeat new seat → HasSeat old seat ⊎ (fresh_seat id f.turn.comm (fresh_tree f.turn.table f.turn.tag) ≡ seat)
fresh_cases claims rootward coming id bound edit' editing editing' old new f seat sits =
    let P : List Seat → Type 0 = λ seats. Contains seats seat in
    snoc_cases old.seats.items (fresh_seat id f.turn.comm (fresh_tree f.turn.table f.turn.tag)) seat (subst P f.turn.seats sits)

fresh_sits : (claims : Seat → Claims) (rootward coming : Claims) (id bound : ℕ) (edit' : EditView) (editing editing' : Editing) (old new : Stage2) → (f : Freshening claims rootward coming id bound edit' editing editing' old new)
    → (seat : Seat) → HasSeat old seat → HasSeat new seat
fresh_sits claims rootward coming id bound edit' editing editing' old new f seat sits =
    let P : List Seat → Type 0 = λ seats. Contains seats seat in
    let one = fresh_seat id f.turn.comm (fresh_tree f.turn.table f.turn.tag) in
    subst P (sym f.turn.seats) (Contains-append_left old.seats.items (one ∷ []) seat sits)

fresh_new_sits : (claims : Seat → Claims) (rootward coming : Claims) (id bound : ℕ) (edit' : EditView) (editing editing' : Editing) (old new : Stage2) → (f : Freshening claims rootward coming id bound edit' editing editing' old new)
    → HasSeat new (fresh_seat id f.turn.comm (fresh_tree f.turn.table f.turn.tag))
fresh_new_sits claims rootward coming id bound edit' editing editing' old new f =
    let one = fresh_seat id f.turn.comm (fresh_tree f.turn.table f.turn.tag) in
    let P : List Seat → Type 0 = λ seats. Contains seats one in
    subst P (sym f.turn.seats) (Contains-append_right old.seats.items (one ∷ []) one (Contains_head one []))

-- the seat of another cell is no other's, and isn't edited but where root's is
fresh_other : (claims : Seat → Claims) (rootward coming : Claims) (id bound : ℕ) (edit' : EditView) (editing editing' : Editing) (old new : Stage2) → (f : Freshening claims rootward coming id bound edit' editing editing' old new)
    → (seat : Seat) → HasSeat old seat → (is_edited new.editing seat ≡ is_edited old.editing seat) × (is_coming new.editing seat ≡ is_coming old.editing seat)
fresh_other claims rootward coming id bound edit' editing editing' old new f seat sits =
    let not : nat_eq id seat.id ≡ false = ne_eqb id seat.id (λ e. f.part.new seat sits (sym e)) in (
      ap (λ e. is_edited e seat) f.turn.now
          ∙ (ap (λ part. is_root seat || (is_built part seat.id || is_removed part seat.id)) f.turn.cell
          ∙ (ap (λ b. is_root seat || (b || false)) not ∙ (sym (ap (λ part. is_root seat || (is_built part seat.id || is_removed part seat.id)) f.turn.was) ∙ sym (ap (λ e. is_edited e seat) f.on)))),
      ap (λ e. is_coming e seat) f.turn.now ∙ (ap (λ part. is_built part seat.id) f.turn.cell ∙ (not ∙ (sym (ap (λ part. is_built part seat.id) f.turn.was) ∙ sym (ap (λ e. is_coming e seat) f.on)))),
    )

-- the new one is
fresh_edited : (claims : Seat → Claims) (rootward coming : Claims) (id bound : ℕ) (edit' : EditView) (editing editing' : Editing) (old new : Stage2) → (f : Freshening claims rootward coming id bound edit' editing editing' old new)
    → is_edited new.editing (fresh_seat id f.turn.comm (fresh_tree f.turn.table f.turn.tag)) ≡ true
fresh_edited claims rootward coming id bound edit' editing editing' old new f =
    let seat = fresh_seat id f.turn.comm (fresh_tree f.turn.table f.turn.tag) in
    ap (λ e. is_edited e seat) f.turn.now ∙ (ap (λ part. is_root seat || (is_built part seat.id || is_removed part seat.id)) f.turn.cell ∙ ap (λ b. is_root seat || (b || false)) (same_number id))

-- a seat that isn't edited was one before
fresh_unedited : (claims : Seat → Claims) (rootward coming : Claims) (id bound : ℕ) (edit' : EditView) (editing editing' : Editing) (old new : Stage2) → (f : Freshening claims rootward coming id bound edit' editing editing' old new)
    → (seat : Seat) → HasSeat new seat → is_edited new.editing seat ≡ false → HasSeat old seat × (is_edited old.editing seat ≡ false)
fresh_unedited claims rootward coming id bound edit' editing editing' old new f seat sits still =
    ⊎_elim
    (λ (was : HasSeat old seat). (was, sym (fresh_other claims rootward coming id bound edit' editing editing' old new f seat was).0 ∙ still))
    (λ one. absurd (false≢true (sym still ∙ (ap (is_edited new.editing) (sym one) ∙ fresh_edited claims rootward coming id bound edit' editing editing' old new f))))
    (fresh_cases claims rootward coming id bound edit' editing editing' old new f seat sits)

-- ---- walks

table_of_same : (a b : Tree) → Some a ≡ Some b → a.table ≡ b.table
table_of_same a b e = let same : a ≡ b = same_Some a b e in ap (λ (t : Tree). t.table) same

tag_of_same : (a b : Tree) → Some a ≡ Some b → a.tag ≡ b.tag
tag_of_same a b e = let same : a ≡ b = same_Some a b e in ap (λ (t : Tree). t.tag) same

-- in a table all of whose words are 0 a walk finds nothing
clear_walk : (word : ℕ → ℕ) (table at : ℕ) → IsClear word table → walk_of word levels table at ≡ None
unfolding walk_of
clear_walk word table at clear =
    let small : index_of 0 at < 512 = index_small (at / slot_size 0) in
    ap (λ w. walk_on (λ next. walk_of word 3 next at) 0 at (read_of w 0)) (clear (index_of 0 at) small)

fresh_out : (claims : Seat → Claims) (rootward coming : Claims) (id bound : ℕ) (edit' : EditView) (editing editing' : Editing) (old new : Stage2) → (f : Freshening claims rootward coming id bound edit' editing editing' old new)
    → (seat : Seat) (tree : Tree) → HasSeat new seat → seat.tree ≡ Some tree → IsKeptOut new seat tree
fresh_out claims rootward coming id bound edit' editing editing' old new f seat tree sits has = λ at hit low found.
    ⊎_elim
    (λ (was : HasSeat old seat).
    let same = fresh_tables claims rootward coming id bound edit' editing editing' old new f seat tree was has in
    out_after old.frames new.frames seat hit f.turn.base f.turn.size (f.forest.outside seat tree was has at hit low (sym (walk_same (words old.frames) (words new.frames) levels tree.table at same) ∙ found)))
    (λ one.
    let e : Some (fresh_tree f.turn.table f.turn.tag) ≡ Some tree = ap (λ (s : Seat). s.tree) one ∙ has in
    let first : f.turn.table ≡ tree.table = table_of_same (fresh_tree f.turn.table f.turn.tag) tree e in
    let none : walk_of (words new.frames) levels tree.table at ≡ None = ap (λ t. walk_of (words new.frames) levels t at) (sym first) ∙ clear_walk (words new.frames) f.turn.table at f.turn.zero in
    absurd (none-some hit (sym none ∙ found)))
    (fresh_cases claims rootward coming id bound edit' editing editing' old new f seat sits)

fresh_cached : (claims : Seat → Claims) (rootward coming : Claims) (id bound : ℕ) (edit' : EditView) (editing editing' : Editing) (old new : Stage2) → (f : Freshening claims rootward coming id bound edit' editing editing' old new)
    → (cpu : ℕ) (translation : Translation) → Contains (translations_of new.cache cpu) translation → IsTrueTranslation new translation
fresh_cached claims rootward coming id bound edit' editing editing' old new f cpu translation held =
    let A : List (List Translation) → Type 0 = λ lists. Contains (translations_of lists cpu) translation in
    let is = f.forest.cached cpu translation (subst A f.turn.cache held) in
    let same = fresh_tables claims rootward coming id bound edit' editing editing' old new f is.seat is.tree is.sits is.has in
    record {
      seat = is.seat;
      tree = is.tree;
      sits = fresh_sits claims rootward coming id bound edit' editing editing' old new f is.seat is.sits;
      has = is.has;
      lives = (fresh_other claims rootward coming id bound edit' editing editing' old new f is.seat is.sits).1 ∙ is.lives;
      tag = is.tag;
      aligned = is.aligned;
      found = walk_same (words old.frames) (words new.frames) levels is.tree.table translation.page same ∙ is.found;
    }

fresh_apart : (claims : Seat → Claims) (rootward coming : Claims) (id bound : ℕ) (edit' : EditView) (editing editing' : Editing) (old new : Stage2) → (f : Freshening claims rootward coming id bound edit' editing editing' old new)
    → (other : Seat) → HasSeat old other → AreApart other (fresh_seat id f.turn.comm (fresh_tree f.turn.table f.turn.tag))
fresh_apart claims rootward coming id bound edit' editing editing' old new f other sits = record {
  ids = f.part.new other sits;
  tags = λ tree tree' has has'. λ e. f.turn.new_tag other tree sits has (e ∙ sym (tag_of_same (fresh_tree f.turn.table f.turn.tag) tree' has'));
  cell = refl;
}

pub fresh_forest : (claims : Seat → Claims) (rootward coming : Claims) (id bound : ℕ) (edit' : EditView) (editing editing' : Editing) (old new : Stage2) → Freshening claims rootward coming id bound edit' editing editing' old new → IsForest claims new
fresh_forest claims rootward coming id bound edit' editing editing' old new f =
    let base : new.pool.base ≡ old.pool.base = f.turn.pool_base in
    let size : new.pool.size ≡ old.pool.size = f.turn.pool_size in
    let seat = fresh_seat id f.turn.comm (fresh_tree f.turn.table f.turn.tag) in
    record {
      inside = record {
        aligned = ap (λ b. b % 4096) base ∙ f.forest.inside.aligned;
        base = base ∙ (f.forest.inside.base ∙ sym f.turn.base);
        size = ap (λ n. 4096 * n) size ∙ (f.forest.inside.size ∙ sym f.turn.size);
        end = let end = f.forest.inside.end in omega arith;
      };
      once = fresh_once claims rootward coming id bound edit' editing editing' old new f;
      taken = fresh_taken claims rootward coming id bound edit' editing editing' old new f;
      trees = λ s sits still. let was = fresh_unedited claims rootward coming id bound edit' editing editing' old new f s sits still in f.forest.trees s was.0 was.1;
      stands = λ s tree sits has still.
          let was = fresh_unedited claims rootward coming id bound edit' editing editing' old new f s sits still in
          same_stands (want_of (claims s)) (words old.frames) (words new.frames) levels tree.table 0 (fresh_tables claims rootward coming id bound edit' editing editing' old new f s tree was.0 has) (f.forest.stands s tree was.0 has was.1);
      outside = fresh_out claims rootward coming id bound edit' editing editing' old new f;
      cached = fresh_cached claims rootward coming id bound edit' editing editing' old new f;
      apart = let P : List Seat → Type 0 = AllPairs AreApart in
          subst P (sym f.turn.seats)
          (all_pairs_push AreApart old.seats.items seat f.forest.apart
          (λ k d below. fresh_apart claims rootward coming id bound edit' editing editing' old new f (get_or old.seats.items k d) (k, below, sym (read_again old.seats.items k d below))));
      room = let capacity = f.turn.capacity in let room = f.forest.room in omega arith;
    }

-- ---- the edit after

-- no leaf is wanted at level 0
abbrev pub LeavesStandBelow : Type 0
LeavesStandBelow = (claims : Claims) (level start out : ℕ) (rights : Rights) (device : Bool) → AreSoundClaims claims → IsSlot level start → want_of claims level start ≡ WantLeaf out rights device → (0 < level) × (out % slot_size level ≡ 0) × (out + slot_size level ≤ ADDRESS_END)

-- a cell's tables are those that are wanted from the first one on
abbrev pub CountsFromTop : Type 0
CountsFromTop = (claims : Claims) → tables_of claims ≡ tables_under (want_of claims) levels 0

made_by : (want : Want) (d : Descriptor) → d ≡ Invalid → ((out : ℕ) (rights : Rights) (device : Bool) → want ≡ WantLeaf out rights device → ⊥) → IsMade want d
made_by Nothing d is none = is
made_by WantTable d is none = is
made_by (WantLeaf out rights device) d is none = absurd (none out rights device refl)

top_slot : (slot : ℕ) → slot < 512 → IsSlot 0 (slot_start 0 0 slot)
top_slot slot few = record { first = omega arith; last = omega arith; begins = omega arith; bound = omega arith }

top_made : LeavesStandBelow → (claims : Claims) (word : ℕ → ℕ) (table : ℕ) → AreSoundClaims claims → IsClear word table → IsMadeTable (want_of claims) word 3 table 0
top_made below claims word table sound clear = λ slot few.
    made_by (want_of claims 0 (slot_start 0 0 slot)) (read_of (word (table + 8 * slot)) 0) (ap (λ w. read_of w 0) (clear slot few))
    (λ out rights device is. let low : 0 < 0 = (below claims 0 (slot_start 0 0 slot) out rights device sound (top_slot slot few) is).0 in let no : ⊥ = omega arith in no)

same_count : (coming : Claims) (comm : ℕ) → tables_of (with_comm coming comm) ≡ tables_of coming
unfolding tables_of tables_at
same_count coming comm = refl

-- the two pages begin at pages below the end of addresses
comm_end : (coming : Claims) (id bound : ℕ) (edit' : EditView) (editing editing' : Editing) (old new : Stage2) → (r : IsFreshTurn coming id bound edit' editing editing' old new) → IsPoolOf old.pool old.frames → r.comm < ADDRESS_END
comm_end coming id bound edit' editing editing' old new r inside =
    let base : new.pool.base ≡ old.pool.base = r.pool_base in
    let size : new.pool.size ≡ old.pool.size = r.pool_size in
    let below : r.comm < new.pool.base + 4096 * new.pool.size = r.comm_taken.in_range.below in
    let end = inside.end in
    omega arith

fresh_tables_under : CountsFromTop → (coming : Claims) (comm : ℕ) → tables_under (want_of (with_comm coming comm)) levels 0 ≡ tables_of coming
fresh_tables_under counts coming comm = sym (counts (with_comm coming comm)) ∙ same_count coming comm

-- two turns are less left
pub fresh_left : LeavesStandBelow → CountsFromTop → (claims : Seat → Claims) (rootward coming : Claims) (id bound : ℕ) (edit' : EditView) (editing editing' : Editing) (old new : Stage2) → (f : Freshening claims rootward coming id bound edit' editing editing' old new)
    → left_of editing' + 2 ≡ left_of editing
fresh_left below counts claims rootward coming id bound edit' editing editing' old new f =
    let want = want_of (with_comm coming f.turn.comm) in
    let sound : AreSoundClaims (with_comm coming f.turn.comm) = f.part.fit.sound f.turn.comm f.turn.comm_taken.in_range.aligned (comm_end coming id bound edit' editing editing' old new f.turn f.forest.inside) in
    let made : turns_of want (words new.frames) levels f.turn.table 0 + 2 ≡ 2 * tables_under want levels 0 =
    made_turns want (words new.frames) 3 f.turn.table 0 (top_made below (with_comm coming f.turn.comm) (words new.frames) f.turn.table sound f.turn.zero)
    in
    let under = fresh_tables_under counts coming f.turn.comm in
    let left : edit'.left ≡ turns_of want (words new.frames) levels f.turn.table 0 = f.turn.left in
    let allowed : bound ≡ 2 * tables_of coming = f.part.allowed in
    let was : part_left editing.cell ≡ bound = ap part_left f.turn.was in
    let is : part_left editing'.cell ≡ edit'.left = ap part_left f.turn.cell in
    let root : editing'.root.left ≡ editing.root.left = ap (λ (e : EditView). e.left) f.turn.root in
    omega arith

fresh_root_tables : (claims : Seat → Claims) (rootward coming : Claims) (id bound : ℕ) (edit' : EditView) (editing editing' : Editing) (old new : Stage2) → (f : Freshening claims rootward coming id bound edit' editing editing' old new)
    → HaveSameTables (words old.frames) (words new.frames) levels editing.root.table
fresh_root_tables claims rootward coming id bound edit' editing editing' old new f =
    let of = f.is.root.of in
    let P : ℕ → Type 0 = λ table. HaveSameTables (words old.frames) (words new.frames) levels table in
    subst P (sym of.table) (fresh_tables claims rootward coming id bound edit' editing editing' old new f f.is.root.seat of.tree of.sits of.has)

fresh_root_ahead : (claims : Seat → Claims) (rootward coming : Claims) (id bound : ℕ) (edit' : EditView) (editing editing' : Editing) (old new : Stage2) → (f : Freshening claims rootward coming id bound edit' editing editing' old new)
    → IfSome editing.root.ahead (λ (a : Ahead). HasSameWords (words old.frames) (words new.frames) a.page)
fresh_root_ahead claims rootward coming id bound edit' editing editing' old new f =
    ahead_words (HasSameWords (words old.frames) (words new.frames)) editing.root.ahead
    (λ page is slot few.
    let one : ahead_times page editing.root ≡ 1 = ap (λ (x : Bool). if x then 1 else 0) is in
    let all : ahead_uses old.editing page ≡ ahead_times page editing.root + part_ahead_times page editing.cell = ap (λ e. ahead_uses e page) f.on in
    fresh_page claims rootward coming id bound edit' editing editing' old new f page (omega arith) slot few)

fresh_root : (claims : Seat → Claims) (rootward coming : Claims) (id bound : ℕ) (edit' : EditView) (editing editing' : Editing) (old new : Stage2) → (f : Freshening claims rootward coming id bound edit' editing editing' old new)
    → IsRootPart rootward new editing.root
fresh_root claims rootward coming id bound edit' editing editing' old new f =
    let is = f.is.root in
    record {
      seat = is.seat;
      root = is.root;
      of = record { tree = is.of.tree; sits = fresh_sits claims rootward coming id bound edit' editing editing' old new f is.seat is.of.sits; has = is.of.has; table = is.of.table };
      aim = is.aim;
      plan = plan_stays counts_same editing.root (want_of rootward) (words old.frames) (words new.frames) (fresh_root_tables claims rootward coming id bound edit' editing editing' old new f)
          (fresh_root_ahead claims rootward coming id bound edit' editing editing' old new f) is.plan;
      sound = is.sound;
      kept = kept_after rootward old.frames new.frames f.turn.base f.turn.size is.kept;
    }

pub fresh_edit : CountsFromTop → (claims : Seat → Claims) (rootward coming : Claims) (id bound : ℕ) (edit' : EditView) (editing editing' : Editing) (old new : Stage2) → (f : Freshening claims rootward coming id bound edit' editing editing' old new)
    → IsEdit rootward coming new editing'
fresh_edit counts claims rootward coming id bound edit' editing editing' old new f =
    let want = want_of (with_comm coming f.turn.comm) in
    let tree = fresh_tree f.turn.table f.turn.tag in
    let seat = fresh_seat id f.turn.comm tree in
    let same = fresh_root_tables claims rootward coming id bound edit' editing editing' old new f in
    let rootlack : lack_of (want_of rootward) (words new.frames) levels editing.root.table 0 ≡ lack_of (want_of rootward) (words old.frames) levels editing.root.table 0 =
    counts_same (staying (want_of rootward)) (lack_at (want_of rootward)) (words old.frames) (words new.frames) levels (Some 0) editing.root.table same
    (λ state m page some. lack_told (want_of rootward) (words old.frames) (words new.frames) m page state (λ slot few. same.words page slot some few))
    in
    let rootsame : lack_of (want_of rootward) (words new.frames) levels editing'.root.table 0 ≡ lack_of (want_of rootward) (words new.frames) levels editing.root.table 0 =
    ap (λ (e : EditView). lack_of (want_of rootward) (words new.frames) levels e.table 0) f.turn.root
    in
    let rootahead : ahead_count editing'.root.ahead ≡ ahead_count editing.root.ahead = ap (λ (e : EditView). ahead_count e.ahead) f.turn.root in
    let lack' : ℕ = lack_of want (words new.frames) levels edit'.table 0 in
    let none : ahead_count edit'.ahead ≡ 0 = ap ahead_count f.turn.ahead in
    let first : lack' ≡ lack_of want (words new.frames) levels f.turn.table 0 = ap (λ z. lack_of want (words new.frames) levels z 0) f.turn.first in
    let lacks : lack_of want (words new.frames) levels f.turn.table 0 + 1 ≡ tables_under want levels 0 = clear_lack want (words new.frames) f.turn.table f.turn.zero in
    let under = fresh_tables_under counts coming f.turn.comm in
    let was : f.is.lack ≡ tables_of coming + 1 = f.part.lacks in
    let enough = f.is.enough in
    let used = f.turn.used in
    let size = f.turn.pool_size in
    let P : EditView → Type 0 = IsRootPart rootward new in
    let now : IsBuildPart coming new id edit' lack' = record {
      seat = seat;
      comm = f.turn.comm;
      named = refl;
      page = refl;
      of = record { tree = tree; sits = fresh_new_sits claims rootward coming id bound edit' editing editing' old new f; has = refl; table = f.turn.first };
      aim = f.turn.aim;
      plan = f.turn.plan;
      fit = fit_after coming old new f.turn.base f.turn.size f.part.fit;
      lacks = let e : lack' + ahead_count edit'.ahead ≡ lack' = omega arith in e;
    }
    in
    record {
      lack = lack';
      root = subst P (sym f.turn.root) (fresh_root claims rootward coming id bound edit' editing editing' old new f);
      cell = subst (λ part. IsCellPart coming new part lack') (sym f.turn.cell) now;
      enough = omega arith;
    }
