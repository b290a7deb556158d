-- The part of a call's edit at each turn, and the claims that it leaves.
use Rattle.std.proofs.Common.{◌≡◌, ℕ, ◌*◌, ◌≤◌, ◌⊎◌, ⊎_elim, Bool, true, false, nat_eq, List, [], ◌∷◌, ◌++◌, map, Some, if◌then◌else◌, refl, sym, ap, subst, ◌∙◌, arith}
use Rattle.std.specs.Prelude.{Contains}
use Rattle.std.proofs.lemmas.Bool.{eq-eqb, true≢false}
use Rattle.std.proofs.lemmas.List.{map-append}
use Rattle.std.proofs.lemmas.List.Elements.{Contains-append_left}
use Rattle.jh_num.proofs.Public.{Contains_from_map, Contains_map}
use Rattle.jh_shape.specs.Claims.{Claims}
use Rattle.jh_shape.specs.Pages.{tables_of}
use Rattle.jh_edit.specs.declared.planning.Planned.{Planned}
use Rattle.jh_edit.specs.declared.planning.Planned.TheVariants.{Unchanged, Create, Destroy}
use Rattle.jh_edit.specs.declared.stage.CellPart.{CellPart}
use Rattle.jh_edit.specs.declared.stage.CellPart.TheVariants.{Unchanged as NoPart, Fresh, Build, Remove}
use Rattle.jh_edit.specs.declared.stage.Editing.{Editing}
use Rattle.jh_edit.specs.declared.stage.Seat.{Seat}
use Rattle.jh_edit.specs.declared.stage.Stage2.{Stage2}
use Rattle.jh_edit.specs.Ends.{came, claims_after}
use Rattle.jh_edit.specs.Forest.{IsCellPart, IsEdit, is_built, is_root, left_of, part_left}
use Rattle.jh_edit.specs.OneTurn.{is_root_next, IsCellTurn, IsOneTurn, IsTurnBy}
use Rattle.jh_edit.specs.Planned.{IsPartPlanned}
use Rattle.jh_edit.specs.Plans.{EditView}
use Rattle.jh_edit.specs.Keeping.{Sitter, sitter, sitters, sitters_left, KeepsCells, SeatsOneMore}
use Rattle.jh_board.specs.Private.Editing.{claims_planned, comes, AreSeatedAfter, AreSeatedSo, IsPartOf}

-- ---- a turn

fresh_built : (planned : Planned) (id bound : ℕ) (edit : EditView) → IsPartOf planned (Fresh id bound) → IsPartOf planned (Build id edit)
fresh_built Unchanged id bound edit h = absurd h
fresh_built (Create n tables) id bound edit h = h
fresh_built (Destroy n) id bound edit h = absurd h

still_built : (planned : Planned) (id : ℕ) (edit edit' : EditView) → IsPartOf planned (Build id edit) → IsPartOf planned (Build id edit')
still_built Unchanged id edit edit' h = absurd h
still_built (Create n tables) id edit edit' h = h
still_built (Destroy n) id edit edit' h = absurd h

still_removed : (planned : Planned) (id : ℕ) (edit edit' : EditView) → IsPartOf planned (Remove id edit) → IsPartOf planned (Remove id edit')
still_removed Unchanged id edit edit' h = absurd h
still_removed (Create n tables) id edit edit' h = absurd h
still_removed (Destroy n) id edit edit' h = h

cell_turned : (planned : Planned) (part : CellPart) (rootward coming : Claims) (editing editing' : Editing) (old new : Stage2) → IsCellTurn rootward coming part editing editing' old new → IsPartOf planned part → IsPartOf planned editing'.cell
cell_turned planned NoPart rootward coming editing editing' old new turn h = absurd turn
cell_turned planned (Fresh id bound) rootward coming editing editing' old new turn h = subst (IsPartOf planned) (sym turn.1.cell) (fresh_built planned id bound turn.0 h)
cell_turned planned (Build id edit) rootward coming editing editing' old new turn h = subst (IsPartOf planned) (sym turn.1.cell) (still_built planned id edit turn.0 h)
cell_turned planned (Remove id edit) rootward coming editing editing' old new turn h = subst (IsPartOf planned) (sym turn.1.cell) (still_removed planned id edit turn.0 h)

turned_by : (b : Bool) (planned : Planned) (rootward coming : Claims) (editing editing' : Editing) (old new : Stage2) → IsTurnBy b rootward coming editing editing' old new → IsPartOf planned editing.cell → IsPartOf planned editing'.cell
turned_by true planned rootward coming editing editing' old new turn h = subst (IsPartOf planned) (sym turn.cell) h
turned_by false planned rootward coming editing editing' old new turn h = cell_turned planned editing.cell rootward coming editing editing' old new turn h

-- a turn leaves a part of the same call
pub part_turned : (planned : Planned) (rootward coming : Claims) (editing editing' : Editing) (old new : Stage2) → IsOneTurn rootward coming editing editing' old new → IsPartOf planned editing.cell → IsPartOf planned editing'.cell
part_turned planned rootward coming editing editing' old new turn h = turned_by (is_root_next editing) planned rootward coming editing editing' old new turn h

-- ---- the beginning and the end

pub part_planned : (planned : Planned) (part : CellPart) → IsPartPlanned planned part → IsPartOf planned part
part_planned Unchanged part is = subst (IsPartOf Unchanged) (sym is) tt
part_planned (Create id tables) part is = subst (IsPartOf (Create id tables)) (sym is) refl
part_planned (Destroy id) part is = subst (IsPartOf (Destroy id)) (sym is.1) refl

some_table : (claims : Claims) → 1 ≤ tables_of claims
unfolding tables_of
some_table claims = omega arith

came_by : (planned : Planned) (coming : Claims) (stage : Stage2) (part : CellPart) (lack other : ℕ) → IsPartOf planned part → IsCellPart coming stage part lack → part_left part ≡ 0 → is_built part other ≡ comes planned other
came_by Unchanged coming stage NoPart lack other h cell none = refl
came_by (Create id tables) coming stage (Fresh n bound) lack other h cell none =
    let some = some_table coming in
    let allowed : bound ≡ 2 * tables_of coming = cell.allowed in
    absurd (omega arith)
came_by (Create id tables) coming stage (Build n edit) lack other h cell none = ap (λ (m : ℕ). nat_eq m other) h
came_by (Destroy id) coming stage (Remove n edit) lack other h cell none = refl
came_by Unchanged coming stage (Fresh n bound) lack other h cell none = absurd h
came_by Unchanged coming stage (Build n edit) lack other h cell none = absurd h
came_by Unchanged coming stage (Remove n edit) lack other h cell none = absurd h
came_by (Create id tables) coming stage NoPart lack other h cell none = absurd h
came_by (Create id tables) coming stage (Remove n edit) lack other h cell none = absurd h
came_by (Destroy id) coming stage NoPart lack other h cell none = absurd h
came_by (Destroy id) coming stage (Fresh n bound) lack other h cell none = absurd h
came_by (Destroy id) coming stage (Build n edit) lack other h cell none = absurd h

-- once no turn is left, the claims are those after the call
pub claims_done : (planned : Planned) (rootward coming : Claims) (stage : Stage2) (editing : Editing) (claims : Seat → Claims) → IsPartOf planned editing.cell → IsEdit rootward coming stage editing → left_of editing ≡ 0
    → claims_after rootward coming editing.cell claims ≡ claims_planned rootward coming planned claims
claims_done planned rootward coming stage editing claims h edit none =
    let over : part_left editing.cell ≡ 0 = omega arith in
    let at : (seat : Seat) → claims_after rootward coming editing.cell claims seat ≡ claims_planned rootward coming planned claims seat =
    λ seat. ap (λ b. if is_root seat then rootward else if b then came coming seat.comm else claims seat) (came_by planned coming stage editing.cell edit.lack seat.id h edit.cell over) in
    λ j seat. at seat j

-- ---- the cells that have a seat

-- no edit begins with a cell that is built
pub seated_first : (part : CellPart) (list : List Sitter) → ((id : ℕ) → is_built part id ≡ false) → AreSeatedSo part list list
seated_first NoPart list unmade = refl
seated_first (Fresh id bound) list unmade = refl
seated_first (Build id edit) list unmade = absurd (true≢false (sym (eq-eqb id id refl) ∙ unmade id))
seated_first (Remove id edit) list unmade = refl

abbrev is_fresh : CellPart → Bool
is_fresh NoPart = false
is_fresh (Fresh id bound) = true
is_fresh (Build id edit) = false
is_fresh (Remove id edit) = false

sitters_same : (old new : Stage2) → new.seats ≡ old.seats → sitters new ≡ sitters old
sitters_same old new same = ap (λ s. map sitter s.items) same

cell_seated : (part : CellPart) (before : List Sitter) (rootward coming : Claims) (editing editing' : Editing) (old new : Stage2) → editing.cell ≡ part → IsCellTurn rootward coming part editing editing' old new
    → (sitters new ≡ sitters old) ⊎ SeatsOneMore editing old new → AreSeatedSo part before (sitters old) → AreSeatedSo editing'.cell before (sitters new)
cell_seated NoPart before rootward coming editing editing' old new was turn law h = absurd turn
cell_seated (Fresh id bound) before rootward coming editing editing' old new was turn law h =
    let P : CellPart → Type 0 = λ part. AreSeatedSo part before (sitters new) in
    let one : Seat = record { id = id; comm = Some turn.1.comm; tree = Some (record { table = turn.1.table; tag = turn.1.tag }) } in
    subst P (sym turn.1.cell) (
      turn.1.comm,
      ap (map sitter) turn.1.seats ∙ map-append sitter old.seats.items (one ∷ []) ∙ ap (λ (list : List Sitter). list ++ record { id = id; comm = Some turn.1.comm } ∷ []) h,
    )
cell_seated (Build id edit) before rootward coming editing editing' old new was turn law h =
    let P : CellPart → Type 0 = λ part. AreSeatedSo part before (sitters new) in
    subst P (sym turn.1.cell) (h.0, sitters_same old new turn.1.seats ∙ h.1)
cell_seated (Remove id edit) before rootward coming editing editing' old new was turn law h =
    let P : CellPart → Type 0 = λ part. AreSeatedSo part before (sitters new) in
    subst P (sym turn.1.cell) (⊎_elim (λ (same : sitters new ≡ sitters old). same ∙ h) (λ (more : SeatsOneMore editing old new). absurd (true≢false (sym (ap is_fresh more.part) ∙ ap is_fresh was))) law)

seated_by : (b : Bool) (before : List Sitter) (rootward coming : Claims) (editing editing' : Editing) (old new : Stage2) → IsTurnBy b rootward coming editing editing' old new
    → (sitters new ≡ sitters old) ⊎ SeatsOneMore editing old new → AreSeatedSo editing.cell before (sitters old) → AreSeatedSo editing'.cell before (sitters new)
seated_by true before rootward coming editing editing' old new turn law h =
    let P : CellPart → Type 0 = λ part. AreSeatedSo part before (sitters new) in
    let Q : List Sitter → Type 0 = AreSeatedSo editing.cell before in
    subst P (sym turn.cell) (subst Q (sym (sitters_same old new turn.seats)) h)
seated_by false before rootward coming editing editing' old new turn law h = cell_seated editing.cell before rootward coming editing editing' old new refl turn law h

pub seated_turned : (before : List Sitter) (rootward coming : Claims) (editing editing' : Editing) (old new : Stage2) → IsOneTurn rootward coming editing editing' old new
    → (sitters new ≡ sitters old) ⊎ SeatsOneMore editing old new → AreSeatedSo editing.cell before (sitters old) → AreSeatedSo editing'.cell before (sitters new)
seated_turned before rootward coming editing editing' old new turn law h = seated_by (is_root_next editing) before rootward coming editing editing' old new turn law h

-- each cell that had a seat has it still
seated_still : (part : CellPart) (old new : List Sitter) (one : Sitter) → AreSeatedSo part old new → Contains old one → Contains new one
seated_still NoPart old new one h there = let P : List Sitter → Type 0 = λ list. Contains list one in subst P (sym h) there
seated_still (Fresh id bound) old new one h there = let P : List Sitter → Type 0 = λ list. Contains list one in subst P (sym h) there
seated_still (Build id edit) old new one h there =
    let P : List Sitter → Type 0 = λ list. Contains list one in subst P (sym h.1) (Contains-append_left old (record { id = id; comm = Some h.0 } ∷ []) one there)
seated_still (Remove id edit) old new one h there = let P : List Sitter → Type 0 = λ list. Contains list one in subst P (sym h) there

-- ---- bytes

pub cells_both : (a b c : Stage2) (part : CellPart) → AreSeatedSo part (sitters a) (sitters b) → KeepsCells a b → KeepsCells b c → KeepsCells a c
cells_both a b c part seats first second = record {
  guests = second.guests ∙ first.guests;
  base = second.base ∙ first.base;
  size = second.size ∙ first.size;
  pool_base = second.pool_base ∙ first.pool_base;
  pool_size = second.pool_size ∙ first.pool_size;
  comms = λ seat comm k there is lt.
      let among = seated_still part (sitters a) (sitters b) (sitter seat) seats (Contains_map sitter a.seats.items seat there) in
      let again = Contains_from_map sitter b.seats.items (sitter seat) among in
      second.comms again.0 comm k again.1 (ap (λ (s : Sitter). s.comm) again.2 ∙ is) lt ∙ first.comms seat comm k there is lt;
}

pub cells_same : (stage : Stage2) → KeepsCells stage stage
cells_same stage = record { guests = refl; base = refl; size = refl; pool_base = refl; pool_size = refl; comms = λ seat comm k there is lt. refl }

-- ---- the end

pub seated_after : (planned : Planned) (coming : Claims) (stage : Stage2) (part : CellPart) (lack : ℕ) (old new closed : List Sitter) → IsPartOf planned part → IsCellPart coming stage part lack → part_left part ≡ 0 → AreSeatedSo part old new → closed ≡ sitters_left part new
    → AreSeatedAfter planned old closed
seated_after Unchanged coming stage NoPart lack old new closed h cell none seats over = over ∙ seats
seated_after (Create id tables) coming stage (Fresh n bound) lack old new closed h cell none seats over =
    let some = some_table coming in
    let allowed : bound ≡ 2 * tables_of coming = cell.allowed in
    absurd (omega arith)
seated_after (Create id tables) coming stage (Build n edit) lack old new closed h cell none seats over =
    (seats.0, over ∙ seats.1 ∙ ap (λ (m : ℕ). old ++ record { id = m; comm = Some seats.0 } ∷ []) h)
seated_after (Destroy id) coming stage (Remove n edit) lack old new closed h cell none seats over =
    over ∙ ap (sitters_left (Remove n edit)) seats ∙ ap (λ (m : ℕ). sitters_left (Remove m edit) old) h
seated_after Unchanged coming stage (Fresh n bound) lack old new closed h cell none seats over = absurd h
seated_after Unchanged coming stage (Build n edit) lack old new closed h cell none seats over = absurd h
seated_after Unchanged coming stage (Remove n edit) lack old new closed h cell none seats over = absurd h
seated_after (Create id tables) coming stage NoPart lack old new closed h cell none seats over = absurd h
seated_after (Create id tables) coming stage (Remove n edit) lack old new closed h cell none seats over = absurd h
seated_after (Destroy id) coming stage NoPart lack old new closed h cell none seats over = absurd h
seated_after (Destroy id) coming stage (Fresh n bound) lack old new closed h cell none seats over = absurd h
seated_after (Destroy id) coming stage (Build n edit) lack old new closed h cell none seats over = absurd h
