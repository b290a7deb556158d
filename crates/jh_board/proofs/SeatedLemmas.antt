-- Which cells have a seat after an entry, those that live then; and what their tables are made from.
use Rattle.std.proofs.Common.{◌≡◌, ⊎_elim, ℕ, Bool, true, false, not, cond, nat_eq, List, [], ◌∷◌, ◌++◌, map, Option, Some, None, if◌then◌else◌, refl, sym, ap, subst, ◌∙◌}
use Rattle.std.specs.Prelude.{Contains, IfSome, filter, find, option_map}
use Rattle.std.proofs.lemmas.Bool.{true≢false, eq-eqb, eqb-true, ne_eqb}
use Rattle.std.proofs.lemmas.Option.{none-some, same_Some}
use Rattle.std.proofs.lemmas.List.{map-append}
use Rattle.jh_num.proofs.Public.{Contains_cases, Contains_from_map, Contains_map, IsFound_from_find, IsFound_from_filter, filter_all, find_None}
use Rattle.jh_cellcfg.specs.declared.config.CellConfig.{CellConfig}
use Rattle.jh_cellcfg.specs.declared.live.Live.{Live}
use Rattle.jh_cellcfg.specs.declared.region.Region.{Region}
use Rattle.jh_cellcfg.specs.Lives.{has_id, id_of}
use Rattle.jh_call.specs.declared.call.Call.{Call}
use Rattle.jh_call.specs.declared.call.Call.TheVariants.{Create as CreateCall, Start, Loadable, Destroy as DestroyCall}
use Rattle.jh_comm.specs.declared.words.TheConstants.{STATE_RUNNING, STATE_SHUT_DOWN}
use Rattle.jh_script.specs.declared.image.Image.{Image}
use Rattle.jh_shape.specs.Claims.{Claims}
use Rattle.jh_shape.specs.Lives.{marked, new_live}
use Rattle.jh_shape.specs.Pages.{cell_claims, live_root_claims, tables_of}
use Rattle.jh_shape.specs.Shapes.{want_of}
use Rattle.jh_history.specs.declared.call.OpenCall.{OpenCall}
use Rattle.jh_history.specs.declared.call.Phase.{Phase}
use Rattle.jh_history.specs.declared.call.Phase.TheVariants.{ToCreate}
use Rattle.jh_history.specs.declared.comm.PageChange.{PageChange}
use Rattle.jh_history.specs.declared.comm.PageChange.TheVariants.{State, Fresh as FreshPage}
use Rattle.jh_history.specs.declared.comm.PageWrite.{PageWrite}
use Rattle.jh_history.specs.declared.entry.Act.{Act}
use Rattle.jh_history.specs.declared.entry.Act.TheVariants.{Commit}
use Rattle.jh_history.specs.declared.entry.Entry.{Entry}
use Rattle.jh_history.specs.declared.place.Place.{Place}
use Rattle.jh_history.specs.declared.place.Place.TheVariants.{Physical, Page}
use Rattle.jh_history.specs.Commits.{is_other, is_commit, committed_cells, cells_by}
use Rattle.jh_history.specs.DueFacts.{IsLive, HasPage, IsCreated, IsOfBoard}
use Rattle.jh_history.specs.Facts.{Facts}
use Rattle.jh_history.specs.Lives.{live_in}
use Rattle.jh_history.specs.Pages.{committing, on_page, page_write_by}
use Rattle.jh_history.specs.Sound.{IsSound}
use Rattle.jh_edit.specs.declared.planning.Planned.{Planned}
use Rattle.jh_edit.specs.declared.planning.Planned.TheVariants.{Unchanged, Create, Destroy}
use Rattle.jh_edit.specs.declared.stage.Seat.{Seat}
use Rattle.jh_edit.specs.declared.stage.Stage2.{Stage2}
use Rattle.jh_edit.specs.Ends.{came}
use Rattle.jh_edit.specs.Forest.{is_root, HasSeat, IsForest}
use Rattle.jh_board.specs.Means.{IsStageOf}
use Rattle.jh_board.specs.Pages.{LiesAlike}
use Rattle.jh_board.specs.Seats.{ids_of, AreCellSeats, IsSeated}
use Rattle.jh_board.specs.Tables.{claims_by, claims_in}
use Rattle.jh_board.specs.Private.Editing.{claims_edited, claims_of_cell, claims_planned, destroy_of, ids_edited, ids_planned, plan_of, planned_by, LastsBy, MayWritePage, StaysIf}
use Rattle.jh_board.specs.Private.Pages.{ids_but}
use Rattle.jh_board.proofs.AnswerLemmas.{if_some}
use Rattle.jh_board.proofs.SeatClaimLemmas.{claims_created, claims_left, claims_marked}
use Rattle.jh_cache.proofs.Public.{find_last}
use Rattle.jh_board.proofs.TablesLemmas.{inside_lies}
use Rattle.jh_board.proofs.WrittenLemmas.{come_unknown, live_other, live_page, unknown_id}

-- ---- the ids of cells

marked_by : (live : Live) (on b : Bool) → id_of (cond b (record live { loadable = on }) live) ≡ id_of live
marked_by live on true = refl
marked_by live on false = refl

ids_marked : (id : ℕ) (on : Bool) (cells : List Live) → map id_of (map (marked id on) cells) ≡ map id_of cells
ids_marked id on [] = refl
ids_marked id on (live ∷ rest) =
    ap (λ (n : ℕ). n ∷ map id_of (map (marked id on) rest)) (marked_by live on (has_id id live)) ∙ ap (λ (ids : List ℕ). id_of live ∷ ids) (ids_marked id on rest)

ids_if : (b : Bool) (live : Live) (list : List Live) → map id_of (cond b (live ∷ list) list) ≡ cond b (id_of live ∷ map id_of list) (map id_of list)
ids_if true live list = refl
ids_if false live list = refl

ids_others : (id : ℕ) (cells : List Live) → map id_of (filter (is_other id) cells) ≡ ids_but id (map id_of cells)
ids_others id [] = refl
ids_others id (live ∷ rest) =
    ids_if (is_other id live) live (filter (is_other id) rest) ∙ ap (λ (ids : List ℕ). cond (is_other id live) (id_of live ∷ ids) ids) (ids_others id rest)

-- ---- the cell that a call names

pub live_by : (cells : List Live) (id : ℕ) (o : Option Live) (config : CellConfig) → find (has_id id) cells ≡ o → option_map (λ (live : Live). live.config) o ≡ Some config → IsLive cells config.id
live_by cells id None config is h = absurd (none-some config h)
live_by cells id (Some live) config is h = (live, (IsFound_from_find (has_id id) cells live is).among, ap (λ (c : CellConfig). c.id) (same_Some live.config config h))

-- a cell of the list that has the id
pub named_by : (cells : List Live) (id : ℕ) (o : Option Live) (config : CellConfig) → find (has_id id) cells ≡ o → option_map (λ (live : Live). live.config) o ≡ Some config → config.id ≡ id
named_by cells id None config is h = absurd (none-some config h)
named_by cells id (Some live) config is h =
    ap (λ (c : CellConfig). c.id) (sym (same_Some live.config config h)) ∙ eqb-true (id_of live) id (IsFound_from_find (has_id id) cells live is).passes

no_cell_by : (cells : List Live) (id : ℕ) (o : Option Live) → find (has_id id) cells ≡ o → option_map (λ (live : Live). live.config) o ≡ None → find (has_id id) cells ≡ None
no_cell_by cells id None is h = is
no_cell_by cells id (Some live) is h = absurd (none-some live.config (sym h))

-- where none has it, all others are all
pub no_other : (cells : List Live) (id : ℕ) → live_in cells id ≡ None → filter (is_other id) cells ≡ cells
no_other cells id none =
    filter_all (is_other id) cells (λ live there. ap not (find_None (has_id id) cells live (no_cell_by cells id (find (has_id id) cells) refl none) there))

-- ---- the page that is written

written_live : (image : Image) (cells : List Live) (stage : Stage2) (id : ℕ) (change : CellConfig → PageChange) (o : Option CellConfig) → IsStageOf image cells stage → live_in cells id ≡ o
    → IfSome (option_map (λ (c : CellConfig). on_page (change c) c) o) (λ (w : PageWrite). IsSeated stage w.cell)
written_live image cells stage id change None h is = tt
written_live image cells stage id change (Some config) h is = live_page image cells stage config.id h (live_by cells id (find (has_id id) cells) config refl is)

nothing_goes : (stage : Stage2) (o : Option CellConfig) → MayWritePage (Some (destroy_of o)) stage None
nothing_goes stage None = tt
nothing_goes stage (Some config) = refl

written_commit : (window : ℕ) (image : Image) (cells : List Live) (stage : Stage2) (call : Call) (phase : Phase) → IsStageOf image cells stage → MayWritePage (Some (plan_of cells call phase)) stage (committing window cells call phase)
written_commit window image cells stage (CreateCall at) (ToCreate config) h = (on_page (FreshPage STATE_SHUT_DOWN config.console window) config, (refl, refl, tt))
written_commit window image cells stage (Start id) phase h = written_live image cells stage id (λ c. FreshPage STATE_RUNNING c.console window) (live_in cells id) h refl
written_commit window image cells stage (Loadable id) phase h = written_live image cells stage id (λ c. State STATE_SHUT_DOWN) (live_in cells id) h refl
written_commit window image cells stage (DestroyCall id) phase h = nothing_goes stage (live_in cells id)
written_commit window image cells stage call phase h = tt

written_at : (image : Image) (f : Facts) (entry : Entry) (stage : Stage2) (call : Option OpenCall) → f.call ≡ call → IsStageOf image f.cells stage → MayWritePage (planned_by f.cells f.call Commit) stage (page_write_by image f entry Commit)
written_at image f entry stage None is h = rw is tt
written_at image f entry stage (Some o) is h = rw is (written_commit image.system.platform.pci_mmconfig_base image f.cells stage o.call o.phase h)

written_else : (image : Image) (f : Facts) (entry : Entry) (stage : Stage2) (act : Act) → is_commit act ≡ false → IsStageOf image f.cells stage → ((w : PageWrite) → page_write_by image f entry act ≡ Some w → HasPage f act w.cell)
    → IfSome (page_write_by image f entry act) (λ (w : PageWrite). IsSeated stage w.cell)
written_else image f entry stage act other h law = if_some (page_write_by image f entry act) (λ (w : PageWrite). IsSeated stage w.cell) (λ w is.
    ⊎_elim (λ (live : IsLive f.cells w.cell). live_page image f.cells stage w.cell h live)
    (λ (made : IsCreated f act w.cell). absurd (true≢false (sym (ap is_commit made.commits) ∙ other))) (law w is))

pub may_write_page : (image : Image) (f : Facts) (entry : Entry) (act : Act) (stage : Stage2) → IsStageOf image f.cells stage → ((w : PageWrite) → page_write_by image f entry act ≡ Some w → HasPage f act w.cell)
    → MayWritePage (planned_by f.cells f.call act) stage (page_write_by image f entry act)
may_write_page image f entry Commit stage h law = written_at image f entry stage f.call refl h
may_write_page image f entry act stage h law = written_else image f entry stage act refl h law

-- ---- the places that stay

pub stays_physical : (planned : Option Planned) (a : ℕ) → StaysIf planned (Physical a)
stays_physical None a = tt
stays_physical (Some Unchanged) a = tt
stays_physical (Some (Create id tables)) a = tt
stays_physical (Some (Destroy id)) a = tt

lasts_physical : (planned : Option Planned) (a : ℕ) → LastsBy planned (Physical a)
lasts_physical (Some (Destroy id)) a = tt
lasts_physical planned a = tt

other_id : (n : ℕ) (live : Live) (b : Bool) → has_id n live ≡ b → not b ≡ true → id_of live ≡ n → ⊥
other_id n live true is h e = true≢false (sym h)
other_id n live false is h e = true≢false (sym (eq-eqb (id_of live) n e) ∙ is)

lasts_others : (cells : List Live) (n id k : ℕ) (o : Option CellConfig) → live_in cells n ≡ o → IsLive (filter (is_other n) cells) id → LastsBy (Some (destroy_of o)) (Page id k)
lasts_others cells n id k None is h = tt
lasts_others cells n id k (Some config) is h =
    let found = IsFound_from_filter (is_other n) cells h.0 h.1 in
    λ e. other_id n h.0 (has_id n h.0) refl found.passes (h.2 ∙ e ∙ named_by cells n (find (has_id n) cells) config refl is)

lasts_commit : (call : Call) (phase : Phase) (cells : List Live) (id k : ℕ) → IsLive (committed_cells call phase cells) id → LastsBy (Some (plan_of cells call phase)) (Page id k)
lasts_commit (CreateCall at) (ToCreate config) cells id k h = tt
lasts_commit (DestroyCall n) phase cells id k h = lasts_others cells n id k (live_in cells n) refl h
lasts_commit call phase cells id k h = tt

lasts_live : (call : Option OpenCall) (cells : List Live) (act : Act) (id k : ℕ) → IsLive (cells_by call cells act) id → LastsBy (planned_by cells call act) (Page id k)
lasts_live None cells Commit id k h = tt
lasts_live (Some o) cells Commit id k h = lasts_commit o.call o.phase cells id k h
lasts_live call cells act id k h = tt

-- those of the board after the act
pub lasts_of_board : (image : Image) (call : Option OpenCall) (cells : List Live) (act : Act) (q : Place) → IsOfBoard image (cells_by call cells act) q → LastsBy (planned_by cells call act) q
lasts_of_board image call cells act (Physical a) board = lasts_physical (planned_by cells call act) a
lasts_of_board image call cells act (Page id k) board = lasts_live call cells act id k board.1

-- ---- the seats

but_root : (b : Bool) (root : ℕ) (ids : List ℕ) → b ≡ false → cond (not b) (root ∷ ids) ids ≡ root ∷ ids
but_root true root ids h = absurd (true≢false h)
but_root false root ids h = refl

seats_gone : (image : Image) (cells : List Live) (stage : Stage2) (n : ℕ) (o : Option CellConfig) → IsStageOf image cells stage → live_in cells n ≡ o
    → ids_planned (destroy_of o) (image.system.root.id ∷ map id_of cells) ≡ image.system.root.id ∷ map id_of (filter (is_other n) cells)
seats_gone image cells stage n None h is = ap (λ (list : List Live). image.system.root.id ∷ map id_of list) (sym (no_other cells n is))
seats_gone image cells stage n (Some config) h is =
    let root = image.system.root.id in
    let named : config.id ≡ n = named_by cells n (find (has_id n) cells) config refl is in
    let other : nat_eq root n ≡ false = ne_eqb root n (λ e. true≢false (sym (eq-eqb config.id root (named ∙ sym e)) ∙ live_other image cells stage config.id h (live_by cells n (find (has_id n) cells) config refl is))) in
    ap (λ (m : ℕ). ids_but m (root ∷ map id_of cells)) named
    ∙ but_root (nat_eq root n) root (ids_but n (map id_of cells)) other
    ∙ ap (λ (ids : List ℕ). root ∷ ids) (sym (ids_others n cells))

seats_commit : (image : Image) (cells : List Live) (stage : Stage2) (call : Call) (phase : Phase) → IsStageOf image cells stage
    → ids_planned (plan_of cells call phase) (image.system.root.id ∷ map id_of cells) ≡ image.system.root.id ∷ map id_of (committed_cells call phase cells)
seats_commit image cells stage (CreateCall at) (ToCreate config) h = ap (λ (ids : List ℕ). image.system.root.id ∷ ids) (sym (map-append id_of cells (new_live config ∷ [])))
seats_commit image cells stage (Start id) phase h = ap (λ (ids : List ℕ). image.system.root.id ∷ ids) (sym (ids_marked id false cells))
seats_commit image cells stage (Loadable id) phase h = ap (λ (ids : List ℕ). image.system.root.id ∷ ids) (sym (ids_marked id true cells))
seats_commit image cells stage (DestroyCall id) phase h = seats_gone image cells stage id (live_in cells id) h refl
seats_commit image cells stage call phase h = refl

-- after the act those have one that live then
seats_made : (image : Image) (call : Option OpenCall) (cells : List Live) (act : Act) (stage : Stage2) → IsStageOf image cells stage
    → ids_edited (planned_by cells call act) (image.system.root.id ∷ map id_of cells) ≡ image.system.root.id ∷ map id_of (cells_by call cells act)
seats_made image None cells Commit stage h = refl
seats_made image (Some o) cells Commit stage h = seats_commit image cells stage o.call o.phase h
seats_made image call cells act stage h = refl

-- ---- what the tables of the seats' cells are made from

-- tables stand as well for other claims that make the same wants of the cells that have a seat
abbrev pub ForestsAskWantsAlone : Type 0
ForestsAskWantsAlone = (claims claims' : Seat → Claims) (stage : Stage2) → ((seat : Seat) (level start : ℕ) → HasSeat stage seat → want_of (claims' seat) level start ≡ want_of (claims seat) level start) → IsForest claims stage → IsForest claims' stage

same_claims : ForestsAskWantsAlone → (claims claims' : Seat → Claims) (stage : Stage2) → ((seat : Seat) → HasSeat stage seat → claims seat ≡ claims' seat) → IsForest claims stage → IsForest claims' stage
same_claims law claims claims' stage same h = law claims claims' stage (λ seat level start sits. ap (λ (c : Claims). want_of c level start) (sym (same seat sits))) h

-- the cell that came is found
pub live_last : (cells : List Live) (config : CellConfig) → find (has_id config.id) cells ≡ None → live_in (cells ++ new_live config ∷ []) config.id ≡ Some config
live_last cells config none = ap (option_map (λ (live : Live). live.config)) (find_last (has_id config.id) cells (new_live config) none (eq-eqb config.id config.id refl))

-- where no cell comes or goes and none is marked, all is as it was
same_by : (b : Bool) (root other : Claims) → (if b then root else (if b then root else other)) ≡ (if b then root else other)
same_by true root other = refl
same_by false root other = refl

claims_same : (image : Image) (cells : List Live) (coming : Claims) (seat : Seat) → claims_planned (live_root_claims image.system.root.memory_regions cells) coming Unchanged (claims_in image cells) seat ≡ claims_in image cells seat
claims_same image cells coming seat = same_by (is_root seat) (live_root_claims image.system.root.memory_regions cells) (came (claims_by (find (has_id seat.id) cells)) seat.comm)

-- the seat is that of a cell that lives, or root's
seat_of_cell : (image : Image) (cells : List Live) (n : ℕ) (stage : Stage2) (seat : Seat) → ids_of stage ≡ image.system.root.id ∷ map id_of (filter (is_other n) cells) → HasSeat stage seat → (image.system.root.id ≡ n → ⊥) → seat.id ≡ n → ⊥
seat_of_cell image cells n stage seat ids sits differ e =
    let P : List ℕ → Type 0 = λ list. Contains list seat.id in
    ⊎_elim (λ (own : image.system.root.id ≡ seat.id). differ (own ∙ e)) (λ (there : Contains (map id_of (filter (is_other n) cells)) seat.id).
    let live = Contains_from_map id_of (filter (is_other n) cells) seat.id there in
    other_id n live.0 (has_id n live.0) refl (IsFound_from_filter (is_other n) cells live.0 live.1).passes (live.2 ∙ e))
    (Contains_cases image.system.root.id (map id_of (filter (is_other n) cells)) seat.id (subst P ids (Contains_map (λ (s : Seat). s.id) stage.seats.items seat sits)))

-- what is planned for a cell that goes
forest_gone : ForestsAskWantsAlone → (image : Image) (cells : List Live) (before stage : Stage2) (n : ℕ) (o : Option CellConfig) → IsStageOf image cells before → live_in cells n ≡ o
    → ids_of stage ≡ image.system.root.id ∷ map id_of (filter (is_other n) cells)
    → IsForest (claims_edited image.system.root.memory_regions (filter (is_other n) cells) (Some (destroy_of o)) (claims_in image cells)) stage → IsForest (claims_in image (filter (is_other n) cells)) stage
forest_gone law image cells before stage n None h is ids forest =
    let P : List Live → Type 0 = λ list. IsForest (claims_edited image.system.root.memory_regions list (Some Unchanged) (claims_in image cells)) stage in
    let Q : List Live → Type 0 = λ list. IsForest (claims_in image list) stage in
    let all = no_other cells n is in
    subst Q (sym all) (same_claims law _ (claims_in image cells) stage (λ seat sits. claims_same image cells (claims_of_cell None) seat) (subst P all forest))
forest_gone law image cells before stage n (Some config) h is ids forest =
    let named : config.id ≡ n = named_by cells n (find (has_id n) cells) config refl is in
    let differ : image.system.root.id ≡ n → ⊥ = λ e. true≢false (sym (eq-eqb config.id image.system.root.id (named ∙ sym e)) ∙ live_other image cells before config.id h (live_by cells n (find (has_id n) cells) config refl is)) in
    let P : ℕ → Type 0 = λ m. IsForest (claims_planned (live_root_claims image.system.root.memory_regions (filter (is_other n) cells)) (claims_of_cell None) (Destroy m) (claims_in image cells)) stage in
    same_claims law _ (claims_in image (filter (is_other n) cells)) stage (λ seat sits. claims_left image cells (claims_of_cell None) n seat (seat_of_cell image cells n stage seat ids sits differ)) (subst P named forest)

forest_commit : ForestsAskWantsAlone → (image : Image) (f : Facts) (o : OpenCall) (call : Call) (phase : Phase) (before stage : Stage2) → IsSound image f → f.call ≡ Some o → o.call ≡ call → o.phase ≡ phase → IsStageOf image f.cells before
    → ids_of stage ≡ image.system.root.id ∷ map id_of (committed_cells call phase f.cells)
    → IsForest (claims_edited image.system.root.memory_regions (committed_cells call phase f.cells) (Some (plan_of f.cells call phase)) (claims_in image f.cells)) stage → IsForest (claims_in image (committed_cells call phase f.cells)) stage
forest_commit law image f o (CreateCall at) (ToCreate config) before stage sound is own at_phase h ids forest =
    let none : find (has_id config.id) f.cells ≡ None = unknown_id image f.cells config (come_unknown image f o config sound is at_phase) in
    let cells : List Live = f.cells ++ new_live config ∷ [] in
    let P : Option CellConfig → Type 0 = λ c. IsForest (claims_planned (live_root_claims image.system.root.memory_regions cells) (claims_of_cell c) (Create config.id (tables_of (cell_claims config))) (claims_in image f.cells)) stage in
    same_claims law _ (claims_in image cells) stage (λ seat sits. claims_created image f.cells config (tables_of (cell_claims config)) seat none) (subst P (live_last f.cells config none) forest)
forest_commit law image f o (Start id) phase before stage sound is own at_phase h ids forest =
    same_claims law _ (claims_in image (map (marked id false) f.cells)) stage (λ seat sits. claims_marked image f.cells (claims_of_cell None) id false seat) forest
forest_commit law image f o (Loadable id) phase before stage sound is own at_phase h ids forest =
    same_claims law _ (claims_in image (map (marked id true) f.cells)) stage (λ seat sits. claims_marked image f.cells (claims_of_cell None) id true seat) forest
forest_commit law image f o (DestroyCall id) phase before stage sound is own at_phase h ids forest = forest_gone law image f.cells before stage id (live_in f.cells id) h refl ids forest
forest_commit law image f o call phase before stage sound is own at_phase h ids forest = same_claims law _ (claims_in image f.cells) stage (λ seat sits. claims_same image f.cells (claims_of_cell None) seat) forest

forest_at : ForestsAskWantsAlone → (image : Image) (f : Facts) (call : Option OpenCall) (before stage : Stage2) → IsSound image f → f.call ≡ call → IsStageOf image f.cells before
    → ids_of stage ≡ image.system.root.id ∷ map id_of (cells_by call f.cells Commit)
    → IsForest (claims_edited image.system.root.memory_regions (cells_by call f.cells Commit) (planned_by f.cells call Commit) (claims_in image f.cells)) stage → IsForest (claims_in image (cells_by call f.cells Commit)) stage
forest_at law image f None before stage sound is h ids forest = forest
forest_at law image f (Some o) before stage sound is h ids forest = forest_commit law image f o o.call o.phase before stage sound is refl refl h ids forest

forest_made : ForestsAskWantsAlone → (image : Image) (f : Facts) (act : Act) (before stage : Stage2) → IsSound image f → IsStageOf image f.cells before
    → ids_of stage ≡ image.system.root.id ∷ map id_of (cells_by f.call f.cells act)
    → IsForest (claims_edited image.system.root.memory_regions (cells_by f.call f.cells act) (planned_by f.cells f.call act) (claims_in image f.cells)) stage → IsForest (claims_in image (cells_by f.call f.cells act)) stage
forest_made law image f Commit before stage sound h ids forest = forest_at law image f f.call before stage sound refl h ids forest
forest_made law image f act before stage sound h ids forest = forest

-- ---- all of it

-- what an edit, if one is planned, and a write into a communication page leave of the stage
pub record IsEdited (regions : List Region) (cells : List Live) (planned : Option Planned) (old new : Stage2) : Type 0 where
  pub forest : (claims : Seat → Claims) → IsForest claims old → IsForest (claims_edited regions cells planned claims) new
  pub still : old.editing ≡ None → new.editing ≡ None
  pub ids : ids_of new ≡ ids_edited planned (ids_of old)
  pub comms : (id : ℕ) → AreCellSeats id old → AreCellSeats id new
  pub lies : LiesAlike old new

pub stage_made : ForestsAskWantsAlone → (image : Image) (f : Facts) (act : Act) (old new : Stage2) → IsSound image f → IsStageOf image f.cells old
    → IsEdited image.system.root.memory_regions (cells_by f.call f.cells act) (planned_by f.cells f.call act) old new → IsStageOf image (cells_by f.call f.cells act) new
stage_made law image f act old new sound h edited =
    let seats : ids_of new ≡ image.system.root.id ∷ map id_of (cells_by f.call f.cells act) = edited.ids ∙ ap (ids_edited (planned_by f.cells f.call act)) h.seats ∙ seats_made image f.call f.cells act old h in
    record {
      inside = inside_lies image.system old new edited.lies h.inside;
      seats = seats;
      comms = edited.comms image.system.root.id h.comms;
      forest = forest_made law image f act old new sound h seats (edited.forest (claims_in image f.cells) h.forest);
      still = edited.still h.still;
    }
