-- What a Commit plans may be planned: root's claims and those of a cell that comes are sound, and the pool has the pages.
use Rattle.std.proofs.Common.{◌≡◌, ◌≢◌, ℕ, ◌+◌, ◌<◌, ◌≤◌, true, false, List, [], ◌∷◌, ◌++◌, length, map, sum_by, Option, Some, None, if◌then◌else◌, refl, sym, ap, subst, ◌∙◌, arith}
use Rattle.std.specs.Prelude.{filter, find, suc, Contains, IfSome, IsSome}
use Rattle.std.proofs.lemmas.Bool.{false≢true}
use Rattle.std.proofs.lemmas.List.{length-append, length-map, map-append}
use Rattle.std.proofs.lemmas.List.Elements.{Contains-append_left, Contains-append_right}
use Rattle.std.proofs.lemmas.List.Sums.{sum_by-append, sum_by-cons}
use Rattle.jh_num.proofs.Public.{Contains_from_map, Contains_head, Contains_map, IsFound_from_filter, list_any_false}
use Rattle.jh_cellcfg.specs.declared.config.CellConfig.{CellConfig}
use Rattle.jh_cellcfg.specs.declared.live.Live.{Live}
use Rattle.jh_cellcfg.specs.declared.region.Region.{Region}
use Rattle.jh_cellcfg.specs.Lives.{has_id, id_of}
use Rattle.jh_check.specs.Refusals.{is_known, is_namesake}
use Rattle.jh_shape.specs.Claims.{Claims, Holder, holder_of}
use Rattle.jh_shape.specs.Laws.{HasSameHolders, IsBesideMore}
use Rattle.jh_shape.specs.Lives.{all_cells, configs_of, marked, new_live}
use Rattle.jh_shape.specs.Pages.{cell_claims, live_root_claims, own_pages, root_claims, tables_of}
use Rattle.jh_shape.specs.Shapes.{holder_of_live, want_of}
use Rattle.jh_shape.specs.declared.want.Want.TheVariants.{Table}
use Rattle.jh_shape.proofs.Public.{configs_marked}
use Rattle.jh_call.specs.declared.call.Call.{Call}
use Rattle.jh_call.specs.declared.call.Call.TheVariants.{Create as CreateCall, Start, Loadable, Destroy as DestroyCall}
use Rattle.jh_script.specs.declared.image.Image.{Image}
use Rattle.jh_history.specs.declared.call.OpenCall.{OpenCall}
use Rattle.jh_history.specs.declared.call.Phase.{Phase}
use Rattle.jh_history.specs.declared.call.Phase.TheVariants.{ToCreate}
use Rattle.jh_history.specs.declared.entry.Act.{Act}
use Rattle.jh_history.specs.declared.entry.Act.TheVariants.{Commit}
use Rattle.jh_history.specs.Commits.{cells_by, committed_cells, is_other}
use Rattle.jh_history.specs.Facts.{Facts}
use Rattle.jh_history.specs.Lives.{live_in}
use Rattle.jh_history.specs.Sound.{AreSoundCells, IsSound}
use Rattle.jh_history.specs.DueFacts.{IsLive}
use Rattle.jh_history.proofs.Public.{two_ids}
use Rattle.jh_walk.specs.Walks.{levels}
use Rattle.jh_edit.specs.declared.planning.Planned.{Planned}
use Rattle.jh_edit.specs.declared.planning.Planned.TheVariants.{Unchanged, Create, Destroy}
use Rattle.jh_edit.specs.declared.stage.CellPart.TheVariants.{Unchanged as NoPart}
use Rattle.jh_edit.specs.declared.stage.Seat.{Seat}
use Rattle.jh_edit.specs.declared.stage.Stage2.{Stage2}
use Rattle.jh_edit.specs.declared.stage.Tree.{Tree}
use Rattle.jh_edit.specs.Ends.{claims_after, seat_pages}
use Rattle.jh_edit.specs.Forest.{is_edited, is_root, HasSeat}
use Rattle.jh_edit.specs.Planned.{HasRoot, MayChange, MayPlan, pages_planned}
use Rattle.jh_edit.specs.Tables.{words}
use Rattle.jh_edit.specs.Trees.{lack_of, WantsItsTables}
use Rattle.jh_pool.specs.Pages.{used_of}
use Rattle.jh_board.specs.Means.{IsStageOf}
use Rattle.jh_board.specs.Seats.{ids_of}
use Rattle.jh_board.specs.Tables.{claims_in}
use Rattle.jh_board.specs.Private.Editing.{claims_of_cell, destroy_of, plan_of, planned_by, MayEdit}
use Rattle.jh_board.specs.Private.HavePages.{HavePagesElse, HavePagesToCreate}
use Rattle.jh_board.proofs.SeatedLemmas.{live_by, live_last, no_other}
use Rattle.jh_board.proofs.StagedLemmas.{all_pages, ids_alike, root_claimed, root_first, root_tables, CountsAlike, MayHaveTables}
use Rattle.jh_board.proofs.WrittenLemmas.{come_unknown, live_seat, unknown_id}

-- ---- the laws of crates below

abbrev pub KeepsTablesBesideMore : Type 0
KeepsTablesBesideMore = (few many : Claims) (level start : ℕ) → IsBesideMore few many → want_of few level start ≡ Table → want_of many level start ≡ Table

-- the laws that a plan rests on, and that the pool has the pages
pub record PlansByLaws (stage : Stage2) : Type 0 where
  pub may : MayHaveTables
  pub marks : CountsAlike
  pub more : KeepsTablesBesideMore
  pub create : HavePagesToCreate stage
  pub others : HavePagesElse stage

-- ---- root

-- root has tables, which are made from its claims
record HasRootTables (image : Image) (lives : List Live) (stage : Stage2) : Type 0 where
  root : HasRoot stage
  claimed : claims_in image lives root.seat ≡ live_root_claims image.system.root.memory_regions lives

root_by : (image : Image) (lives : List Live) (stage : Stage2) (seat : Seat) (tree : Option Tree) → HasSeat stage seat → is_root seat ≡ true → seat.tree ≡ tree → IsSome tree → HasRootTables image lives stage
root_by image lives stage seat None sits root is some = absurd (false≢true some)
root_by image lives stage seat (Some tree) sits root is some =
    record { root = record { seat = seat; tree = tree; sits = sits; root = root; has = is }; claimed = root_claimed image lives seat root }

still_seat : (image : Image) (lives : List Live) (stage : Stage2) (seat : Seat) → IsStageOf image lives stage → is_edited stage.editing seat ≡ false
still_seat image lives stage seat st = ap (λ e. is_edited e seat) st.still

root_tables_of : (image : Image) (lives : List Live) (stage : Stage2) → IsStageOf image lives stage → HasRootTables image lives stage
root_tables_of image lives stage st =
    let first = root_first image lives stage st in
    root_by image lives stage first.seat first.seat.tree first.sits first.root refl (st.forest.trees first.seat first.sits (still_seat image lives stage first.seat st))

-- what may be planned for root and the cell of the call, where these cells live after it
record IsPlan (image : Image) (lives cells : List Live) (stage : Stage2) (coming : Claims) (planned : Planned) : Type 0 where
  old : IsStageOf image lives stage
  sound : AreSoundCells image.system (configs_of cells)
  change : MayChange coming stage planned
  enough : (has : HasRootTables image lives stage)
      → lack_of (want_of (live_root_claims image.system.root.memory_regions cells)) (words stage.frames) levels has.root.tree.table 0 + (pages_planned coming planned + used_of stage.pool) ≤ stage.pool.size

plan_made : (image : Image) (lives cells : List Live) (stage : Stage2) (coming : Claims) (planned : Planned) → PlansByLaws stage → IsPlan image lives cells stage coming planned
    → MayPlan (live_root_claims image.system.root.memory_regions cells) coming stage planned
plan_made image lives cells stage coming planned law plan =
    let has = root_tables_of image lives stage plan.old in
    let size = plan.old.inside.size in
    record {
      claims = claims_in image lives;
      forest = plan.old.forest;
      still = plan.old.still;
      root = has.root;
      sound = law.may.root image.system cells plan.sound.clean;
      kept = law.may.apart image.system cells stage.frames.own.base (length stage.frames.own.bytes) plan.sound.clean plan.old.inside.base (omega arith);
      change = plan.change;
      enough = plan.enough has;
    }

-- ---- where no cell comes

enough_else : (image : Image) (lives cells : List Live) (stage : Stage2) (coming : Claims) (planned : Planned) → HavePagesElse stage → IsStageOf image lives stage → pages_planned coming planned ≡ 0
    → WantsItsTables (want_of (live_root_claims image.system.root.memory_regions cells)) (want_of (live_root_claims image.system.root.memory_regions lives)) → (has : HasRootTables image lives stage)
    → lack_of (want_of (live_root_claims image.system.root.memory_regions cells)) (words stage.frames) levels has.root.tree.table 0 + (pages_planned coming planned + used_of stage.pool) ≤ stage.pool.size
enough_else image lives cells stage coming planned law old none wants has =
    let rootward = live_root_claims image.system.root.memory_regions cells in
    let P : Claims → Type 0 = λ c. WantsItsTables (want_of rootward) (want_of c) in
    let e = law (claims_in image lives) rootward has.root.seat has.root.tree old.still old.forest has.root.sits has.root.has (subst P (sym has.claimed) wants) in
    omega arith

-- the same cells, whichever of them are loadable, want the same tables of root
same_tables : CountsAlike → (regions : List Region) (lives cells : List Live) → configs_of cells ≡ configs_of lives → WantsItsTables (want_of (live_root_claims regions cells)) (want_of (live_root_claims regions lives))
same_tables law regions lives cells same =
    let one = law.live regions cells in
    let other = law.live regions lives in
    let alike : HasSameHolders (live_root_claims regions cells) (live_root_claims regions lives) = record {
      regions = refl;
      root = refl;
      holders = one.holders ∙ ap (λ (configs : List CellConfig). map (λ (holder : Holder). holder.regions) (map holder_of configs)) same ∙ sym other.holders;
    } in
    λ level start wanted. (law.tables (live_root_claims regions cells) (live_root_claims regions lives) level start alike).0 wanted

plan_same : (image : Image) (lives cells : List Live) (stage : Stage2) → PlansByLaws stage → IsStageOf image lives stage → AreSoundCells image.system (configs_of cells) → configs_of cells ≡ configs_of lives
    → MayEdit image.system.root.memory_regions cells stage Unchanged
plan_same image lives cells stage law old sound same =
    plan_made image lives cells stage (claims_of_cell None) Unchanged law (record {
      old = old;
      sound = sound;
      change = tt;
      enough = enough_else image lives cells stage (claims_of_cell None) Unchanged law.others old refl (same_tables law.marks image.system.root.memory_regions lives cells same);
    })

-- ---- where a cell goes

fewer_tables : KeepsTablesBesideMore → (regions : List Region) (lives : List Live) (n : ℕ) → WantsItsTables (want_of (live_root_claims regions (filter (is_other n) lives))) (want_of (live_root_claims regions lives))
fewer_tables law regions lives n =
    λ level start wanted. law (live_root_claims regions (filter (is_other n) lives)) (live_root_claims regions lives) level start (record {
      regions = refl;
      root = refl;
      holders = λ holder there.
          let from = Contains_from_map holder_of_live (filter (is_other n) lives) holder there in
          subst (λ (h : Holder). Contains (map holder_of_live lives) h) from.2 (Contains_map holder_of_live lives from.0 (IsFound_from_filter (is_other n) lives from.0 from.1).among);
    }) wanted

-- the cell has a seat, and isn't root
goes : (image : Image) (lives : List Live) (stage : Stage2) (id : ℕ) → IsStageOf image lives stage → IsLive lives id → MayChange (claims_of_cell None) stage (Destroy id)
goes image lives stage id old live =
    let seat = live_seat image lives stage id old live in
    record { seat = seat.seat; sits = seat.sits; named = seat.named; cell = seat.cell }

plan_gone : (image : Image) (lives : List Live) (stage : Stage2) (n : ℕ) (o : Option CellConfig) → PlansByLaws stage → IsStageOf image lives stage → live_in lives n ≡ o → AreSoundCells image.system (configs_of (filter (is_other n) lives))
    → MayEdit image.system.root.memory_regions (filter (is_other n) lives) stage (destroy_of o)
plan_gone image lives stage n None law old is sound = plan_same image lives (filter (is_other n) lives) stage law old sound (ap configs_of (no_other lives n is))
plan_gone image lives stage n (Some config) law old is sound =
    plan_made image lives (filter (is_other n) lives) stage (claims_of_cell None) (Destroy config.id) law (record {
      old = old;
      sound = sound;
      change = goes image lives stage config.id old (live_by lives n (find (has_id n) lives) config refl is);
      enough = enough_else image lives (filter (is_other n) lives) stage (claims_of_cell None) (Destroy config.id) law.others old refl (fewer_tables law.more image.system.root.memory_regions lives n);
    })

-- ---- where a cell comes

more_tables : KeepsTablesBesideMore → (regions : List Region) (lives : List Live) (new : Live) → WantsItsTables (want_of (live_root_claims regions lives)) (want_of (live_root_claims regions (lives ++ new ∷ [])))
more_tables law regions lives new =
    λ level start wanted. law (live_root_claims regions lives) (live_root_claims regions (lives ++ new ∷ [])) level start (record {
      regions = refl;
      root = refl;
      holders = λ holder there.
          let from = Contains_from_map holder_of_live lives holder there in
          subst (λ (h : Holder). Contains (map holder_of_live (lives ++ new ∷ [])) h) from.2
          (Contains_map holder_of_live (lives ++ new ∷ []) from.0 (Contains-append_left lives (new ∷ []) from.0 from.1));
    }) wanted

-- the configuration of the cell whose seat it is
seat_config : (image : Image) (lives : List Live) (stage : Stage2) (seat : Seat) → IsStageOf image lives stage → HasSeat stage seat → (c : CellConfig) × Contains (all_cells image.system.root lives) c × (c.id ≡ seat.id)
seat_config image lives stage seat old sits =
    let ids : Contains (map (λ (c : CellConfig). c.id) (all_cells image.system.root lives)) seat.id =
    subst (λ (l : List ℕ). Contains l seat.id) (old.seats ∙ sym (ids_alike image lives)) (Contains_map (λ (s : Seat). s.id) stage.seats.items seat sits) in
    Contains_from_map (λ (c : CellConfig). c.id) (all_cells image.system.root lives) seat.id ids

new_id : (image : Image) (lives : List Live) (stage : Stage2) (config : CellConfig) → IsStageOf image lives stage → is_known (all_cells image.system.root lives) config ≡ false → (seat : Seat) → HasSeat stage seat → seat.id ≢ config.id
new_id image lives stage config old unknown seat sits e =
    let cell = seat_config image lives stage seat old sits in
    two_ids cell.0 config (list_any_false (is_namesake config) (all_cells image.system.root lives) cell.0 unknown cell.1) (cell.2 ∙ e)

few_seats : (image : Image) (lives : List Live) (stage : Stage2) (new : Live) → IsStageOf image lives stage → length (lives ++ new ∷ []) ≤ 15 → length stage.seats.items < 16
few_seats image lives stage new old few =
    let ids : length (ids_of stage) ≡ suc (length (map id_of lives)) = ap length old.seats in
    let seats = length-map stage.seats.items (λ (s : Seat). s.id) in
    let cells = length-map lives id_of in
    let all = length-append lives (new ∷ []) in
    omega arith

comes : (image : Image) (lives : List Live) (stage : Stage2) (config : CellConfig) → PlansByLaws stage → IsStageOf image lives stage → AreSoundCells image.system (configs_of (lives ++ new_live config ∷ []))
    → is_known (all_cells image.system.root lives) config ≡ false → length (lives ++ new_live config ∷ []) ≤ 15 → MayChange (cell_claims config) stage (Create config.id (tables_of (cell_claims config)))
comes image lives stage config law old sound unknown few =
    let cells : List Live = lives ++ new_live config ∷ [] in
    record {
      counted = refl;
      new = new_id image lives stage config old unknown;
      room = few_seats image lives stage (new_live config) old few;
      fit = law.may.cells image.system cells (new_live config) stage sound.clean (Contains-append_right lives (new_live config ∷ []) (new_live config) (Contains_head (new_live config) [])) old.inside;
    }

-- the pages that all cells have once the cell has come
pages_come : CountsAlike → (image : Image) (lives : List Live) (stage : Stage2) (config : CellConfig) → IsStageOf image lives stage → AreSoundCells image.system (configs_of lives) → AreSoundCells image.system (configs_of (lives ++ new_live config ∷ []))
    → sum_by (seat_pages (claims_after (live_root_claims image.system.root.memory_regions (lives ++ new_live config ∷ [])) (cell_claims config) NoPart (claims_in image lives))) stage.seats.items + (tables_of (cell_claims config) + 1) ≤ stage.pool.size
pages_come law image lives stage config old before sound =
    let regions = image.system.root.memory_regions in
    let cells : List Live = lives ++ new_live config ∷ [] in
    let rootward = live_root_claims regions cells in
    let claims = claims_after rootward (cell_claims config) NoPart (claims_in image lives) in
    let sum : sum_by (seat_pages claims) stage.seats.items ≡ tables_of (root_claims regions (configs_of cells)) + sum_by own_pages (configs_of lives) =
    all_pages law image lives stage claims (tables_of (root_claims regions (configs_of cells))) before old
    (λ seat root. ap (λ b. tables_of (if b then rootward else claims_in image lives seat)) root ∙ root_tables law regions cells)
    (λ seat cell. ap (λ b. if b then rootward else claims_in image lives seat) cell) in
    let configs : configs_of cells ≡ configs_of lives ++ config ∷ [] = map-append (λ (l : Live). l.config) lives (new_live config ∷ []) in
    let more : sum_by own_pages (configs_of cells) ≡ sum_by own_pages (configs_of lives) + sum_by own_pages (config ∷ []) = ap (sum_by own_pages) configs ∙ sum_by-append own_pages (configs_of lives) (config ∷ []) in
    let one : sum_by own_pages (config ∷ []) ≡ (tables_of (cell_claims config) + 1) + 0 = sum_by-cons own_pages config [] in
    let size = old.inside.pages in
    let room = sound.room in
    omega arith

plan_come : (image : Image) (lives : List Live) (stage : Stage2) (config : CellConfig) → PlansByLaws stage → IsStageOf image lives stage → AreSoundCells image.system (configs_of lives) → AreSoundCells image.system (configs_of (lives ++ new_live config ∷ []))
    → is_known (all_cells image.system.root lives) config ≡ false → length (lives ++ new_live config ∷ []) ≤ 15 → find (has_id config.id) lives ≡ None
    → MayEdit image.system.root.memory_regions (lives ++ new_live config ∷ []) stage (Create config.id (tables_of (cell_claims config)))
plan_come image lives stage config law old before sound unknown few none =
    let cells : List Live = lives ++ new_live config ∷ [] in
    let regions = image.system.root.memory_regions in
    let rootward = live_root_claims regions cells in
    let planned : Planned = Create config.id (tables_of (cell_claims config)) in
    let P : Option CellConfig → Type 0 = λ c. MayPlan rootward (claims_of_cell c) stage planned in
    subst P (sym (live_last lives config none)) (plan_made image lives cells stage (cell_claims config) planned law (record {
      old = old;
      sound = sound;
      change = comes image lives stage config law old sound unknown few;
      enough = λ has.
          let Q : Claims → Type 0 = λ c. WantsItsTables (want_of c) (want_of rootward) in
          law.create (claims_in image lives) rootward (cell_claims config) has.root.seat has.root.tree old.still old.forest has.root.sits has.root.root has.root.has
          (subst Q (sym has.claimed) (more_tables law.more regions lives (new_live config))) (pages_come law.marks image lives stage config old before sound);
    }))

-- ---- any Commit

plan_commit : (image : Image) (f : Facts) (o : OpenCall) (call : Call) (phase : Phase) (stage : Stage2) → PlansByLaws stage → IsStageOf image f.cells stage → IsSound image f → f.call ≡ Some o → o.call ≡ call → o.phase ≡ phase
    → AreSoundCells image.system (configs_of (committed_cells call phase f.cells)) → length (committed_cells call phase f.cells) ≤ 15
    → MayEdit image.system.root.memory_regions (committed_cells call phase f.cells) stage (plan_of f.cells call phase)
plan_commit image f o (CreateCall at) (ToCreate config) stage law old sound is own at_phase after few =
    let unknown = come_unknown image f o config sound is at_phase in
    plan_come image f.cells stage config law old sound.cells after unknown few (unknown_id image f.cells config unknown)
plan_commit image f o (Start id) phase stage law old sound is own at_phase after few = plan_same image f.cells (map (marked id false) f.cells) stage law old after (configs_marked id false f.cells)
plan_commit image f o (Loadable id) phase stage law old sound is own at_phase after few = plan_same image f.cells (map (marked id true) f.cells) stage law old after (configs_marked id true f.cells)
plan_commit image f o (DestroyCall id) phase stage law old sound is own at_phase after few = plan_gone image f.cells stage id (live_in f.cells id) law old refl after
plan_commit image f o call phase stage law old sound is own at_phase after few = plan_same image f.cells f.cells stage law old after refl

plan_at : (image : Image) (f : Facts) (call : Option OpenCall) (stage : Stage2) → PlansByLaws stage → IsStageOf image f.cells stage → IsSound image f → f.call ≡ call
    → AreSoundCells image.system (configs_of (cells_by call f.cells Commit)) → length (cells_by call f.cells Commit) ≤ 15
    → IfSome (planned_by f.cells call Commit) (MayEdit image.system.root.memory_regions (cells_by call f.cells Commit) stage)
plan_at image f None stage law old sound is after few = tt
plan_at image f (Some o) stage law old sound is after few = plan_commit image f o o.call o.phase stage law old sound is refl refl after few

pub may_edit : (image : Image) (f : Facts) (act : Act) (stage : Stage2) → PlansByLaws stage → IsStageOf image f.cells stage → IsSound image f → AreSoundCells image.system (configs_of (cells_by f.call f.cells act))
    → length (cells_by f.call f.cells act) ≤ 15 → IfSome (planned_by f.cells f.call act) (MayEdit image.system.root.memory_regions (cells_by f.call f.cells act) stage)
may_edit image f Commit stage law old sound after few = plan_at image f f.call stage law old sound refl after few
may_edit image f act stage law old sound after few = tt
