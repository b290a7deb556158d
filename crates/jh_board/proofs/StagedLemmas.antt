-- The tables of all cells tell what each cell is granted, and take the pages that are counted for them.
use Rattle.std.proofs.Common.{◌≡◌, ℕ, ◌+◌, ◌<◌, ◌≤◌, ◌↔◌, Bool, true, false, not, nat_eq, List, [], ◌∷◌, map, get_or, drop, sum_by, Option, Some, None, is_some, if◌then◌else◌, refl, sym, ap, subst, ◌∙◌, arith, ⊎_elim}
use Rattle.std.specs.Prelude.{find, slice_get, suc, AllPairs, Contains, IsSome}
use Rattle.std.proofs.lemmas.Bool.{both_ways, eq-eqb, eqb-true, false≢true}
use Rattle.std.proofs.lemmas.Option.{none-some}
use Rattle.std.proofs.lemmas.List.Sums.{sum_by-cons}
use Rattle.std.proofs.lemmas.Simd.{map-map}
use Rattle.jh_num.specs.declared.address.TheConstants.{ADDRESS_END}
use Rattle.jh_num.specs.declared.rights.Rights.{Rights}
use Rattle.jh_num.proofs.Public.{Contains_cases, Contains_from_map, Contains_head, Contains_map, Contains_tail, IsFound_from_find, find_some}
use Rattle.jh_cellcfg.specs.declared.config.CellConfig.{CellConfig}
use Rattle.jh_cellcfg.specs.declared.config.SystemConfig.{SystemConfig}
use Rattle.jh_cellcfg.specs.declared.live.Live.{Live}
use Rattle.jh_cellcfg.specs.declared.region.Region.{Region}
use Rattle.jh_cellcfg.specs.Lives.{has_id, id_of}
use Rattle.jh_check.specs.Clean.{IsClean}
use Rattle.jh_check.specs.Refusals.{AreTwo}
use Rattle.jh_desc.specs.declared.descriptor.Hit.{Hit}
use Rattle.jh_pool.specs.Pages.{IsTakenPage, used_of}
use Rattle.jh_walk.specs.Walks.{levels, walk_of}
use Rattle.jh_shape.specs.Claims.{Claims}
use Rattle.jh_shape.specs.Grants.{IsGranted}
use Rattle.jh_shape.specs.Laws.{HasSameHolders}
use Rattle.jh_shape.specs.Lives.{all_cells, configs_of}
use Rattle.jh_shape.specs.Pages.{cell_claims, live_root_claims, own_pages, root_claims, tables_of}
use Rattle.jh_shape.specs.Shapes.{want_of}
use Rattle.jh_shape.specs.SoundClaims.{AreSoundClaims}
use Rattle.jh_shape.specs.declared.want.Want.TheVariants.{Table}
use Rattle.jh_shape.specs.Wanted.{Wants}
use Rattle.jh_script.specs.declared.image.Image.{Image}
use Rattle.jh_history.specs.Sound.{AreSoundCells}
use Rattle.jh_history.proofs.Public.{one_of_pairs, two_ids}
use Rattle.jh_edit.specs.declared.stage.Seat.{Seat}
use Rattle.jh_edit.specs.declared.stage.Stage2.{Stage2}
use Rattle.jh_edit.specs.declared.stage.Tree.{Tree}
use Rattle.jh_edit.specs.Ends.{came, seat_pages}
use Rattle.jh_edit.specs.Forest.{ahead_uses, comm_times, comm_uses, is_edited, is_gone, is_root, table_uses, uses, with_comm, AreApart, GrantsNothingOf, HasSeat, IsFitToCome, IsForest}
use Rattle.jh_edit.specs.Tables.{words}
use Rattle.jh_edit.specs.Trees.{Stands, walked}
use Rattle.jh_board.specs.Means.{IsInside, IsStageOf}
use Rattle.jh_board.specs.Seats.{ids_of}
use Rattle.jh_board.specs.Tables.{claims_by, claims_in, AreTakenPages, HaveAllTables, TellsGrant, TellsGrants}
use Rattle.jh_board.proofs.SeatsLemmas.{counted, in_sum, taken_within}

-- ---- the laws of crates below

abbrev pub WalksAsWanted : Type 0
WalksAsWanted = (want : Wants) (word : ℕ → ℕ) (n table start at : ℕ) → Stands want word n table start → walk_of word n table at ≡ walked want n start at

pub record TellsGrantsAsWanted : Type 0 where
  pub found : (claims : Claims) (at : ℕ) (hit : Hit) → AreSoundClaims claims → at < ADDRESS_END → walked (want_of claims) levels 0 at ≡ Some hit → IsGranted claims at hit.out hit.rights hit.device
  pub nothing : (claims : Claims) (at place : ℕ) (rights : Rights) (device : Bool) → AreSoundClaims claims → at < ADDRESS_END → walked (want_of claims) levels 0 at ≡ None → IsGranted claims at place rights device → ⊥

pub record MayHaveTables : Type 0 where
  pub apart : (system : SystemConfig) (lives : List Live) (base size : ℕ) → IsClean system (configs_of lives) → base ≡ system.platform.hypervisor_memory.phys_start → size ≤ system.platform.hypervisor_memory.size
      → GrantsNothingOf (live_root_claims system.root.memory_regions lives) base size
  pub root : (system : SystemConfig) (lives : List Live) → IsClean system (configs_of lives) → AreSoundClaims (live_root_claims system.root.memory_regions lives)
  pub cells : (system : SystemConfig) (lives : List Live) (live : Live) (stage : Stage2) → IsClean system (configs_of lives) → Contains lives live → IsInside system stage → IsFitToCome (cell_claims live.config) stage

pub record CountsAlike : Type 0 where
  pub tables : (one other : Claims) (level start : ℕ) → HasSameHolders one other → (want_of one level start ≡ Table) ↔ (want_of other level start ≡ Table)
  pub pages : (one other : Claims) → HasSameHolders one other → tables_of one ≡ tables_of other
  pub live : (regions : List Region) (lives : List Live) → HasSameHolders (live_root_claims regions lives) (root_claims regions (configs_of lives))

-- ---- which cell's a seat is

-- root's id, and then those of the cells that live besides it, are the ids of all cells
pub ids_alike : (image : Image) (lives : List Live) → map (λ (c : CellConfig). c.id) (all_cells image.system.root lives) ≡ image.system.root.id ∷ map id_of lives
ids_alike image lives = ap (λ (l : List ℕ). image.system.root.id ∷ l) (map-map (λ (c : CellConfig). c.id) (λ (live : Live). live.config) lives)

-- two live cells with one id have one configuration
one_config : (image : Image) (lives : List Live) (a b : Live) → AreSoundCells image.system (configs_of lives) → Contains lives a → Contains lives b → id_of a ≡ id_of b → a.config ≡ b.config
one_config image lives a b sound has_a has_b is =
    let config : Live → CellConfig = λ l. l.config in
    one_of_pairs AreTwo (λ (x y : CellConfig). x.id ≡ y.id) (λ x y two same. two_ids x y two same) (λ x y same. sym same)
    (image.system.root ∷ configs_of lives) a.config b.config sound.differ
    (Contains_tail image.system.root (configs_of lives) a.config (Contains_map config lives a has_a))
    (Contains_tail image.system.root (configs_of lives) b.config (Contains_map config lives b has_b)) is

-- the live cell that is found by the id of one has its configuration
found_config : (image : Image) (lives : List Live) (live : Live) (id : ℕ) → AreSoundCells image.system (configs_of lives) → Contains lives live → id ≡ id_of live → claims_by (find (has_id id) lives) ≡ cell_claims live.config
found_config image lives live id sound has named =
    let found = find_some (has_id id) lives live has (eq-eqb (id_of live) id (sym named)) in
    let is = IsFound_from_find (has_id id) lives found.0 found.1 in
    ap claims_by found.1 ∙ ap cell_claims (one_config image lives found.0 live sound is.among has (eqb-true (id_of found.0) id is.passes ∙ named))

-- a seat is root's, or that of a live cell
pub record IsLiveSeat (lives : List Live) (seat : Seat) : Type 0 where
  pub live : Live
  pub among : Contains lives live
  pub named : seat.id ≡ id_of live

pub seat_named : (image : Image) (lives : List Live) (stage : Stage2) → IsStageOf image lives stage → (seat : Seat) → HasSeat stage seat → is_root seat ≡ false → IsLiveSeat lives seat
seat_named image lives stage st seat sits other =
    let root = image.system.root.id in
    let there : Contains (root ∷ map id_of lives) seat.id =
    subst (λ (ids : List ℕ). Contains ids seat.id) st.seats (Contains_map (λ (s : Seat). s.id) stage.seats.items seat sits) in
    ⊎_elim
    (λ (here : root ≡ seat.id). absurd (both_ways (nat_eq seat.id root) (sym (st.comms seat sits) ∙ other) (eq-eqb seat.id root (sym here))))
    (λ (later : Contains (map id_of lives) seat.id).
    let from = Contains_from_map id_of lives seat.id later in
    record { live = from.0; among = from.1; named = sym from.2 })
    (Contains_cases root (map id_of lives) seat.id there)

-- ---- claims

-- what a seat's tables are made from, by its communication page
abbrev pub claims_with : Image → List Live → Seat → Option ℕ → Claims
claims_with image lives seat comm =
    if not (is_some comm) then live_root_claims image.system.root.memory_regions lives else came (claims_by (find (has_id seat.id) lives)) comm

of_root : (image : Image) (lives : List Live) (seat : Seat) → seat.comm ≡ None → claims_in image lives seat ≡ live_root_claims image.system.root.memory_regions lives
of_root image lives seat is = ap (claims_with image lives seat) is

pub of_cell : (image : Image) (lives : List Live) (seat : Seat) (live : Live) (comm : ℕ) → AreSoundCells image.system (configs_of lives) → Contains lives live → seat.id ≡ id_of live → seat.comm ≡ Some comm
    → claims_in image lives seat ≡ with_comm (cell_claims live.config) comm
of_cell image lives seat live comm sound has named is =
    ap (claims_with image lives seat) is ∙ ap (λ (c : Claims). with_comm c comm) (found_config image lives live seat.id sound has named)

root_by : (seat : Seat) (comm : Option ℕ) → seat.comm ≡ comm → is_root seat ≡ not (is_some comm)
root_by seat comm is = ap (λ (c : Option ℕ). not (is_some c)) is

-- the communication page of a seat is taken
pub seat_page : (claims : Seat → Claims) (stage : Stage2) → IsForest claims stage → stage.editing ≡ None → (seat : Seat) (comm : ℕ) → HasSeat stage seat → seat.comm ≡ Some comm → IsTakenPage stage.pool comm
seat_page claims stage forest still seat comm sits is =
    let le = in_sum (λ (s : Seat). if is_gone stage.editing s then 0 else comm_times comm s.comm) stage.seats.items seat sits in
    let one = counted stage.editing seat comm still is in
    let used : 0 < uses stage comm = omega arith in
    (forest.taken comm).1 used

seat_sound : MayHaveTables → (image : Image) (lives : List Live) (stage : Stage2) → AreSoundCells image.system (configs_of lives) → IsStageOf image lives stage → (seat : Seat) → HasSeat stage seat → (comm : Option ℕ) → seat.comm ≡ comm
    → AreSoundClaims (claims_in image lives seat)
seat_sound law image lives stage sound st seat sits None is = subst AreSoundClaims (sym (of_root image lives seat is)) (law.root image.system lives sound.clean)
seat_sound law image lives stage sound st seat sits (Some comm) is =
    let one = seat_named image lives stage st seat sits (root_by seat (Some comm) is) in
    let taken = seat_page (claims_in image lives) stage st.forest st.still seat comm sits is in
    let own = taken_within stage comm st.forest.inside taken in
    let within = own.within in
    let fit = law.cells image.system lives one.live stage sound.clean one.among st.inside in
    subst AreSoundClaims (sym (of_cell image lives seat one.live comm sound one.among one.named is)) (fit.sound comm taken.in_range.aligned (omega arith))

-- ---- what walks find

told : TellsGrantsAsWanted → (claims : Claims) → AreSoundClaims claims → (at : ℕ) → at < ADDRESS_END → (o : Option Hit) → walked (want_of claims) levels 0 at ≡ o → TellsGrant claims at o
told law claims sound at below None is = λ place rights device granted. law.nothing claims at place rights device sound below is granted
told law claims sound at below (Some hit) is = law.found claims at hit sound below is

tells_by : WalksAsWanted → TellsGrantsAsWanted → (claims : Seat → Claims) (stage : Stage2) → IsForest claims stage → (seat : Seat) → HasSeat stage seat → AreSoundClaims (claims seat) → is_edited stage.editing seat ≡ false → (tree : Option Tree) → seat.tree ≡ tree
    → IsSome tree → TellsGrants (claims seat) stage seat
tells_by walks law claims stage forest seat sits sound still None is some = absurd (false≢true some)
tells_by walks law claims stage forest seat sits sound still (Some tree) is some = (
  tree,
  (
    is,
    λ at below.
        let want = want_of (claims seat) in
        let stands = forest.stands seat tree sits is still in
        let told : TellsGrant (claims seat) at (walked want levels 0 at) = told law (claims seat) sound at below (walked want levels 0 at) refl in
        subst (λ (o : Option Hit). TellsGrant (claims seat) at o) (sym (walks want (words stage.frames) levels tree.table 0 at stands)) told,
  ),
)

tells : WalksAsWanted → TellsGrantsAsWanted → (claims : Seat → Claims) (stage : Stage2) → IsForest claims stage → (seat : Seat) → HasSeat stage seat → AreSoundClaims (claims seat) → is_edited stage.editing seat ≡ false → TellsGrants (claims seat) stage seat
tells walks law claims stage forest seat sits sound still =
    tells_by walks law claims stage forest seat sits sound still seat.tree refl (forest.trees seat sits still)

pub all_tables : WalksAsWanted → TellsGrantsAsWanted → MayHaveTables → (image : Image) (lives : List Live) (stage : Stage2) → AreSoundCells image.system (configs_of lives) → IsStageOf image lives stage → HaveAllTables image lives stage
all_tables walks law may image lives stage sound st = λ config among.
    let number : CellConfig → ℕ = λ c. c.id in
    let there : Contains (map number (all_cells image.system.root lives)) config.id = Contains_map number (all_cells image.system.root lives) config among in
    let ids : Contains (ids_of stage) config.id = subst (λ (l : List ℕ). Contains l config.id) (ids_alike image lives ∙ sym st.seats) there in
    let seat = Contains_from_map (λ (s : Seat). s.id) stage.seats.items config.id ids in
    record {
      seat = seat.0;
      sits = seat.1;
      named = seat.2;
      root = st.comms seat.0 seat.1 ∙ ap (λ (n : ℕ). nat_eq n image.system.root.id) seat.2;
      tells = λ still. tells walks law (claims_in image lives) stage st.forest seat.0 seat.1 (seat_sound may image lives stage sound st seat.0 seat.1 seat.0.comm refl) still;
    }

-- ---- pages

-- the pages of one seat's cell
cell_seat_pages : CountsAlike → (image : Image) (lives : List Live) (seat : Seat) (live : Live) → AreSoundCells image.system (configs_of lives) → Contains lives live → seat.id ≡ id_of live → (comm : Option ℕ) → seat.comm ≡ comm → is_root seat ≡ false
    → seat_pages (claims_in image lives) seat ≡ own_pages live.config
cell_seat_pages law image lives seat live sound has named None is other = absurd (both_ways (is_root seat) other (root_by seat None is))
cell_seat_pages law image lives seat live sound has named (Some comm) is other =
    let same : HasSameHolders (with_comm (cell_claims live.config) comm) (cell_claims live.config) = record { regions = refl; root = refl; holders = refl } in
    let tables : tables_of (claims_in image lives seat) ≡ tables_of (cell_claims live.config) =
    ap tables_of (of_cell image lives seat live comm sound has named is) ∙ law.pages (with_comm (cell_claims live.config) comm) (cell_claims live.config) same in
    ap (λ (b : Bool). tables_of (claims_in image lives seat) + (if b then 0 else 1)) other ∙ ap (λ (n : ℕ). n + 1) tables

-- the seats of cells that live, in their order, each with a communication page, and what their tables are made from
record SitsFor (image : Image) (lives : List Live) (claims : Seat → Claims) (seats : List Seat) (cells : List Live) : Type 0 where
  ids : map (λ (s : Seat). s.id) seats ≡ map id_of cells
  among : (live : Live) → Contains cells live → Contains lives live
  others : (seat : Seat) → Contains seats seat → is_root seat ≡ false
  claimed : (seat : Seat) → is_root seat ≡ false → claims seat ≡ claims_in image lives seat

sum_pages : CountsAlike → (image : Image) (lives : List Live) (claims : Seat → Claims) (seats : List Seat) (cells : List Live) → AreSoundCells image.system (configs_of lives) → SitsFor image lives claims seats cells
    → sum_by (seat_pages claims) seats ≡ sum_by own_pages (configs_of cells)
sum_pages law image lives claims [] [] sound sit = refl
sum_pages law image lives claims [] (live ∷ cells) sound sit = absurd (none-some (id_of live) (ap (λ (l : List ℕ). slice_get l 0) sit.ids))
sum_pages law image lives claims (seat ∷ seats) [] sound sit = absurd (none-some seat.id (sym (ap (λ (l : List ℕ). slice_get l 0) sit.ids)))
sum_pages law image lives claims (seat ∷ seats) (live ∷ cells) sound sit =
    let first : seat.id ≡ id_of live = ap (λ (l : List ℕ). get_or l 0 0) sit.ids in
    let cell = sit.others seat (Contains_head seat seats) in
    let rest : sum_by (seat_pages claims) seats ≡ sum_by own_pages (configs_of cells) =
    sum_pages law image lives claims seats cells sound (record {
      ids = ap (drop 1) sit.ids;
      among = λ l there. sit.among l (Contains_tail live cells l there);
      others = λ s there. sit.others s (Contains_tail seat seats s there);
      claimed = sit.claimed;
    }) in
    let one : seat_pages claims seat ≡ own_pages live.config =
    ap (λ (c : Claims). tables_of c + (if is_root seat then 0 else 1)) (sit.claimed seat cell)
    ∙ cell_seat_pages law image lives seat live sound (sit.among live (Contains_head live cells)) first seat.comm refl cell in
    let left = sum_by-cons (seat_pages claims) seat seats in
    let right = sum_by-cons own_pages live.config (configs_of cells) in
    omega arith

-- no seat behind the first is root's
later_cell : (root : Seat) (seats : List Seat) → AllPairs AreApart (root ∷ seats) → (seat : Seat) → Contains seats seat → is_root seat ≡ false
later_cell root seats apart seat (k, below, is) =
    subst (λ (s : Seat). is_root s ≡ false) is (apart 0 (suc k) seat (omega arith) (omega arith)).cell

-- root's seat, which is the first
pub record HasRootFirst (image : Image) (lives : List Live) (stage : Stage2) : Type 0 where
  pub seat : Seat
  pub rest : List Seat
  pub all : stage.seats.items ≡ seat ∷ rest
  pub sits : HasSeat stage seat
  pub root : is_root seat ≡ true
  pub others : (other : Seat) → Contains rest other → is_root other ≡ false
  pub ids : map (λ (s : Seat). s.id) rest ≡ map id_of lives

root_first_by : (image : Image) (lives : List Live) (stage : Stage2) (seats : List Seat) → IsStageOf image lives stage → stage.seats.items ≡ seats → HasRootFirst image lives stage
root_first_by image lives stage [] st is =
    absurd (none-some image.system.root.id (ap (λ (l : List Seat). slice_get (map (λ (s : Seat). s.id) l) 0) (sym is) ∙ ap (λ (l : List ℕ). slice_get l 0) st.seats))
root_first_by image lives stage (root ∷ seats) st is =
    let id = image.system.root.id in
    let ids : root.id ∷ map (λ (s : Seat). s.id) seats ≡ id ∷ map id_of lives = ap (map (λ (s : Seat). s.id)) (sym is) ∙ st.seats in
    let first : root.id ≡ id = ap (λ (l : List ℕ). get_or l 0 0) ids in
    let sits : HasSeat stage root = subst (λ (l : List Seat). Contains l root) (sym is) (Contains_head root seats) in
    record {
      seat = root;
      rest = seats;
      all = is;
      sits = sits;
      root = st.comms root sits ∙ eq-eqb root.id id first;
      others = later_cell root seats (subst (AllPairs AreApart) is st.forest.apart);
      ids = ap (drop 1) ids;
    }

pub root_first : (image : Image) (lives : List Live) (stage : Stage2) → IsStageOf image lives stage → HasRootFirst image lives stage
root_first image lives stage st = root_first_by image lives stage stage.seats.items st refl

-- what root's seat claims
pub root_claimed : (image : Image) (lives : List Live) (seat : Seat) → is_root seat ≡ true → claims_in image lives seat ≡ live_root_claims image.system.root.memory_regions lives
root_claimed image lives seat root =
    ap (λ b. if b then live_root_claims image.system.root.memory_regions lives else came (claims_by (find (has_id seat.id) lives)) seat.comm) root

-- the pages of root and of the cells that live, where root has so many tables
pub all_pages : CountsAlike → (image : Image) (lives : List Live) (stage : Stage2) (claims : Seat → Claims) (tables : ℕ) → AreSoundCells image.system (configs_of lives) → IsStageOf image lives stage
    → ((seat : Seat) → is_root seat ≡ true → tables_of (claims seat) ≡ tables) → ((seat : Seat) → is_root seat ≡ false → claims seat ≡ claims_in image lives seat)
    → sum_by (seat_pages claims) stage.seats.items ≡ tables + sum_by own_pages (configs_of lives)
all_pages law image lives stage claims tables sound st root cells =
    let first = root_first image lives stage st in
    let rest = sum_pages law image lives claims first.rest lives sound (record { ids = first.ids; among = λ l there. there; others = first.others; claimed = cells }) in
    let pages : seat_pages claims first.seat ≡ tables + 0 =
    ap (λ (b : Bool). tables_of (claims first.seat) + (if b then 0 else 1)) first.root ∙ ap (λ (n : ℕ). n + 0) (root first.seat first.root) in
    let all : sum_by (seat_pages claims) stage.seats.items ≡ sum_by (seat_pages claims) (first.seat ∷ first.rest) = ap (sum_by (seat_pages claims)) first.all in
    let sum = sum_by-cons (seat_pages claims) first.seat first.rest in
    omega arith

pub root_tables : CountsAlike → (regions : List Region) (lives : List Live) → tables_of (live_root_claims regions lives) ≡ tables_of (root_claims regions (configs_of lives))
root_tables law regions lives = law.pages (live_root_claims regions lives) (root_claims regions (configs_of lives)) (law.live regions lives)

-- the pages that are taken are the cells' tables and communication pages
pub taken_pages : CountsAlike → (image : Image) (lives : List Live) (stage : Stage2) → AreSoundCells image.system (configs_of lives) → IsStageOf image lives stage
    → used_of stage.pool ≡ sum_by (seat_pages (claims_in image lives)) stage.seats.items → AreTakenPages image lives stage
taken_pages law image lives stage sound st sum =
    let regions = image.system.root.memory_regions in
    let none : (page : ℕ) → ahead_uses stage.editing page ≡ 0 = λ page. ap (λ e. ahead_uses e page) st.still in
    let all : (page : ℕ) → uses stage page ≡ table_uses stage page + comm_uses stage page = λ page. let no = none page in omega arith in
    record {
      seats = st.seats;
      taken = λ page. subst (λ (n : ℕ). IsTakenPage stage.pool page ↔ (0 < n)) (all page) (st.forest.taken page);
      used = sum ∙ all_pages law image lives stage (claims_in image lives) (tables_of (root_claims regions (configs_of lives))) sound st
          (λ seat root. ap tables_of (root_claimed image lives seat root) ∙ root_tables law regions lives) (λ seat cell. refl);
    }
