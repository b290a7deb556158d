-- The leaves that descriptors in memory make are those that the configurations want.
use Rattle.std.proofs.Common.{◌≡◌, ◌≢◌, ℕ, ◌+◌, ◌-◌, ◌*◌, ◌<◌, Bool, true, false, not, nat_le, List, [], ◌∷◌, ◌++◌, map, get_or, drop, Option, Some, None, is_some, if◌then◌else◌, zero, refl, sym, ap, subst, ◌∙◌, arith}
use Rattle.std.specs.Prelude.{flat_map, slice_get, suc, Contains, IsSome}
use Rattle.std.proofs.lemmas.Bool.{and_parts, both_ways, eq-eqb, eqb-true, false≢true, leb-true, ne_eqb}
use Rattle.std.proofs.lemmas.Option.{none-some}
use Rattle.std.proofs.lemmas.Nat.{pow_pos}
use Rattle.std.proofs.lemmas.List.{map-append}
use Rattle.std.proofs.lemmas.List.Concat.{flat_map-cons}
use Rattle.std.proofs.lemmas.Simd.{map-map}
use Rattle.jh_num.specs.declared.level.TheConstants.{LAST_LEVEL}
use Rattle.jh_num.specs.Levels.{slot_size}
use Rattle.jh_num.proofs.Public.{find_unique, within_both, Contains_head, Contains_map, Contains_tail, IsFound_from_find}
use Rattle.jh_cellcfg.specs.declared.config.CellConfig.{CellConfig}
use Rattle.jh_cellcfg.specs.declared.config.SystemConfig.{SystemConfig}
use Rattle.jh_cellcfg.specs.declared.live.Live.{Live}
use Rattle.jh_cellcfg.specs.declared.region.Region.{Region}
use Rattle.jh_cellcfg.specs.Lives.{id_of}
use Rattle.jh_cellcfg.specs.Regions.{has_address, has_place, is_comm, is_device, phys_end, place_in, rights_of, virt_end}
use Rattle.jh_check.specs.Clean.{IsClean}
use Rattle.jh_desc.specs.declared.descriptor.Descriptor.{Descriptor}
use Rattle.jh_desc.specs.Descriptors.{read_of}
use Rattle.jh_history.specs.Sound.{AreSoundCells}
use Rattle.jh_history.proofs.Public.{one_of_pairs}
use Rattle.jh_script.specs.declared.image.Image.{Image}
use Rattle.jh_shape.specs.declared.want.Want.{Want}
use Rattle.jh_shape.specs.declared.want.Want.TheVariants.{Nothing, Table as WantTable, Leaf as WantLeaf}
use Rattle.jh_shape.specs.Claims.{Claims}
use Rattle.jh_shape.specs.Lives.{configs_of}
use Rattle.jh_shape.specs.Pages.{cell_claims, live_root_claims}
use Rattle.jh_shape.specs.Shapes.{is_leaf_by, is_mapped, is_met, leaf_region, want_from, want_of, want_without_leaf}
use Rattle.jh_shape.specs.Intervals.{spans}
use Rattle.jh_shape.specs.Wanted.{slot_start, Wants}
use Rattle.jh_walk.specs.Walks.{levels}
use Rattle.jh_edit.specs.declared.leaves.LeafAt.{LeafAt}
use Rattle.jh_edit.specs.declared.stage.Seat.{Seat}
use Rattle.jh_edit.specs.declared.stage.Stage2.{Stage2}
use Rattle.jh_edit.specs.declared.stage.Tree.{Tree}
use Rattle.jh_edit.specs.Forest.{is_edited, is_root, with_comm, AreApart, HasSeat}
use Rattle.jh_edit.specs.Leaves.{leaves_before, leaves_in, leaves_of, leaves_on}
use Rattle.jh_edit.specs.Seats.{cell_tree, is_seat_of, tree_in}
use Rattle.jh_edit.specs.Tables.{words}
use Rattle.jh_edit.specs.Trees.{IsAsWanted, Stands}
use Rattle.jh_board.specs.declared.leaves.TableLeaf.{TableLeaf}
use Rattle.jh_board.specs.Leaves.{leaves_of_all, cell_leaves, leaves_from, leaves_wanted}
use Rattle.jh_board.specs.Means.{IsStageOf}
use Rattle.jh_board.specs.Tables.{claims_in, told_leaf, told_leaves, told_place}
use Rattle.jh_board.proofs.ClaimLemmas.{plain_apart}
use Rattle.jh_board.proofs.SeatsLemmas.{taken_within}
use Rattle.jh_board.proofs.StagedLemmas.{of_cell, root_claimed, root_first, seat_page}

-- ---- leaves of slots, one after another

before_same : (f g : ℕ → List LeafAt) (n : ℕ) → ((i : ℕ) → i < n → f i ≡ g i) → leaves_before f n ≡ leaves_before g n
before_same f g zero same = refl
before_same f g (suc n) same =
    ap (λ (l : List LeafAt). l ++ f n) (before_same f g n (λ i lt. same i (omega arith))) ∙ ap (λ (l : List LeafAt). leaves_before g n ++ l) (same n (omega arith))

before_mapped : (t : LeafAt → LeafAt) (f : ℕ → List LeafAt) (n : ℕ) → map t (leaves_before f n) ≡ leaves_before (λ i. map t (f i)) n
before_mapped t f zero = refl
before_mapped t f (suc n) = map-append t (leaves_before f n) (f n) ∙ ap (λ (l : List LeafAt). l ++ map t (f n)) (before_mapped t f n)

-- ---- tables that stand have the leaves that are wanted

slot_stands : (want : Wants) (word : ℕ → ℕ) (n level start : ℕ) (w : Want) (d : Descriptor) → ((next : ℕ) → Stands want word n next start → leaves_of word n next start ≡ leaves_wanted want n start)
    → IsAsWanted (λ next. Stands want word n next start) w d → leaves_on (λ next. leaves_of word n next start) level start d ≡ leaves_from (leaves_wanted want n start) level start w
slot_stands want word n level start Nothing d more is = ap (leaves_on (λ next. leaves_of word n next start) level start) is
slot_stands want word n level start WantTable d more is = ap (leaves_on (λ next. leaves_of word n next start) level start) is.1.0 ∙ more is.0 is.1.1
slot_stands want word n level start (WantLeaf out rights device) d more is = ap (leaves_on (λ next. leaves_of word n next start) level start) is

pub leaves_stand : (want : Wants) (word : ℕ → ℕ) (n table start : ℕ) → Stands want word n table start → leaves_of word n table start ≡ leaves_wanted want n start
unfolding leaves_of leaves_wanted Stands
leaves_stand want word zero table start stands = refl
leaves_stand want word (suc n) table start stands =
    before_same
    (λ slot. leaves_on (λ next. leaves_of word n next (slot_start (LAST_LEVEL - n) start slot)) (LAST_LEVEL - n) (slot_start (LAST_LEVEL - n) start slot) (read_of (word (table + 8 * slot)) (LAST_LEVEL - n)))
    (λ slot. leaves_from (leaves_wanted want n (slot_start (LAST_LEVEL - n) start slot)) (LAST_LEVEL - n) (slot_start (LAST_LEVEL - n) start slot) (want (LAST_LEVEL - n) (slot_start (LAST_LEVEL - n) start slot)))
    512 (λ slot below.
    let begin = slot_start (LAST_LEVEL - n) start slot in
    slot_stands want word n (LAST_LEVEL - n) begin (want (LAST_LEVEL - n) begin) (read_of (word (table + 8 * slot)) (LAST_LEVEL - n)) (λ next s. leaves_stand want word n next begin s) (stands slot below))

-- ---- the place of a communication page isn't told

abbrev pub hidden : ℕ → LeafAt → LeafAt
hidden comm leaf = record { level = leaf.level; at = leaf.at; out = told_place (Some comm) leaf.out; rights = leaf.rights; device = leaf.device }

abbrev pub hidden_want : ℕ → Want → Want
hidden_want comm Nothing = Nothing
hidden_want comm WantTable = WantTable
hidden_want comm (WantLeaf out rights device) = WantLeaf (told_place (Some comm) out) rights device

slot_hidden : (comm : ℕ) (below below' : List LeafAt) (level start : ℕ) (w : Want) → map (hidden comm) below ≡ below' → map (hidden comm) (leaves_from below level start w) ≡ leaves_from below' level start (hidden_want comm w)
slot_hidden comm below below' level start Nothing same = refl
slot_hidden comm below below' level start WantTable same = same
slot_hidden comm below below' level start (WantLeaf out rights device) same = refl

leaves_hidden : (comm : ℕ) (want other : Wants) (n start : ℕ) → ((level at : ℕ) → hidden_want comm (want level at) ≡ other level at) → map (hidden comm) (leaves_wanted want n start) ≡ leaves_wanted other n start
unfolding leaves_wanted
leaves_hidden comm want other zero start same = refl
leaves_hidden comm want other (suc n) start same =
    let f : ℕ → List LeafAt = λ slot. leaves_from (leaves_wanted want n (slot_start (LAST_LEVEL - n) start slot)) (LAST_LEVEL - n) (slot_start (LAST_LEVEL - n) start slot) (want (LAST_LEVEL - n) (slot_start (LAST_LEVEL - n) start slot)) in
    before_mapped (hidden comm) f 512
    ∙ before_same (λ i. map (hidden comm) (f i))
    (λ slot. leaves_from (leaves_wanted other n (slot_start (LAST_LEVEL - n) start slot)) (LAST_LEVEL - n) (slot_start (LAST_LEVEL - n) start slot) (other (LAST_LEVEL - n) (slot_start (LAST_LEVEL - n) start slot)))
    512 (λ slot lt.
    let begin = slot_start (LAST_LEVEL - n) start slot in
    slot_hidden comm (leaves_wanted want n begin) (leaves_wanted other n begin) (LAST_LEVEL - n) begin (want (LAST_LEVEL - n) begin) (leaves_hidden comm want other n begin same)
    ∙ ap (leaves_from (leaves_wanted other n begin) (LAST_LEVEL - n) begin) (same (LAST_LEVEL - n) begin))

-- a region that makes a leaf has the address where it begins
leaf_address : (claims : Claims) (level start : ℕ) (region : Region) → is_leaf_by claims level start region ≡ true → has_address region start ≡ true
leaf_address claims level start region leaf =
    let some : 0 < slot_size level = pow_pos (39 - 9 * level) in
    let behind = (and_parts (is_mapped region) _ leaf).1 in
    let span = (and_parts (spans region.virt_start (virt_end region) start (slot_size level)) _ behind).0 in
    let ends = and_parts (nat_le region.virt_start start) (nat_le (start + slot_size level) (virt_end region)) span in
    let first = leb-true region.virt_start start ends.0 in
    let last = leb-true (start + slot_size level) (virt_end region) ends.1 in
    within_both region.virt_start (virt_end region) start first (omega arith)

-- ---- a cell's wants, wherever its communication page lies

out_told : (b : Bool) (comm place : ℕ) → (b ≡ false → place ≢ comm) → told_place (Some comm) (if b then comm else place) ≡ (if b then 0 else place)
out_told true comm place other = ap (λ (b : Bool). if b then 0 else comm) (eq-eqb comm comm refl)
out_told false comm place other = ap (λ (b : Bool). if b then 0 else place) (ne_eqb place comm (other refl))

without_told : (comm : ℕ) (met : Bool) → hidden_want comm (want_without_leaf met) ≡ want_without_leaf met
without_told comm true = refl
without_told comm false = refl

want_by : (system : SystemConfig) (configs : List CellConfig) (config : CellConfig) (comm level start : ℕ) (o : Option Region) → IsClean system configs → Contains configs config → has_place system.platform.hypervisor_memory comm ≡ true
    → leaf_region (cell_claims config) level start ≡ o → hidden_want comm (want_from (with_comm (cell_claims config) comm) level start o) ≡ want_from (cell_claims config) level start o
want_by system configs config comm level start None clean among own is = without_told comm (is_met (cell_claims config) level start)
want_by system configs config comm level start (Some region) clean among own is =
    let found = IsFound_from_find (λ (r : Region). is_leaf_by (cell_claims config) level start r) config.memory_regions region is in
    let has = leaf_address (cell_claims config) level start region found.passes in
    ap (λ (out : ℕ). WantLeaf out (rights_of region) (is_device region)) (out_told (is_comm region) comm (place_in region start) (λ plain same.
    plain_apart system configs config region start clean (Contains_tail system.root configs config among) found.among plain has (ap (has_place system.platform.hypervisor_memory) same ∙ own)))

want_told : (system : SystemConfig) (configs : List CellConfig) (config : CellConfig) (comm : ℕ) → IsClean system configs → Contains configs config → has_place system.platform.hypervisor_memory comm ≡ true
    → (level start : ℕ) → hidden_want comm (want_of (with_comm (cell_claims config) comm) level start) ≡ want_of (cell_claims config) level start
want_told system configs config comm clean among own level start =
    want_by system configs config comm level start (leaf_region (cell_claims config) level start) clean among own refl

-- ---- the leaves of a seat's cell

-- no two seats have one id, so the tables of a seat are those that its id finds
seat_tree : (image : Image) (lives : List Live) (stage : Stage2) (seat : Seat) → IsStageOf image lives stage → HasSeat stage seat → cell_tree seat.id stage.seats.items ≡ seat.tree
seat_tree image lives stage seat st sits =
    ap tree_in (find_unique (is_seat_of seat.id) stage.seats.items seat sits (eq-eqb seat.id seat.id refl) (λ other there is.
    one_of_pairs AreApart (λ (a b : Seat). a.id ≡ b.id) (λ a b apart same. apart.ids same) (λ a b same. sym same) stage.seats.items other seat st.forest.apart there sits (eqb-true other.id seat.id is)))

wanted_by : (image : Image) (lives : List Live) (stage : Stage2) (seat : Seat) (tree : Option Tree) → IsStageOf image lives stage → HasSeat stage seat → seat.tree ≡ tree → IsSome tree
    → leaves_in (words stage.frames) tree ≡ leaves_wanted (want_of (claims_in image lives seat)) levels 0
wanted_by image lives stage seat None st sits is some = absurd (false≢true some)
wanted_by image lives stage seat (Some tree) st sits is some =
    leaves_stand (want_of (claims_in image lives seat)) (words stage.frames) levels tree.table 0 (st.forest.stands seat tree sits is (ap (λ e. is_edited e seat) st.still))

seat_leaves : (image : Image) (lives : List Live) (stage : Stage2) (seat : Seat) → IsStageOf image lives stage → HasSeat stage seat
    → leaves_in (words stage.frames) (cell_tree seat.id stage.seats.items) ≡ leaves_wanted (want_of (claims_in image lives seat)) levels 0
seat_leaves image lives stage seat st sits =
    ap (leaves_in (words stage.frames)) (seat_tree image lives stage seat st sits)
    ∙ wanted_by image lives stage seat seat.tree st sits refl (st.forest.trees seat sits (ap (λ e. is_edited e seat) st.still))

-- a leaf as it is told of the cell with the id and the communication page
abbrev pub told_of : ℕ → Option ℕ → LeafAt → TableLeaf
told_of id comm leaf = record { cell = id; leaf = record { level = leaf.level; at = leaf.at; out = told_place comm leaf.out; rights = leaf.rights; device = leaf.device } }

root_told : (image : Image) (lives : List Live) (stage : Stage2) (seat : Seat) → IsStageOf image lives stage → HasSeat stage seat → is_root seat ≡ true → (comm : Option ℕ) → seat.comm ≡ comm
    → told_leaves stage seat ≡ cell_leaves image.system.root.id (live_root_claims image.system.root.memory_regions lives)
root_told image lives stage seat st sits root (Some comm) is = absurd (both_ways (not (is_some seat.comm)) (ap (λ (c : Option ℕ). not (is_some c)) is) root)
root_told image lives stage seat st sits root None is =
    let named : seat.id ≡ image.system.root.id = eqb-true seat.id image.system.root.id (sym (st.comms seat sits) ∙ root) in
    let claims : claims_in image lives seat ≡ live_root_claims image.system.root.memory_regions lives = root_claimed image lives seat root in
    ap (map (told_leaf seat)) (seat_leaves image lives stage seat st sits ∙ ap (λ (c : Claims). leaves_wanted (want_of c) levels 0) claims)
    ∙ ap (λ (c : Option ℕ). map (told_of seat.id c) (leaves_wanted (want_of (live_root_claims image.system.root.memory_regions lives)) levels 0)) is
    ∙ ap (λ (id : ℕ). map (told_of id None) (leaves_wanted (want_of (live_root_claims image.system.root.memory_regions lives)) levels 0)) named

cell_told : (image : Image) (lives : List Live) (stage : Stage2) (seat : Seat) (live : Live) → AreSoundCells image.system (configs_of lives) → IsStageOf image lives stage → HasSeat stage seat → Contains lives live → seat.id ≡ id_of live
    → is_root seat ≡ false → (comm : Option ℕ) → seat.comm ≡ comm → told_leaves stage seat ≡ cell_leaves (id_of live) (cell_claims live.config)
cell_told image lives stage seat live sound st sits among named cell None is = absurd (both_ways (not (is_some seat.comm)) cell (ap (λ (c : Option ℕ). not (is_some c)) is))
cell_told image lives stage seat live sound st sits among named cell (Some comm) is =
    let config = live.config in
    let claims : claims_in image lives seat ≡ with_comm (cell_claims config) comm = of_cell image lives seat live comm sound among named is in
    let xs : List LeafAt = leaves_wanted (want_of (with_comm (cell_claims config) comm)) levels 0 in
    let page = taken_within stage comm st.forest.inside (seat_page (claims_in image lives) stage st.forest st.still seat comm sits is) in
    let base = st.inside.base in
    let size = st.inside.size in
    let above = page.above in
    let below = page.below in
    let own : has_place image.system.platform.hypervisor_memory comm ≡ true =
    within_both image.system.platform.hypervisor_memory.phys_start (phys_end image.system.platform.hypervisor_memory) comm (omega arith) (omega arith) in
    ap (map (told_leaf seat)) (seat_leaves image lives stage seat st sits ∙ ap (λ (c : Claims). leaves_wanted (want_of c) levels 0) claims)
    ∙ ap (λ (c : Option ℕ). map (told_of seat.id c) xs) is
    ∙ ap (λ (id : ℕ). map (told_of id (Some comm)) xs) named
    ∙ sym (map-map (λ (leaf : LeafAt). record { cell = id_of live; leaf = leaf }) (hidden comm) xs)
    ∙ ap (map (λ (leaf : LeafAt). record { cell = id_of live; leaf = leaf }))
    (leaves_hidden comm (want_of (with_comm (cell_claims config) comm)) (want_of (cell_claims config)) levels 0
    (want_told image.system (configs_of lives) config comm sound.clean (Contains_map (λ (l : Live). l.config) lives live among) own))

-- ---- all cells

record TellsFor (lives : List Live) (stage : Stage2) (seats : List Seat) (cells : List Live) : Type 0 where
  ids : map (λ (s : Seat). s.id) seats ≡ map id_of cells
  among : (live : Live) → Contains cells live → Contains lives live
  sits : (seat : Seat) → Contains seats seat → HasSeat stage seat
  others : (seat : Seat) → Contains seats seat → is_root seat ≡ false

cells_told : (image : Image) (lives : List Live) (stage : Stage2) (seats : List Seat) (cells : List Live) → AreSoundCells image.system (configs_of lives) → IsStageOf image lives stage → TellsFor lives stage seats cells
    → flat_map (told_leaves stage) seats ≡ flat_map (λ (live : Live). cell_leaves (id_of live) (cell_claims live.config)) cells
cells_told image lives stage [] [] sound st tell = refl
cells_told image lives stage [] (live ∷ cells) sound st tell = absurd (none-some (id_of live) (ap (λ (l : List ℕ). slice_get l 0) tell.ids))
cells_told image lives stage (seat ∷ seats) [] sound st tell = absurd (none-some seat.id (sym (ap (λ (l : List ℕ). slice_get l 0) tell.ids)))
cells_told image lives stage (seat ∷ seats) (live ∷ cells) sound st tell =
    let told : Live → List TableLeaf = λ l. cell_leaves (id_of l) (cell_claims l.config) in
    let first : seat.id ≡ id_of live = ap (λ (l : List ℕ). get_or l 0 0) tell.ids in
    flat_map-cons (told_leaves stage) seat seats
    ∙ ap (λ (l : List TableLeaf). l ++ flat_map (told_leaves stage) seats)
    (cell_told image lives stage seat live sound st (tell.sits seat (Contains_head seat seats)) (tell.among live (Contains_head live cells)) first (tell.others seat (Contains_head seat seats)) seat.comm refl)
    ∙ ap (λ (l : List TableLeaf). told live ++ l) (cells_told image lives stage seats cells sound st (record {
      ids = ap (drop 1) tell.ids;
      among = λ l there. tell.among l (Contains_tail live cells l there);
      sits = λ s there. tell.sits s (Contains_tail seat seats s there);
      others = λ s there. tell.others s (Contains_tail seat seats s there);
    }))
    ∙ sym (flat_map-cons told live cells)

pub told_wanted : (image : Image) (lives : List Live) (stage : Stage2) → AreSoundCells image.system (configs_of lives) → IsStageOf image lives stage → flat_map (told_leaves stage) stage.seats.items ≡ leaves_of_all image lives
told_wanted image lives stage sound st =
    let first = root_first image lives stage st in
    ap (flat_map (told_leaves stage)) first.all
    ∙ flat_map-cons (told_leaves stage) first.seat first.rest
    ∙ ap (λ (l : List TableLeaf). l ++ flat_map (told_leaves stage) first.rest) (root_told image lives stage first.seat st first.sits first.root first.seat.comm refl)
    ∙ ap (λ (l : List TableLeaf). cell_leaves image.system.root.id (live_root_claims image.system.root.memory_regions lives) ++ l)
    (cells_told image lives stage first.rest lives sound st (record {
      ids = first.ids;
      among = λ l there. there;
      sits = λ s there. subst (λ (l : List Seat). Contains l s) (sym first.all) (Contains_tail first.seat first.rest s there);
      others = first.others;
    }))
