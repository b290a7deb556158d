-- What live cells are granted on a sound board.
use Rattle.std.proofs.Common.{◌≡◌, ◌≢◌, ℕ, suc, ◌+◌, ◌-◌, ◌<◌, ◌≤◌, List, [], Bool, true, false, cond, eqb, length, get_or, map, Option, Some, None, refl, sym, ap, subst, ◌∙◌, inl, inr, ⊎_elim, arith, ◌&&◌}
use Rattle.std.specs.Prelude.{Contains, find, option_map, option_and_then, slice_get}
use Rattle.std.specs.Option.{option_map_or}
use Rattle.std.proofs.lemmas.Bool.{both_ways, and_parts, and_from, eqb-true, eq-eqb, ne_eqb, cases_lt, false_from_ne_true}
use Rattle.std.proofs.lemmas.Option.{none-some, same_Some, slice_get-get_or, get_or_from_slice_get}
use Rattle.jh_num.specs.declared.address.TheConstants.{ADDRESS_END}
use Rattle.jh_num.proofs.Public.{IsFound_from_find, find_some, Contains_from_map}
use Rattle.jh_cellcfg.specs.declared.config.CellConfig.{CellConfig}
use Rattle.jh_cellcfg.specs.declared.config.SystemConfig.{SystemConfig}
use Rattle.jh_cellcfg.specs.declared.live.Live.{Live}
use Rattle.jh_cellcfg.specs.declared.region.Region.{Region}
use Rattle.jh_cellcfg.specs.Lives.{has_id}
use Rattle.jh_cellcfg.specs.Regions.{has_flags, has_address, virt_end, is_comm, is_page_mapped}
use Rattle.jh_cellcfg.proofs.Public.{has_address_first, has_address_last, has_address_from}
use Rattle.jh_check.specs.Laws.{IsNumbered}
use Rattle.jh_check.specs.Refusals.{AreTwo}
use Rattle.jh_shape.specs.Laws.{IsTaken}
use Rattle.jh_shape.specs.Shapes.{is_closed, holder_of_live}
use Rattle.jh_shape.proofs.Public.{taken_there, taken_back}
use Rattle.jh_script.specs.declared.image.Image.{Image}
use Rattle.jh_history.specs.declared.place.Place.{Place}
use Rattle.jh_history.specs.declared.place.Place.TheVariants.{Physical, Page}
use Rattle.jh_history.specs.declared.access.Access.{Access}
use Rattle.jh_history.specs.declared.access.Access.TheVariants.{Read as ToRead, Write as ToWrite, Fetch as ToFetch}
use Rattle.jh_history.specs.Access.{gives, right_of, region_of, place_in_cell, place_of}
use Rattle.jh_history.specs.Facts.{Facts}
use Rattle.jh_history.specs.Lives.{cell_in, live_in, regions_in}
use Rattle.jh_history.specs.Grants.{is_closed_to, unless, granted_by, granted_in, granted}
use Rattle.jh_shape.specs.Lives.{configs_of}
use Rattle.jh_history.specs.Sound.{AreSoundCells}
use Rattle.jh_laws.specs.Grants.{may, IsGiven}
use Rattle.jh_laws.specs.Held.{IsRootOrLive, IsLeft, IsGrantedTo}
use Rattle.jh_laws.proofs.FindLemmas.{IsOnly, find_only}
use Rattle.jh_history.proofs.Public.{other_root, found_live, two_ids, gives_has, gives_from}

-- ---- live cells by their ids

pub at_same : (xs : List CellConfig) (i : ℕ) (a b : CellConfig) → i < length xs → get_or xs i a ≡ a → get_or xs i b ≡ b → a ≡ b
at_same xs i a b lt is_a is_b = sym is_a ∙ get_or_from_slice_get xs i (get_or xs i b) a (slice_get-get_or xs i b lt) ∙ is_b

apart_at : (system : SystemConfig) (configs : List CellConfig) (j k : ℕ) (a b : CellConfig) → AreSoundCells system configs → j < k → k < length configs → get_or configs j a ≡ a → get_or configs k b ≡ b → a.id ≢ b.id
apart_at system configs j k a b sound lt within is_a is_b =
    let two : AreTwo (get_or configs j a) (get_or configs k a) = sound.differ (suc j) (suc k) a (omega arith) (omega arith) in
    let there : get_or configs k a ≡ b = get_or_from_slice_get configs k (get_or configs k b) a (slice_get-get_or configs k b within) ∙ is_b in
    let P : CellConfig → Type 0 = λ c. AreTwo c (get_or configs k a) in
    let Q : CellConfig → Type 0 = λ c. AreTwo a c in
    two_ids a b (subst Q there (subst P is_a two))

pub same_id : (system : SystemConfig) (configs : List CellConfig) (a b : CellConfig) → AreSoundCells system configs → Contains configs a → Contains configs b → a.id ≡ b.id → a ≡ b
same_id system configs a b sound (j, j_lt, is_a) (k, k_lt, is_b) same =
    ⊎_elim
    (λ (lt : j < k). absurd (apart_at system configs j k a b sound lt k_lt is_a is_b same))
    (λ (le : k ≤ j).
    ⊎_elim
    (λ (lt : k < j). absurd (apart_at system configs k j b a sound lt j_lt is_b is_a (sym same)))
    (λ (ge : j ≤ k).
    let e : k ≡ j = omega arith in
    let P : ℕ → Type 0 = λ n. get_or configs n b ≡ b in
    at_same configs j a b j_lt is_a (subst P e is_b))
    (cases_lt k j))
    (cases_lt j k)

-- a cell that lives is found by its id
pub found_by_id : (image : Image) (cells : List Live) (cell : CellConfig) → AreSoundCells image.system (configs_of cells) → Contains (configs_of cells) cell → live_in cells cell.id ≡ Some cell
found_by_id image cells cell sound held =
    let live = Contains_from_map (λ (l : Live). l.config) cells cell held in
    let some = find_some (has_id cell.id) cells live.0 live.1 (eq-eqb live.0.config.id cell.id (ap (λ (c : CellConfig). c.id) live.2)) in
    let found = found_live cells cell.id some.0 some.1 in
    ap (option_map (λ (l : Live). l.config)) some.1 ∙ ap Some (same_id image.system (configs_of cells) some.0.config cell sound found.0 held found.1)

pub live_cell : (image : Image) (cells : List Live) (cell : CellConfig) → AreSoundCells image.system (configs_of cells) → IsRootOrLive image cells cell → cell_in image cells cell.id ≡ Some cell
live_cell image cells cell sound live =
    ⊎_elim
    (λ (is : cell ≡ image.system.root).
    let root : eqb cell.id image.system.root.id ≡ true = eq-eqb cell.id image.system.root.id (ap (λ (c : CellConfig). c.id) is) in
    let e : cell_in image cells cell.id ≡ Some image.system.root = rw root refl in
    e ∙ ap Some (sym is))
    (λ (held : Contains (configs_of cells) cell).
    let other : eqb cell.id image.system.root.id ≡ false = ne_eqb cell.id image.system.root.id (other_root image.system (configs_of cells) cell sound held) in
    let e : cell_in image cells cell.id ≡ live_in cells cell.id = rw other refl in
    e ∙ found_by_id image cells cell sound held)
    live

-- the configuration of the cell that is found by an id
pub live_found : (cells : List Live) (id : ℕ) (o : Option Live) (cell : CellConfig) → find (has_id id) cells ≡ o → option_map (λ (l : Live). l.config) o ≡ Some cell → Contains (configs_of cells) cell × (cell.id ≡ id)
live_found cells id None cell is h = absurd (none-some cell h)
live_found cells id (Some live) cell is h =
    let P : CellConfig → Type 0 = λ c. Contains (configs_of cells) c × (c.id ≡ id) in
    subst P (same_Some live.config cell h) (found_live cells id live is)

cell_by : (image : Image) (cells : List Live) (id : ℕ) (cell : CellConfig) (b : Bool) → eqb id image.system.root.id ≡ b → cond b (Some image.system.root) (live_in cells id) ≡ Some cell → IsRootOrLive image cells cell × (cell.id ≡ id)
cell_by image cells id cell true is h =
    let e : image.system.root ≡ cell = same_Some image.system.root cell h in
    (inl (sym e), sym (ap (λ (c : CellConfig). c.id) e) ∙ sym (eqb-true id image.system.root.id is))
cell_by image cells id cell false is h = let found = live_found cells id (find (has_id id) cells) cell refl h in (inr found.0, found.1)

pub cell_live : (image : Image) (cells : List Live) (id : ℕ) (cell : CellConfig) → cell_in image cells id ≡ Some cell → IsRootOrLive image cells cell × (cell.id ≡ id)
cell_live image cells id cell h = cell_by image cells id cell (eqb id image.system.root.id) refl h

-- ---- regions of a live cell

-- the number of a live cell
pub number_of_holds : (image : Image) (cells : List Live) (cell : CellConfig) → IsRootOrLive image cells cell → (a : ℕ) × IsNumbered image.system (configs_of cells) a cell
number_of_holds image cells cell live =
    ⊎_elim
    (λ (is : cell ≡ image.system.root). (0, ap Some (sym is)))
    (λ (held : Contains (configs_of cells) cell). (suc held.0, slice_get-get_or (configs_of cells) held.0 cell held.1 ∙ ap Some held.2))
    live

-- at most one of its regions gives an address
only_region : (image : Image) (cells : List Live) (cell : CellConfig) (access : Access) (at : ℕ) → AreSoundCells image.system (configs_of cells) → IsRootOrLive image cells cell → IsOnly (gives access at) cell.memory_regions
only_region image cells cell access at sound live j k d lt within at_j at_k =
    let number = number_of_holds image cells cell live in
    let regions : List Region = cell.memory_regions in
    let same : j ≡ k = sound.clean.addresses number.0 cell number.1 j k (get_or regions j d) (get_or regions k d)
    (slice_get-get_or regions j d (omega arith)) (slice_get-get_or regions k d within) at
    (gives_has access at (get_or regions j d) at_j) (gives_has access at (get_or regions k d) at_k) in
    omega arith

-- a region that has an address ends within the addresses
region_within : (image : Image) (cells : List Live) (cell : CellConfig) (r : Region) (at : ℕ) → AreSoundCells image.system (configs_of cells) → IsRootOrLive image cells cell → Contains cell.memory_regions r → has_address r at ≡ true → virt_end r ≤ ADDRESS_END
region_within image cells cell r at sound live held has =
    let number = number_of_holds image cells cell live in
    let first : r.virt_start ≤ at = has_address_first r at has in
    let last : at < virt_end r = has_address_last r at has in
    let some : 0 < r.size = omega arith in
    let item : slice_get cell.memory_regions held.0 ≡ Some r = slice_get-get_or cell.memory_regions held.0 r held.1 ∙ ap Some held.2 in
    (sound.clean.within number.0 cell number.1 held.0 r item some).virt

may_right : (access : Access) (r : Region) → may access r ≡ has_flags (right_of access) r
may_right ToRead r = refl
may_right ToWrite r = refl
may_right ToFetch r = refl

-- a region that gives an address gives whole pages, and has the right
gives_pages : (access : Access) (at : ℕ) (r : Region) → gives access at r ≡ true → is_page_mapped r ≡ true
gives_pages access at r h = (and_parts (has_address r at) (is_page_mapped r) (and_parts (has_address r at && is_page_mapped r) (has_flags (right_of access) r) h).0).1

gives_right : (access : Access) (at : ℕ) (r : Region) → gives access at r ≡ true → has_flags (right_of access) r ≡ true
gives_right access at r h = (and_parts (has_address r at && is_page_mapped r) (has_flags (right_of access) r) h).1

-- what the cell's regions give an address
pub given_place : (image : Image) (cells : List Live) (cell : CellConfig) (access : Access) (at : ℕ) (place : Place) → AreSoundCells image.system (configs_of cells) → IsRootOrLive image cells cell → IsGiven cell access at place
    → place_of cell.id cell.memory_regions access at ≡ Some place
unfolding place_of
given_place image cells cell access at place sound live given =
    let r = given.region in
    let i = given.among.0 in
    let regions : List Region = cell.memory_regions in
    let same : get_or regions i r ≡ r = given.among.2 in
    let has : has_address r at ≡ true = has_address_from r at given.first given.last in
    let there : gives access at (get_or regions i r) ≡ true = ap (gives access at) same ∙ gives_from access at r has given.pages (sym (may_right access r) ∙ given.right) in
    let found : find (gives access at) regions ≡ Some r = find_only (gives access at) regions i r given.among.1 there (only_region image cells cell access at sound live) ∙ ap Some same in
    ap (option_map (λ (s : Region). place_in_cell cell.id s at)) found ∙ ap Some (sym given.given)

place_by : (image : Image) (cells : List Live) (cell : CellConfig) (access : Access) (at : ℕ) (place : Place) (o : Option Region) → AreSoundCells image.system (configs_of cells) → IsRootOrLive image cells cell → region_of cell.memory_regions access at ≡ o
    → option_map (λ (s : Region). place_in_cell cell.id s at) o ≡ Some place → IsGiven cell access at place
place_by image cells cell access at place None sound live is e = absurd (none-some place e)
place_by image cells cell access at place (Some r) sound live is e =
    let found = IsFound_from_find (gives access at) cell.memory_regions r is in
    let has : has_address r at ≡ true = gives_has access at r found.passes in
    let within : virt_end r ≤ ADDRESS_END = region_within image cells cell r at sound live found.among has in
    let last : at < virt_end r = has_address_last r at has in
    record {
      below = omega arith;
      region = r;
      among = found.among;
      pages = gives_pages access at r found.passes;
      right = may_right access r ∙ gives_right access at r found.passes;
      first = has_address_first r at has;
      last = last;
      given = sym (same_Some (place_in_cell cell.id r at) place e);
    }

pub place_given : (image : Image) (cells : List Live) (cell : CellConfig) (access : Access) (at : ℕ) (place : Place) → AreSoundCells image.system (configs_of cells) → IsRootOrLive image cells cell → place_of cell.id cell.memory_regions access at ≡ Some place
    → IsGiven cell access at place
unfolding place_of
place_given image cells cell access at place sound live e = place_by image cells cell access at place (region_of cell.memory_regions access at) sound live refl e

-- ---- what is left to it

pub left_free : (image : Image) (cells : List Live) (cell : CellConfig) (place : Place) → IsLeft image cells cell place → is_closed_to image cells cell.id place ≡ false
left_free image cells cell (Page id offset) left = refl
left_free image cells cell (Physical p) left =
    false_from_ne_true (is_closed_to image cells cell.id (Physical p))
    (λ kept.
    let parts = and_parts (eqb cell.id image.system.root.id) (is_closed (map holder_of_live cells) p) kept in
    left (eqb-true cell.id image.system.root.id parts.0) (taken_there cells p parts.1))

pub free_left : (image : Image) (cells : List Live) (cell : CellConfig) (place : Place) → is_closed_to image cells cell.id place ≡ false → IsLeft image cells cell place
free_left image cells cell (Page id offset) free = tt
free_left image cells cell (Physical p) free = λ root taken.
    both_ways (is_closed_to image cells cell.id (Physical p)) free
    (and_from (eqb cell.id image.system.root.id) (is_closed (map holder_of_live cells) p) (eq-eqb cell.id image.system.root.id root) (taken_back cells p taken))

-- ---- what is granted

pub regions_of_live : (image : Image) (cells : List Live) (cell : CellConfig) → AreSoundCells image.system (configs_of cells) → IsRootOrLive image cells cell → regions_in image cells cell.id ≡ cell.memory_regions
regions_of_live image cells cell sound live = ap (λ (o : Option CellConfig). option_map_or (λ (c : CellConfig). c.memory_regions) o []) (live_cell image cells cell sound live)

granted_live : (image : Image) (cells : List Live) (cell : CellConfig) (access : Access) (at : ℕ) (place : Place) → AreSoundCells image.system (configs_of cells) → IsRootOrLive image cells cell → IsGiven cell access at place → IsLeft image cells cell place
    → granted_in image cells cell.id access at ≡ Some place
granted_live image cells cell access at place sound live given left =
    let free : is_closed_to image cells cell.id place ≡ false = left_free image cells cell place left in
    ap (λ (rs : List Region). granted_by cell.id rs (is_closed_to image cells cell.id) access at) (regions_of_live image cells cell sound live)
    ∙ ap (option_and_then (unless (is_closed_to image cells cell.id))) (given_place image cells cell access at place sound live given)
    ∙ ap (λ (b : Bool). cond b None (Some place)) free

-- what the cell is granted is granted to it by the definition
pub granted_to : (image : Image) (f : Facts) (id : ℕ) (access : Access) (at : ℕ) (place : Place) → AreSoundCells image.system (configs_of f.cells) → IsGrantedTo image f.cells id access at place → granted image f id access at ≡ Some place
granted_to image f id access at place sound h =
    let P : ℕ → Type 0 = λ k. granted_in image f.cells k access at ≡ Some place in
    subst P h.named (granted_live image f.cells h.cell access at place sound h.live h.given h.left)

unless_some : (kept : Place → Bool) (p place : Place) → unless kept p ≡ Some place → (p ≡ place) × (kept place ≡ false)
unless_some kept p place h =
    let e = unless_by (kept p) refl h in
    let P : Place → Type 0 = λ q. kept q ≡ false in
    (e.0, subst P e.0 e.1)
  where
    unless_by : (b : Bool) → kept p ≡ b → cond b None (Some p) ≡ Some place → (p ≡ place) × (kept p ≡ false)
    unless_by true is e = absurd (none-some place e)
    unless_by false is e = (same_Some p place e, is)

granted_at : (image : Image) (cells : List Live) (cell : CellConfig) (access : Access) (at : ℕ) (place : Place) (o : Option Place) → AreSoundCells image.system (configs_of cells) → IsRootOrLive image cells cell → place_of cell.id cell.memory_regions access at ≡ o
    → option_and_then (unless (is_closed_to image cells cell.id)) o ≡ Some place → IsGrantedTo image cells cell.id access at place
granted_at image cells cell access at place None sound live is h = absurd (none-some place h)
granted_at image cells cell access at place (Some p) sound live is h =
    let same = unless_some (is_closed_to image cells cell.id) p place h in
    record {
      cell = cell;
      live = live;
      named = refl;
      given = place_given image cells cell access at place sound live (is ∙ ap Some same.0);
      left = free_left image cells cell place same.1;
    }

no_regions : (id : ℕ) (access : Access) (at : ℕ) → place_of id [] access at ≡ None
unfolding place_of
no_regions id access at = refl

to_granted : (image : Image) (cells : List Live) (id : ℕ) (access : Access) (at : ℕ) (place : Place) (o : Option CellConfig) → AreSoundCells image.system (configs_of cells) → cell_in image cells id ≡ o
    → granted_by id (option_map_or (λ (c : CellConfig). c.memory_regions) o []) (is_closed_to image cells id) access at ≡ Some place → IsGrantedTo image cells id access at place
to_granted image cells id access at place None sound is h =
    absurd (none-some place (sym (ap (option_and_then (unless (is_closed_to image cells id))) (no_regions id access at)) ∙ h))
to_granted image cells id access at place (Some cell) sound is h =
    let live = cell_live image cells id cell is in
    let P : ℕ → Type 0 = λ k. granted_by k cell.memory_regions (is_closed_to image cells k) access at ≡ Some place → IsGrantedTo image cells k access at place in
    subst P live.1 (granted_at image cells cell access at place (place_of cell.id cell.memory_regions access at) sound live.0 refl) h

pub to_granted_holds : (image : Image) (f : Facts) (id : ℕ) (access : Access) (at : ℕ) (place : Place) → AreSoundCells image.system (configs_of f.cells) → granted image f id access at ≡ Some place → IsGrantedTo image f.cells id access at place
to_granted_holds image f id access at place sound h = to_granted image f.cells id access at place (cell_in image f.cells id) sound refl h

-- ---- root

-- what root is granted is the place of its address
pub root_address : (image : Image) (cells : List Live) (access : Access) (at : ℕ) (place : Place) → AreSoundCells image.system (configs_of cells) → IsGiven image.system.root access at place → place ≡ Physical at
root_address image cells access at place sound given =
    let r = given.region in
    let held : Contains image.system.root.memory_regions r = given.among in
    let item : slice_get image.system.root.memory_regions held.0 ≡ Some r = slice_get-get_or image.system.root.memory_regions held.0 r held.1 ∙ ap Some held.2 in
    let first : r.virt_start ≤ at = given.first in
    let last : at < r.virt_start + r.size = given.last in
    let some : 0 < r.size = omega arith in
    let identity : r.phys_start ≡ r.virt_start = sound.clean.identity held.0 r item some in
    let memory : is_comm r ≡ false = sound.clean.no_comm held.0 r item some in
    let same : r.phys_start + (at - r.virt_start) ≡ at = omega arith in
    given.given ∙ ap (λ (b : Bool). cond b (Page image.system.root.id (at - r.virt_start)) (Physical (r.phys_start + (at - r.virt_start)))) memory ∙ ap Physical same

-- it is granted what its regions give, but for what another cell holds
pub root_rest : (image : Image) (cells : List Live) (access : Access) (at : ℕ) (place : Place) → AreSoundCells image.system (configs_of cells) → IsGrantedTo image cells image.system.root.id access at place
    → IsGiven image.system.root access at place × (IsTaken cells at → ⊥) × (place ≡ Physical at)
root_rest image cells access at place sound h =
    let same : h.cell ≡ image.system.root = ⊎_elim (λ (is : h.cell ≡ image.system.root). is) (λ (held : Contains (configs_of cells) h.cell). absurd (other_root image.system (configs_of cells) h.cell sound held h.named)) h.live in
    let P : CellConfig → Type 0 = λ c. IsGiven c access at place in
    let given : IsGiven image.system.root access at place = subst P same h.given in
    let address : place ≡ Physical at = root_address image cells access at place sound given in
    let Q : Place → Type 0 = IsLeft image cells h.cell in
    let left : IsLeft image cells h.cell (Physical at) = subst Q address h.left in
    (given, left h.named, address)

pub rest_root : (image : Image) (cells : List Live) (access : Access) (at : ℕ) → AreSoundCells image.system (configs_of cells) → IsGiven image.system.root access at (Physical at) → (IsTaken cells at → ⊥) → IsGrantedTo image cells image.system.root.id access at (Physical at)
rest_root image cells access at sound given free = record { cell = image.system.root; live = inl refl; named = refl; given = given; left = λ _. free }

-- another cell is granted what its regions give
pub other_granted : (image : Image) (cells : List Live) (cell : CellConfig) (access : Access) (at : ℕ) (place : Place) → AreSoundCells image.system (configs_of cells) → Contains (configs_of cells) cell → IsGiven cell access at place
    → IsGrantedTo image cells cell.id access at place
other_granted image cells cell access at place sound held given = record { cell = cell; live = inr held; named = refl; given = given; left = left_by place }
  where
    left_by : (p : Place) → IsLeft image cells cell p
    left_by (Physical p) = λ is _. other_root image.system (configs_of cells) cell sound held is
    left_by (Page id offset) = tt

pub granted_other : (image : Image) (cells : List Live) (cell : CellConfig) (access : Access) (at : ℕ) (place : Place) → AreSoundCells image.system (configs_of cells) → Contains (configs_of cells) cell → IsGrantedTo image cells cell.id access at place
    → IsGiven cell access at place
granted_other image cells cell access at place sound held h =
    let P : CellConfig → Type 0 = λ c. IsGiven c access at place in
    let same : h.cell ≡ cell =
    ⊎_elim
    (λ (is : h.cell ≡ image.system.root). absurd (other_root image.system (configs_of cells) cell sound held (sym h.named ∙ ap (λ (c : CellConfig). c.id) is)))
    (λ (there : Contains (configs_of cells) h.cell). same_id image.system (configs_of cells) h.cell cell sound there held h.named)
    h.live in
    subst P same h.given
