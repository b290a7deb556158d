-- The regions of live cells, and what a map tells of grants.
use Rattle.std.proofs.Common.{◌≡◌, ℕ, ◌+◌, ◌-◌, leb, ltb, Bool, true, false, cond, ◌&&◌, ◌||◌, not, eqb, List, [], get_or, map, Option, Some, None, Result, refl, sym, ap, subst, ◌∙◌, ⊎_elim, arith}
use Rattle.std.specs.Prelude.{AllPairs, Contains, IfOk, find, option_map, option_and_then}
use Rattle.std.specs.Option.{option_map_or}
use Rattle.std.proofs.lemmas.Bool.{and_parts, and_from, and_left, eq-eqb, ne_eqb, cases_Bool, both_ways, false_from_ne_true, leb-true, ltb-true, le-leb, lt-ltb}
use Rattle.std.proofs.lemmas.Option.{slice_get-get_or}
use Rattle.std.proofs.lemmas.List.Elements.{All-contains}
use Rattle.jh_num.proofs.Public.{IsFound, IsFound_from_find, find_None, find_nothing, find_unique}
use Rattle.jh_num.specs.declared.no_memory.NoMemory.{NoMemory}
use Rattle.jh_num.specs.declared.range.Range.{Range}
use Rattle.jh_num.specs.Bytes.{has_byte}
use Rattle.jh_cellcfg.specs.declared.config.CellConfig.{CellConfig}
use Rattle.jh_cellcfg.specs.declared.live.Live.{Live}
use Rattle.jh_cellcfg.specs.declared.region.Region.{Region}
use Rattle.jh_cellcfg.specs.Regions.{has_address, has_flags, is_comm, is_page_mapped, place_in, byte_in, rights_of, SharesNoAddress, AreInRange}
use Rattle.jh_cellcfg.proofs.Public.{same_region}
use Rattle.jh_check.specs.Clean.{IsClean}
use Rattle.jh_check.specs.Laws.{IsNumbered}
use Rattle.jh_map.specs.declared.run.Run.{Run}
use Rattle.jh_map.specs.Maps.{is_granted, leads_to, IsIn, IsRunOf, IsRunIn, IsMap}
use Rattle.jh_map.proofs.Public.{granted_has}
use Rattle.jh_script.specs.declared.image.Image.{Image}
use Rattle.jh_history.specs.declared.access.Access.{Access}
use Rattle.jh_history.specs.declared.access.Access.TheVariants.{Read, Write, Fetch}
use Rattle.jh_history.specs.declared.place.Place.{Place}
use Rattle.jh_history.specs.declared.place.Place.TheVariants.{Physical, Page}
use Rattle.jh_history.specs.Access.{right_of, has_right, gives, place_in_cell, region_of, place_of}
use Rattle.jh_history.specs.Grants.{unless, granted_by}
use Rattle.jh_history.specs.Lives.{cell_in, regions_in}
use Rattle.jh_shape.specs.Lives.{configs_of}
use Rattle.jh_history.proofs.Public.{numbered_cell, gives_from}
use Rattle.jh_closed.specs.Closed.{is_closed_by}
use Rattle.jh_board.specs.Maps.{is_closed_at, is_mapped_at, place_of_run, grant_of_map}

-- ---- regions of live cells

-- a live cell has a number
numbered : (image : Image) (lives : List Live) (id : ℕ) (c : CellConfig) → cell_in image lives id ≡ Some c → (a : ℕ) × IsNumbered image.system (configs_of lives) a c
numbered image lives id c e = numbered_cell image lives id c (eqb id image.system.root.id) e

-- so its regions lie within addresses and places, and no two of them share an address
pub cell_within : (image : Image) (lives : List Live) (id : ℕ) (c : CellConfig) → IsClean image.system (configs_of lives) → cell_in image lives id ≡ Some c → AreInRange c.memory_regions
cell_within image lives id c clean e k d lt some =
    let a = numbered image lives id c e in
    clean.within a.0 c a.1 k (get_or c.memory_regions k d) (slice_get-get_or c.memory_regions k d lt) some

pub cell_apart : (image : Image) (lives : List Live) (id : ℕ) (c : CellConfig) → IsClean image.system (configs_of lives) → cell_in image lives id ≡ Some c → AllPairs SharesNoAddress c.memory_regions
cell_apart image lives id c clean e i j d lt jl at i_has j_has =
    let a = numbered image lives id c e in
    let same : i ≡ j = clean.addresses a.0 c a.1 i j (get_or c.memory_regions i d) (get_or c.memory_regions j d) (slice_get-get_or c.memory_regions i d (omega arith)) (slice_get-get_or c.memory_regions j d jl) at i_has j_has in
    absurd (omega arith)

apart_of : (o : Option CellConfig) → ((c : CellConfig) → o ≡ Some c → AllPairs SharesNoAddress c.memory_regions) → AllPairs SharesNoAddress (option_map_or (λ (x : CellConfig). x.memory_regions) o [])
apart_of None each = λ i j d lt jl. absurd (omega arith)
apart_of (Some c) each = each c refl

pub regions_apart : (image : Image) (lives : List Live) (id : ℕ) → IsClean image.system (configs_of lives) → AllPairs SharesNoAddress (regions_in image lives id)
regions_apart image lives id clean = apart_of (cell_in image lives id) (λ c e. cell_apart image lives id c clean e)

-- ---- what a map tells

-- the laws of maps: where an address leads, by the run that has it, and that no address is in two runs
abbrev pub RunsLead : Type 0
RunsLead = (closed : ℕ → Bool) (r : Region) (run : Run) (at : ℕ) → IsRunOf closed r run → IsIn run at → leads_to r at ≡ run.place + (at - run.start)

abbrev pub RunsAreSingle : Type 0
RunsAreSingle = (closed : ℕ → Bool) (regions : List Region) (runs : List Run) (one other : Run) (at : ℕ) → IsMap closed regions runs → Contains runs one → Contains runs other → IsIn one at → IsIn other at → one ≡ other

right_is : (access : Access) (r : Region) → has_right access (rights_of r) ≡ has_flags (right_of access) r
right_is Read r = refl
right_is Write r = refl
right_is Fetch r = refl

gives_parts : (access : Access) (at : ℕ) (r : Region) → gives access at r ≡ true → (has_address r at ≡ true) × (is_page_mapped r ≡ true) × (has_flags (right_of access) r ≡ true)
gives_parts access at r h =
    let outer = and_parts (has_address r at && is_page_mapped r) (has_flags (right_of access) r) h in
    let inner = and_parts (has_address r at) (is_page_mapped r) outer.0 in
    (inner.0, inner.1, outer.1)

told_in : (access : Access) (at : ℕ) (run : Run) → is_mapped_at access at run ≡ true → IsIn run at
told_in access at run h =
    let outer = and_parts (leb run.start at && ltb at run.end) (run.page && has_right access run.rights) h in
    let inner = and_parts (leb run.start at) (ltb at run.end) outer.0 in
    record { first = leb-true run.start at inner.0; last = ltb-true at run.end inner.1 }

told_from : (access : Access) (at : ℕ) (run : Run) → IsIn run at → run.page ≡ true → has_right access run.rights ≡ true → is_mapped_at access at run ≡ true
told_from access at run has page right =
    and_from (leb run.start at && ltb at run.end) (run.page && has_right access run.rights)
    (and_from (leb run.start at) (ltb at run.end) (le-leb run.start at has.first) (lt-ltb at run.end has.last))
    (and_from run.page (has_right access run.rights) page right)

-- a run that tells of the address is of a region that gives it
told_gives : (closed : ℕ → Bool) (access : Access) (at : ℕ) (r : Region) (run : Run) → IsRunOf closed r run → is_mapped_at access at run ≡ true → gives access at r ≡ true
told_gives closed access at r run of h =
    let outer = and_parts (leb run.start at && ltb at run.end) (run.page && has_right access run.rights) h in
    let inner = and_parts run.page (has_right access run.rights) outer.1 in
    gives_from access at r (granted_has closed r at (of.each at (told_in access at run h))) (sym of.page ∙ inner.0)
    (sym (right_is access r) ∙ sym (ap (has_right access) of.rights) ∙ inner.1)

gives_told : (closed : ℕ → Bool) (access : Access) (at : ℕ) (r : Region) (run : Run) → IsRunOf closed r run → IsIn run at → gives access at r ≡ true → is_mapped_at access at run ≡ true
gives_told closed access at r run of has h =
    let parts = gives_parts access at r h in
    told_from access at run has (of.page ∙ parts.1) (ap (has_right access) of.rights ∙ right_is access r ∙ parts.2)

-- where the run and the region lead is one place
place_as : (b : Bool) (c : Bool) (id told byte place lead : ℕ) → c ≡ b → told ≡ cond b byte place → cond c (Page id told) (Physical told) ≡ cond b (Page id byte) (Physical place)
place_as true c id told byte place lead e is = rw (e, is) refl
place_as false c id told byte place lead e is = rw (e, is) refl

place_is : RunsLead → (closed : ℕ → Bool) (id at : ℕ) (r : Region) (run : Run) → IsRunOf closed r run → IsIn run at → place_of_run id at run ≡ place_in_cell id r at
place_is leads closed id at r run of has = place_as (is_comm r) run.comm id (run.place + (at - run.start)) (byte_in r at) (place_in r at) 0 of.comm (sym (leads closed r run at of has))

-- a place that isn't kept, of an address that is granted; one that is, of an address that isn't
open_as : (kept : Place → Bool) (id byte place : ℕ) (b : Bool) → ((k : ℕ) → kept (Page id k) ≡ false) → (b || not (kept (Physical place))) ≡ true → unless kept (cond b (Page id byte) (Physical place)) ≡ Some (cond b (Page id byte) (Physical place))
open_as kept id byte place true page h = ap (λ t. cond t None (Some (Page id byte))) (page byte)
open_as kept id byte place false page h = ap (λ t. cond t None (Some (Physical place))) (closed_not (kept (Physical place)) h)
  where
    closed_not : (t : Bool) → not t ≡ true → t ≡ false
    closed_not true e = sym e
    closed_not false e = refl

kept_as : (kept : Place → Bool) (id byte place : ℕ) (b : Bool) → (b || not (kept (Physical place))) ≡ false → unless kept (cond b (Page id byte) (Physical place)) ≡ None
kept_as kept id byte place true h = absurd (both_ways true h refl)
kept_as kept id byte place false h = ap (λ t. cond t None (Some (Physical place))) (closed_yes (kept (Physical place)) h)
  where
    closed_yes : (t : Bool) → not t ≡ false → t ≡ true
    closed_yes true e = refl
    closed_yes false e = sym e

second_of : (a b : Bool) → a ≡ true → (a && b) ≡ b
second_of true b e = refl
second_of false b e = absurd (both_ways false refl e)

-- what the runs tell by the region that gives the address
pub told_by : RunsLead → RunsAreSingle → (kept : Place → Bool) (id : ℕ) (regions : List Region) (runs : List Run) (access : Access) (at : ℕ) → ((k : ℕ) → kept (Page id k) ≡ false) → AllPairs SharesNoAddress regions → IsMap (λ p. kept (Physical p)) regions runs
    → (o : Option Region) → find (gives access at) regions ≡ o → grant_of_map id runs access at ≡ option_and_then (unless kept) (option_map (λ (r : Region). place_in_cell id r at) o)
told_by leads single kept id regions runs access at page apart is None e =
    ap (option_map (place_of_run id at)) (find_nothing (is_mapped_at access at) runs (λ run there. false_from_ne_true (is_mapped_at access at run) (λ h.
    let own = All-contains (IsRunIn (λ p. kept (Physical p)) regions) runs run is.own there in
    both_ways (gives access at own.region) (find_None (gives access at) regions own.region e own.among) (told_gives (λ p. kept (Physical p)) access at own.region run own.of h))))
told_by leads single kept id regions runs access at page apart is (Some r) e = ⊎_elim granted not_granted (cases_Bool (is_granted closed r at))
  where
    closed : ℕ → Bool
    closed p = kept (Physical p)

    found : IsFound (gives access at) regions r
    found = IsFound_from_find (gives access at) regions r e

    has : has_address r at ≡ true
    has = (gives_parts access at r found.passes).0

    as_left : is_granted closed r at ≡ (is_comm r || not (kept (Physical (place_in r at))))
    as_left = second_of (has_address r at) (is_comm r || not (kept (Physical (place_in r at)))) has

    granted : is_granted closed r at ≡ true → grant_of_map id runs access at ≡ unless kept (place_in_cell id r at)
    granted h =
        let told = is.whole r at found.among h in
        let here = gives_told closed access at r told.run told.of told.has found.passes in
        let only = find_unique (is_mapped_at access at) runs told.run told.among here
        (λ other there passes. single closed regions runs other told.run at is there told.among (told_in access at other passes) told.has) in
        ap (option_map (place_of_run id at)) only ∙ ap Some (place_is leads closed id at r told.run told.of told.has)
        ∙ sym (open_as kept id (byte_in r at) (place_in r at) (is_comm r) page (sym as_left ∙ h))

    not_granted : is_granted closed r at ≡ false → grant_of_map id runs access at ≡ unless kept (place_in_cell id r at)
    not_granted h =
        ap (option_map (place_of_run id at)) (find_nothing (is_mapped_at access at) runs (λ run there. false_from_ne_true (is_mapped_at access at run) (λ told.
        let own = All-contains (IsRunIn closed regions) runs run is.own there in
        let own_granted = own.of.each at (told_in access at run told) in
        let same = same_region regions own.region r at apart own.among found.among (granted_has closed own.region at own_granted) has in
        let P : Region → Type 0 = λ x. is_granted closed x at ≡ true in
        both_ways (is_granted closed r at) h (subst P same own_granted))))
        ∙ sym (kept_as kept id (byte_in r at) (place_in r at) (is_comm r) (sym as_left ∙ h))

-- so the map tells what is granted
pub told_is : RunsLead → RunsAreSingle → (kept : Place → Bool) (id : ℕ) (regions : List Region) (runs : List Run) (access : Access) (at : ℕ) → ((k : ℕ) → kept (Page id k) ≡ false) → AllPairs SharesNoAddress regions → IsMap (λ p. kept (Physical p)) regions runs
    → grant_of_map id runs access at ≡ granted_by id regions kept access at
unfolding place_of
told_is leads single kept id regions runs access at page apart is = told_by leads single kept id regions runs access at page apart is (region_of regions access at) refl

-- ---- what is closed to a cell

pub kept_root : (image : Image) (lives : List Live) (id place : ℕ) (b : Bool) → id ≡ image.system.root.id → b ≡ is_closed_by lives place → b ≡ is_closed_at image lives id place
kept_root image lives id place b e is = is ∙ sym (second_of (eqb id image.system.root.id) (is_closed_by lives place) (eq-eqb id image.system.root.id e))

pub kept_other : (image : Image) (lives : List Live) (id place : ℕ) (ranges : List Range) → ranges ≡ [] → (id ≡ image.system.root.id → ⊥) → has_byte ranges place ≡ is_closed_at image lives id place
kept_other image lives id place ranges none ne = ap (λ rs. has_byte rs place) none ∙ sym (and_left (eqb id image.system.root.id) (is_closed_by lives place) (ne_eqb id image.system.root.id ne))

pub map_of_kept : (closed kept : ℕ → Bool) (regions : List Region) (map : Result (List Run) NoMemory) → ((p : ℕ) → closed p ≡ kept p) → IfOk map (IsMap closed regions) → IfOk map (IsMap kept regions)
map_of_kept closed kept regions map same is =
    let P : (ℕ → Bool) → Type 0 = λ f. IfOk map (IsMap f regions) in
    let e : closed ≡ kept = λ i p. same p i in
    subst P e is
