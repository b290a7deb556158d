-- What tables of live cells are made from, where nothing is found in the cells.
use Rattle.std.proofs.Common.{◌≡◌, ℕ, ◌+◌, ◌%◌, ◌<◌, zero, suc, Bool, true, false, ◌&&◌, nat_lt, List, ◌∷◌, length, get_or, map, Some, slice_get, Contains, All, AllPairs, refl, sym, ap, subst, ◌∙◌, arith}
use Rattle.std.proofs.lemmas.Bool.{and_parts, both_ways, false_from_ne_true, ltb-true}
use Rattle.std.proofs.lemmas.Option.{slice_get-get_or}
use Rattle.jh_num.specs.declared.address.TheConstants.{ADDRESS_END, PAGE_SIZE}
use Rattle.jh_num.proofs.Public.{Contains_from_map, Contains_map}
use Rattle.jh_cellcfg.specs.declared.config.CellConfig.{CellConfig}
use Rattle.jh_cellcfg.specs.declared.config.SystemConfig.{SystemConfig}
use Rattle.jh_cellcfg.specs.declared.live.Live.{Live}
use Rattle.jh_cellcfg.specs.declared.region.Region.{Region}
use Rattle.jh_cellcfg.specs.Regions.{SharesNoAddress, has_place, is_comm, is_page_mapped, place_in}
use Rattle.jh_check.specs.Clean.{IsClean}
use Rattle.jh_check.specs.Laws.{IsItem, IsNumbered}
use Rattle.jh_check.proofs.Public.{item_at, whole_pages}
use Rattle.jh_shape.specs.Claims.{Claims, Holder}
use Rattle.jh_shape.specs.Lives.{configs_of}
use Rattle.jh_shape.specs.Pages.{cell_claims, live_root_claims}
use Rattle.jh_shape.specs.Shapes.{are_cut, holder_of_live}
use Rattle.jh_shape.specs.SoundClaims.{AreSoundClaims, IsFit, IsUncut}
use Rattle.jh_shape.proofs.Public.{cut_there}

-- an element has a number
pub number_of : {X : Type 0} (xs : List X) (x : X) → Contains xs x → (k : ℕ) × (slice_get xs k ≡ Some x)
number_of xs x (k, below, is) = (k, slice_get-get_or xs k x below ∙ ap Some is)

-- a live cell has a number behind root's
cell_number : (system : SystemConfig) (lives : List Live) (live : Live) → Contains lives live → (a : ℕ) × (0 < a) × IsNumbered system (configs_of lives) a live.config
cell_number system lives live held =
    let n = number_of (configs_of lives) live.config (Contains_map (λ (l : Live). l.config) lives live held) in
    (suc n.0, omega arith, n.1)

-- a region of a cell is fit, where a communication region is a page
fit_of : (system : SystemConfig) (cells : List CellConfig) → IsClean system cells → (a : ℕ) (cell : CellConfig) → IsNumbered system cells a cell → (r : ℕ) (x : Region) → IsItem cell r x → (0 < x.size → is_comm x ≡ true → x.size ≡ PAGE_SIZE) → IsFit x
fit_of system cells clean a cell n r x item page =
    record {
      virt = λ some. (clean.within a cell n r x item some).virt;
      phys = λ some plain. (clean.within a cell n r x item some).phys plain;
      comm_size = page;
      aligned = λ mapped plain. let m = and_parts (nat_lt 0 x.size) (is_page_mapped x) mapped in clean.aligned a cell n r x item (ltb-true 0 x.size m.0) m.1 plain;
    }

-- no two regions of a cell have an address together
apart : (system : SystemConfig) (cells : List CellConfig) → IsClean system cells → (a : ℕ) (cell : CellConfig) → IsNumbered system cells a cell → AllPairs SharesNoAddress cell.memory_regions
apart system cells clean a cell n = λ i j d l within at hx hy.
    let xs = cell.memory_regions in
    let same : i ≡ j = clean.addresses a cell n i j (get_or xs i d) (get_or xs j d) (item_at xs i d (omega arith)) (item_at xs j d within) at hx hy in
    absurd (omega arith)

-- root's pages are whole to the cells that hold, loadable or not
root_uncut : (system : SystemConfig) (lives : List Live) → IsClean system (configs_of lives) → (r : ℕ) (y : Region) → IsItem system.root r y → IsUncut (live_root_claims system.root.memory_regions lives) y
root_uncut system lives clean r y item = λ mapped plain at begins has.
    let place = place_in y at in
    false_from_ne_true (are_cut (map holder_of_live lives) place PAGE_SIZE) (λ yes.
    let cut = cut_there (map holder_of_live lives) place PAGE_SIZE (omega arith) yes in
    let holder = Contains_from_map holder_of_live lives cut.holder cut.live in
    let cell = cell_number system lives holder.0 holder.1 in
    let own : Contains holder.0.config.memory_regions cut.region = subst (λ (h : Holder). Contains h.regions cut.region) (sym holder.2) cut.among in
    let x = number_of holder.0.config.memory_regions cut.region own in
    let m = and_parts (nat_lt 0 y.size) (is_page_mapped y) mapped in
    let alike : has_place cut.region (place + cut.some) ≡ has_place cut.region (place + cut.other) =
    whole_pages system (configs_of lives) clean cell.0 holder.0.config cell.1 cell.2 x.0 r cut.region y x.1 item cut.alone m.1 at begins has cut.some cut.other cut.within cut.also in
    both_ways (has_place cut.region (place + cut.other)) cut.lacks (sym alike ∙ cut.has))

pub root_sound : (system : SystemConfig) (lives : List Live) → IsClean system (configs_of lives) → AreSoundClaims (live_root_claims system.root.memory_regions lives)
root_sound system lives clean =
    let cells = configs_of lives in
    let xs = system.root.memory_regions in
    record {
      comm_aligned = refl;
      comm_bound = omega arith;
      disjoint = apart system cells clean 0 system.root refl;
      fit = λ k d l. fit_of system cells clean 0 system.root refl k (get_or xs k d) (item_at xs k d l) (λ some comm. absurd (both_ways (is_comm (get_or xs k d)) (clean.no_comm k (get_or xs k d) (item_at xs k d l) some) comm));
      whole = λ root k d l. root_uncut system lives clean k (get_or xs k d) (item_at xs k d l);
    }

pub cell_sound : (system : SystemConfig) (lives : List Live) (live : Live) (comm : ℕ) → IsClean system (configs_of lives) → Contains lives live → comm % PAGE_SIZE ≡ 0 → comm < ADDRESS_END → AreSoundClaims (record (cell_claims live.config) { comm = comm })
cell_sound system lives live comm clean held aligned low =
    let cells = configs_of lives in
    let xs = live.config.memory_regions in
    let n = cell_number system lives live held in
    record {
      comm_aligned = aligned;
      comm_bound = low;
      disjoint = apart system cells clean n.0 live.config n.2;
      fit = λ k d l. fit_of system cells clean n.0 live.config n.2 k (get_or xs k d) (item_at xs k d l) (λ some is. (clean.comms n.0 live.config n.1 n.2 k (get_or xs k d) (item_at xs k d l) some is).size);
      whole = λ root. absurd (both_ways false refl root);
    }
