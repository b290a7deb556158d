-- The cells of a sound board: what holds of them at opening, with one more, and with fewer.
use Rattle.std.proofs.Common.{◌≡◌, suc, ◌≤◌, List, [], ◌∷◌, ◌++◌, Bool, true, false, cond, get_or, sym, subst, append_assoc, le_trans, arith}
use Rattle.std.specs.Prelude.{AllPairs, filter}
use Rattle.std.proofs.lemmas.List.Elements.{Contains-get_or, All-filter}
use Rattle.std.proofs.lemmas.List.Kept.{AllPairs-cons, AllPairs-filter}
use Rattle.std.proofs.lemmas.List.Quantifiers.{all_pairs_push}
use Rattle.jh_num.proofs.Public.{list_any_false}
use Rattle.jh_cellcfg.specs.declared.config.CellConfig.{CellConfig}
use Rattle.jh_cellcfg.specs.declared.config.SystemConfig.{SystemConfig}
use Rattle.jh_cellcfg.specs.declared.region.Region.{Region}
use Rattle.jh_check.specs.Clean.{IsClean}
use Rattle.jh_check.specs.Refusals.{is_namesake, is_known, AreTwo}
use Rattle.jh_check.proofs.Public.{clean_from_nothing, fewer_clean}
use Rattle.jh_shape.specs.Pages.{pages_of}
use Rattle.jh_shape.proofs.Public.{pages_of_fewer}
use Rattle.jh_history.specs.Admitted.{IsAdmittedSystem, pool_pages}
use Rattle.jh_history.specs.Sound.{AreSoundCells}

-- at opening
pub cells_open : (system : SystemConfig) → IsAdmittedSystem system → AreSoundCells system []
cells_open system admitted = record {
  clean = clean_from_nothing system [] admitted.clean;
  room = admitted.room;
  differ = λ j k d below within. absurd (omega arith);
}

-- with a cell whose name and id none has, with which the check finds nothing and the pages are there
pub cells_joined : (system : SystemConfig) (configs : List CellConfig) (new : CellConfig) → AreSoundCells system configs → is_known (system.root ∷ configs) new ≡ false
    → IsClean system (configs ++ new ∷ []) → pages_of system.root.memory_regions (configs ++ new ∷ []) ≤ pool_pages system → AreSoundCells system (configs ++ new ∷ [])
cells_joined system configs new sound unknown clean room = record {
  clean = clean;
  room = room;
  differ = all_pairs_push AreTwo (system.root ∷ configs) new sound.differ
      (λ k d lt. list_any_false (is_namesake new) (system.root ∷ configs) (get_or (system.root ∷ configs) k d) unknown (Contains-get_or (system.root ∷ configs) k d lt));
}

-- the cells that pass a test, behind some that all stay
clean_by : (system : SystemConfig) (p : CellConfig → Bool) (before : List CellConfig) (x : CellConfig) (xs : List CellConfig) (b : Bool)
    → ((front : List CellConfig) → IsClean system (front ++ xs) → IsClean system (front ++ filter p xs))
    → IsClean system (before ++ x ∷ xs) → IsClean system (before ++ cond b (x ∷ filter p xs) (filter p xs))
clean_by system p before x xs true rest clean =
    let P : List CellConfig → Type 0 = IsClean system in
    subst P (append_assoc before (x ∷ []) (filter p xs))
    (rest (before ++ x ∷ []) (subst P (sym (append_assoc before (x ∷ []) xs)) clean))
clean_by system p before x xs false rest clean = rest before (fewer_clean system before xs x clean)

clean_filter : (system : SystemConfig) (p : CellConfig → Bool) (before xs : List CellConfig) → IsClean system (before ++ xs) → IsClean system (before ++ filter p xs)
clean_filter system p before [] clean = clean
clean_filter system p before (x ∷ xs) clean = clean_by system p before x xs (p x) (λ front. clean_filter system p front xs) clean

pages_by : (regions : List Region) (p : CellConfig → Bool) (before : List CellConfig) (x : CellConfig) (xs : List CellConfig) (b : Bool)
    → ((front : List CellConfig) → pages_of regions (front ++ filter p xs) ≤ pages_of regions (front ++ xs))
    → pages_of regions (before ++ cond b (x ∷ filter p xs) (filter p xs)) ≤ pages_of regions (before ++ x ∷ xs)
pages_by regions p before x xs true rest =
    let P : List CellConfig → Type 0 = λ ys. pages_of regions ys ≤ pages_of regions (before ++ x ∷ xs) in
    let Q : List CellConfig → Type 0 = λ ys. pages_of regions ((before ++ x ∷ []) ++ filter p xs) ≤ pages_of regions ys in
    subst P (append_assoc before (x ∷ []) (filter p xs)) (subst Q (append_assoc before (x ∷ []) xs) (rest (before ++ x ∷ [])))
pages_by regions p before x xs false rest = le_trans (rest before) (pages_of_fewer regions before x xs)

pages_filter : (regions : List Region) (p : CellConfig → Bool) (before xs : List CellConfig) → pages_of regions (before ++ filter p xs) ≤ pages_of regions (before ++ xs)
pages_filter regions p before [] = omega arith
pages_filter regions p before (x ∷ xs) = pages_by regions p before x xs (p x) (λ front. pages_filter regions p front xs)

differ_filter : (root : CellConfig) (p : CellConfig → Bool) (xs : List CellConfig) → AllPairs AreTwo (root ∷ xs) → AllPairs AreTwo (root ∷ filter p xs)
differ_filter root p xs differ =
    AllPairs-cons AreTwo root (filter p xs)
    (All-filter p (AreTwo root) xs (λ k d within. differ 0 (suc k) d (omega arith) (omega arith)))
    (AllPairs-filter AreTwo p xs (λ i j d lt within. differ (suc i) (suc j) d (omega arith) (omega arith)))

-- with fewer
pub cells_fewer : (system : SystemConfig) (p : CellConfig → Bool) (configs : List CellConfig) → AreSoundCells system configs → AreSoundCells system (filter p configs)
cells_fewer system p configs sound = record {
  clean = clean_filter system p [] configs sound.clean;
  room = le_trans (pages_filter system.root.memory_regions p [] configs) sound.room;
  differ = differ_filter system.root p configs sound.differ;
}
