-- At most fifteen cells live besides root while a call is open: each has a CPU of its own, and the caller's is root's.
use Rattle.std.proofs.Common.{◌≡◌, ◌≢◌, ℕ, suc, ◌<◌, ◌≤◌, ◌||◌, Bool, true, false, eqb, List, [], ◌∷◌, length, get_or, Option, Some, refl, sym, ap, subst, eq-eqb, ◌∙◌, inl, inr, arith}
use Rattle.std.specs.Prelude.{All, AllPairs}
use Rattle.std.specs.List.{AllByRecursion, IsDistinct, list_any}
use Rattle.std.proofs.lemmas.Bool.{ne_eqb, eqb-true, or_cases, both_ways}
use Rattle.std.proofs.lemmas.Option.{slice_get-get_or}
use Rattle.std.proofs.lemmas.List.Elements.{recursion_from_All}
use Rattle.std.proofs.lemmas.Map.Keys.{IsDistinct-cons}
use Rattle.std.proofs.lemmas.Map.Steps.{length-le_from_distinct_below}
use Rattle.jh_num.proofs.Public.{read_again}
use Rattle.jh_cpu.specs.declared.cpu.Cpu.{Cpu}
use Rattle.jh_cellcfg.specs.declared.config.CellConfig.{CellConfig}
use Rattle.jh_cellcfg.specs.declared.live.Live.{Live}
use Rattle.jh_cellcfg.specs.Cells.{is_cpu_set}
use Rattle.jh_check.specs.Clean.{IsSoundBitmap, IsSoundCpuSet}
use Rattle.jh_check.specs.Refusals.{AreTwo}
use Rattle.jh_script.specs.declared.image.Image.{Image}
use Rattle.jh_history.specs.declared.call.OpenCall.{OpenCall}
use Rattle.jh_history.specs.Facts.{Facts}
use Rattle.jh_shape.specs.Lives.{configs_of}
use Rattle.jh_history.specs.Sound.{AreSoundCells, AreOwned, IsSound, IsSoundCall, IsOpen}
use Rattle.jh_history.proofs.SoundDecideLemmas.{board_few}

abbrev IsGood : CellConfig → Type 0
IsGood c = IsSoundCpuSet c.cpu_set

abbrev Owns : (ℕ → ℕ) → CellConfig → Type 0
Owns owner c = (q : ℕ) → is_cpu_set c.cpu_set q ≡ true → owner q ≡ c.id

-- a CPU of each cell
abbrev picks : (configs : List CellConfig) → AllByRecursion IsGood configs → List ℕ
picks [] good = []
picks (c ∷ cs) good = good.0.some.0 ∷ picks cs good.1

picks_length : (configs : List CellConfig) (good : AllByRecursion IsGood configs) → length (picks configs good) ≡ length configs
picks_length [] good = refl
picks_length (c ∷ cs) good = ap (λ n. suc n) (picks_length cs good.1)

picks_below : (configs : List CellConfig) (good : AllByRecursion IsGood configs) → AllByRecursion (λ p. p < 16) (picks configs good)
picks_below [] good = tt
picks_below (c ∷ cs) good = (good.0.few good.0.some.0 good.0.some.1, picks_below cs good.1)

-- a CPU of another owner is none of them
picks_apart : (owner : ℕ → ℕ) (id q : ℕ) (configs : List CellConfig) (good : AllByRecursion IsGood configs) → AllByRecursion (Owns owner) configs → owner q ≡ id → AllByRecursion (λ (c : CellConfig). id ≢ c.id) configs
    → AllByRecursion (λ p. eqb q p ≡ false) (picks configs good)
picks_apart owner id q [] good owns own other = tt
picks_apart owner id q (c ∷ cs) good owns own other =
    (ne_eqb q good.0.some.0 (λ e. other.0 (sym own ∙ ap owner e ∙ owns.0 good.0.some.0 good.0.some.1)), picks_apart owner id q cs good.1 owns.1 own other.1)

-- two cells have two ids
ids_by : (a b : Bool) → (a || b) ≡ false → a ≡ false
ids_by true b h = absurd (both_ways true h refl)
ids_by false b h = refl

pub two_ids : (earlier later : CellConfig) → AreTwo earlier later → earlier.id ≢ later.id
two_ids earlier later two e = both_ways (eqb earlier.id later.id) (ids_by (eqb earlier.id later.id) _ two) (eq-eqb earlier.id later.id e)

first_ids : (x : CellConfig) (xs : List CellConfig) → AllPairs AreTwo (x ∷ xs) → AllByRecursion (λ (c : CellConfig). x.id ≢ c.id) xs
first_ids x xs two = recursion_from_All (λ (c : CellConfig). x.id ≢ c.id) xs (λ i d lt. two_ids x (get_or xs i d) (two 0 (suc i) d (omega arith) (omega arith)))

pairs_rest : (x : CellConfig) (xs : List CellConfig) → AllPairs AreTwo (x ∷ xs) → AllPairs AreTwo xs
pairs_rest x xs two = λ i j d lt within. two (suc i) (suc j) d (omega arith) (omega arith)

picks_distinct : (owner : ℕ → ℕ) (configs : List CellConfig) (good : AllByRecursion IsGood configs) → AllByRecursion (Owns owner) configs → AllPairs AreTwo configs → IsDistinct eqb (picks configs good)
unfolding IsDistinct
picks_distinct owner [] good owns two = tt
picks_distinct owner (c ∷ cs) good owns two =
    (picks_apart owner c.id good.0.some.0 cs good.1 owns.1 (owns.0 good.0.some.0 good.0.some.1) (first_ids c cs two), picks_distinct owner cs good.1 owns.1 (pairs_rest c cs two))

any_below : (xs : List ℕ) → AllByRecursion (λ p. p < 16) xs → (q : ℕ) → list_any (eqb q) xs ≡ true → q < 16
any_below [] all q h = absurd (both_ways false refl h)
any_below (x ∷ xs) all q h = elim (or_cases (eqb q x) (list_any (eqb q) xs) h) [
  | inl here ↦ subst (λ (n : ℕ). n < 16) (sym (eqb-true q x here)) all.0
  | inr later ↦ any_below xs all.1 q later
]

few_by : (owner : ℕ → ℕ) (root : CellConfig) (caller : ℕ) (configs : List CellConfig) (good : AllByRecursion IsGood configs) → AllByRecursion (Owns owner) configs → AllPairs AreTwo (root ∷ configs) → owner caller ≡ root.id → caller < 16
    → length configs ≤ 15
few_by owner root caller configs good owns two own below =
    let apart = picks_apart owner root.id caller configs good owns own (first_ids root configs two) in
    let distinct : IsDistinct eqb (caller ∷ picks configs good) = IsDistinct-cons eqb caller (picks configs good) apart (picks_distinct owner configs good owns (pairs_rest root configs two)) in
    let all : length (caller ∷ picks configs good) ≤ 16 = length-le_from_distinct_below (caller ∷ picks configs good) 16 distinct (any_below (caller ∷ picks configs good) (below, picks_below configs good)) in
    let same = picks_length configs good in
    omega arith

-- where the cells are sound, and each set in which nothing is found names a CPU
few_open : (image : Image) (configs : List CellConfig) (cpu : ℕ → Cpu) (o : OpenCall) (sound : AreSoundCells image.system configs) → AreOwned image configs cpu → IsOpen image configs cpu o
    → All (λ (c : CellConfig). IsSoundBitmap c.cpu_set → IsSoundCpuSet c.cpu_set) configs → length configs ≤ 15
few_open image configs cpu o sound owned open_call names =
    let good : AllByRecursion IsGood configs = recursion_from_All IsGood configs (λ i d lt. names i d lt (sound.clean.cpus (suc i) (get_or configs i d) (slice_get-get_or configs i d lt))) in
    let owns : AllByRecursion (Owns (λ q. (cpu q).owner)) configs = recursion_from_All (Owns (λ q. (cpu q).owner)) configs (λ i d lt. (owned.cells (get_or configs i d) (i, lt, sym (read_again configs i d lt))).owned) in
    few_by (λ q. (cpu q).owner) image.system.root o.caller configs good owns sound.differ open_call.caller.owner (board_few image configs sound.clean o.caller open_call.caller.board)

few_call : (image : Image) (configs : List CellConfig) (cpu : ℕ → Cpu) (call : Option OpenCall) (o : OpenCall) → AreSoundCells image.system configs → AreOwned image configs cpu → call ≡ Some o → IsSoundCall image configs cpu call
    → All (λ (c : CellConfig). IsSoundBitmap c.cpu_set → IsSoundCpuSet c.cpu_set) configs → length configs ≤ 15
few_call image configs cpu call o sound owned e is names = few_open image configs cpu o sound owned (subst (λ (k : Option OpenCall). IsSoundCall image configs cpu k) e is) names

pub configs_length : (lives : List Live) → length (configs_of lives) ≡ length lives
configs_length [] = refl
configs_length (live ∷ lives) = ap (λ n. suc n) (configs_length lives)

pub few_sound : (image : Image) (f : Facts) (o : OpenCall) → IsSound image f → f.call ≡ Some o → All (λ (c : CellConfig). IsSoundBitmap c.cpu_set → IsSoundCpuSet c.cpu_set) (configs_of f.cells) → length f.cells ≤ 15
few_sound image f o sound e names =
    let few = few_call image (configs_of f.cells) f.cpu f.call o sound.cells sound.cpus e sound.call names in
    let same = configs_length f.cells in
    omega arith
