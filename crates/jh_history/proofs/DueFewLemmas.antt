-- That few cells live: each has a CPU of the board for itself.
use Rattle.std.proofs.Common.{◌≡◌, ℕ, suc, ◌+◌, ◌<◌, ◌≤◌, List, [], ◌∷◌, ◌++◌, length, map, true, false, eqb, Some, refl, sym, ap, subst, ◌∙◌, ⊎_elim, arith}
use Rattle.std.specs.Prelude.{Contains, All, AllPairs, nat_eq}
use Rattle.std.specs.Cmp.Lexicographic.{pointwise}
use Rattle.std.specs.List.{AllByRecursion, IsDistinct, list_any}
use Rattle.std.proofs.lemmas.Bool.{both_ways, or_parts, or_cases, eqb-true, eq-eqb, false_from_ne_true}
use Rattle.std.proofs.lemmas.List.{length-map, length-append}
use Rattle.std.proofs.lemmas.Map.Steps.{length-le_from_distinct_below}
use Rattle.jh_num.proofs.Public.{Contains_head, Contains_tail}
use Rattle.jh_cellcfg.specs.declared.config.CellConfig.{CellConfig}
use Rattle.jh_cellcfg.specs.declared.live.Live.{Live}
use Rattle.jh_cellcfg.specs.Cells.{name_of, is_cpu_set}
use Rattle.jh_cpu.specs.declared.cpu.Cpu.{Cpu}
use Rattle.jh_check.specs.Refusals.{AreTwo}
use Rattle.jh_script.specs.declared.image.Image.{Image}
use Rattle.jh_history.specs.declared.call.OpenCall.{OpenCall}
use Rattle.jh_history.specs.declared.call.Phase.TheVariants.{ToCreate}
use Rattle.jh_history.specs.Facts.{Facts}
use Rattle.jh_history.specs.Lives.{is_on_board}
use Rattle.jh_shape.specs.Lives.{configs_of}
use Rattle.jh_history.specs.Sound.{AreSoundCells, HasItsCpus, AreOwned, IsSound}
use Rattle.jh_history.specs.DueFacts.{NamesCpu, EachNamesCpu}
use Rattle.jh_history.proofs.SoundCellsLemmas.{cells_joined}
use Rattle.jh_history.proofs.SoundDecideLemmas.{board_few}
use Rattle.jh_history.proofs.SoundCommitLemmas.{cell_lent, owned_lent}
use Rattle.jh_history.proofs.DueCreateLemmas.{call_open, to_come}

-- ---- a CPU of each

abbrev AllName : List CellConfig → Type 0
AllName configs = AllByRecursion NamesCpu configs

abbrev cpus_of : (configs : List CellConfig) → AllName configs → List ℕ
cpus_of [] names = []
cpus_of (config ∷ configs) names = names.0.0 ∷ cpus_of configs names.1

cpus_length : (configs : List CellConfig) (names : AllName configs) → length (cpus_of configs names) ≡ length configs
cpus_length [] names = refl
cpus_length (config ∷ configs) names = ap (λ n. suc n) (cpus_length configs names.1)

-- some cell names it
named_by : (configs : List CellConfig) (names : AllName configs) (q : ℕ) → list_any (eqb q) (cpus_of configs names) ≡ true → (config : CellConfig) × Contains configs config × (is_cpu_set config.cpu_set q ≡ true)
named_by [] names q h = absurd (both_ways false refl h)
named_by (config ∷ configs) names q h =
    ⊎_elim
    (λ here.
    let P : ℕ → Type 0 = λ k. is_cpu_set config.cpu_set k ≡ true in
    (config, Contains_head config configs, subst P (sym (eqb-true q names.0.0 here)) names.0.1))
    (λ later. let r = named_by configs names.1 q later in (r.0, Contains_tail config configs r.0 r.1, r.2))
    (or_cases (eqb q names.0.0) (list_any (eqb q) (cpus_of configs names.1)) h)

-- ---- they differ, since their owners do

abbrev number : CellConfig → ℕ
number config = config.id

owners : (image : Image) (cpu : ℕ → Cpu) (configs : List CellConfig) (names : AllName configs) → ((config : CellConfig) → Contains configs config → HasItsCpus image cpu config)
    → map (λ i. (cpu i).owner) (cpus_of configs names) ≡ map number configs
owners image cpu [] names has = refl
owners image cpu (config ∷ configs) names has =
    let here : (cpu names.0.0).owner ≡ config.id = (has config (Contains_head config configs)).owned names.0.0 names.0.1 in
    let rest : map (λ i. (cpu i).owner) (cpus_of configs names.1) ≡ map number configs = owners image cpu configs names.1 (λ c held. has c (Contains_tail config configs c held)) in
    ap (λ (n : ℕ). n ∷ map (λ i. (cpu i).owner) (cpus_of configs names.1)) here ∙ ap (λ (ns : List ℕ). config.id ∷ ns) rest

ids_apart : (config : CellConfig) (configs : List CellConfig) → All (AreTwo config) configs → AllByRecursion (λ n. eqb config.id n ≡ false) (map number configs)
ids_apart config [] all = tt
ids_apart config (other ∷ configs) all = (
  (or_parts (eqb config.id other.id) (pointwise nat_eq (name_of config) (name_of other)) (all 0 other (omega arith))).0,
  ids_apart config configs (λ k d lt. all (suc k) d (omega arith)),
)

ids_distinct : (configs : List CellConfig) → AllPairs AreTwo configs → IsDistinct eqb (map number configs)
unfolding IsDistinct
ids_distinct [] differ = tt
ids_distinct (config ∷ configs) differ =
    (ids_apart config configs (λ k d lt. differ 0 (suc k) d (omega arith) (omega arith)), ids_distinct configs (λ i j d lt within. differ (suc i) (suc j) d (omega arith) (omega arith)))

-- numbers that are mapped to different ones differ
apart_from_map : (g : ℕ → ℕ) (x : ℕ) (xs : List ℕ) → AllByRecursion (λ n. eqb (g x) n ≡ false) (map g xs) → AllByRecursion (λ y. eqb x y ≡ false) xs
apart_from_map g x [] all = tt
apart_from_map g x (y ∷ ys) all = (
  false_from_ne_true (eqb x y) (λ yes. both_ways (eqb (g x) (g y)) all.0 (eq-eqb (g x) (g y) (ap g (eqb-true x y yes)))),
  apart_from_map g x ys all.1,
)

distinct_from_map : (g : ℕ → ℕ) (xs : List ℕ) → IsDistinct eqb (map g xs) → IsDistinct eqb xs
unfolding IsDistinct
distinct_from_map g [] distinct = tt
distinct_from_map g (x ∷ xs) distinct = (apart_from_map g x xs distinct.0, distinct_from_map g xs distinct.1)

-- ---- and are few

-- beside a CPU of root there are fewer cells than CPUs
owned_few : (image : Image) (configs : List CellConfig) (cpu : ℕ → Cpu) (own : ℕ) → AreSoundCells image.system configs → AreOwned image configs cpu → AllName configs
    → is_on_board image own ≡ true → (cpu own).owner ≡ image.system.root.id → length configs < 16
owned_few image configs cpu own sound owned names on root =
    let all : List ℕ = own ∷ cpus_of configs names in
    let same : map (λ i. (cpu i).owner) all ≡ map number (image.system.root ∷ configs) =
    ap (λ (n : ℕ). n ∷ map (λ i. (cpu i).owner) (cpus_of configs names)) root ∙ ap (λ (ns : List ℕ). image.system.root.id ∷ ns) (owners image cpu configs names owned.cells) in
    let distinct : IsDistinct eqb all = distinct_from_map (λ i. (cpu i).owner) all (subst (IsDistinct eqb) (sym same) (ids_distinct (image.system.root ∷ configs) sound.differ)) in
    let below : (q : ℕ) → list_any (eqb q) all ≡ true → q < 16 =
    λ q h.
    ⊎_elim
    (λ is. let P : ℕ → Type 0 = λ k. k < 16 in subst P (sym (eqb-true q own is)) (board_few image configs sound.clean own on))
    (λ later. let r = named_by configs names q later in board_few image configs sound.clean q ((owned.cells r.0 r.1).board q r.2))
    (or_cases (eqb q own) (list_any (eqb q) (cpus_of configs names)) h) in
    let few : length all ≤ 16 = length-le_from_distinct_below all 16 distinct below in
    let as_many : length (cpus_of configs names) ≡ length configs = cpus_length configs names in
    omega arith

names_of : (cells : List Live) → EachNamesCpu cells → (config : CellConfig) → NamesCpu config → AllName (configs_of cells ++ config ∷ [])
names_of [] all config names = (names, tt)
names_of (live ∷ cells) all config names = (all 0 live (omega arith), names_of cells (λ k d lt. all (suc k) d (omega arith)) config names)

lent_caller : (config : CellConfig) (cpu : ℕ → Cpu) (caller : ℕ) → is_cpu_set config.cpu_set caller ≡ false → cell_lent config cpu caller ≡ cpu caller
lent_caller config cpu caller other = rw other refl

pub few_cells : (image : Image) (f : Facts) (o : OpenCall) (config : CellConfig) → IsSound image f → EachNamesCpu f.cells → NamesCpu config → f.call ≡ Some o → o.phase ≡ ToCreate config → length f.cells < 15
few_cells image f o config sound all names call phase =
    let configs : List CellConfig = configs_of f.cells in
    let caller = (call_open image f o sound call).caller in
    let may = to_come image f o config sound call phase in
    let other : is_cpu_set config.cpu_set o.caller ≡ false = false_from_ne_true (is_cpu_set config.cpu_set o.caller) (λ set. may.other o.caller set refl) in
    let few : length (configs ++ config ∷ []) < 16 =
    owned_few image (configs ++ config ∷ []) (cell_lent config f.cpu) o.caller
    (cells_joined image.system configs config sound.cells may.unknown may.clean may.room)
    (owned_lent image configs f.cpu o.caller config sound.cells sound.cpus may)
    (names_of f.cells all config names)
    caller.board
    (ap (λ (c : Cpu). c.owner) (lent_caller config f.cpu o.caller other) ∙ caller.owner) in
    let whole : length (configs ++ config ∷ []) ≡ length configs + 1 = length-append configs (config ∷ []) in
    let as_many : length configs ≡ length f.cells = length-map f.cells (λ (live : Live). live.config) in
    omega arith
