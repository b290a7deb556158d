-- A create of a cell of a plan is accepted: no cause of a refusal holds of it, beside cells of the plan in whatever order.
use Rattle.std.proofs.Common.{◌≡◌, ◌≢◌, ℕ, ◌+◌, ◌-◌, ◌<◌, ◌≤◌, true, false, ◌&&◌, ◌||◌, ◌==◌, not, nat_eq, Some, slice_get, List, [], ◌∷◌, ◌++◌, zero, suc, length, get_or, refl, sym, ap, subst, ◌∙◌, inl, inr, arith}
use Rattle.std.specs.List.{All, AllPairs, Contains, list_any}
use Rattle.std.specs.Prelude.{if◌then◌else◌}
use Rattle.std.specs.Cmp.Lexicographic.{pointwise}
use Rattle.std.proofs.lemmas.Bool.{both_ways, and_from, or_parts, cases_lt, eq-eqb, eqb-true, false_from_ne_true, not_from_false}
use Rattle.std.proofs.lemmas.List.Elements.{Contains-push_cases}
use Rattle.std.proofs.lemmas.Option.{same_Some, slice_get-get_or, slice_get_within, get_or_from_slice_get}
use Rattle.jh_num.specs.Below.{any_below}
use Rattle.jh_num.proofs.Public.{Contains_cases, Contains_from_map, list_any_false, list_any_nothing, same_test}
use Rattle.jh_num.specs.declared.error.TheConstants.{EPERM}
use Rattle.jh_cellcfg.specs.declared.config.CellConfig.{CellConfig}
use Rattle.jh_cellcfg.specs.declared.live.Live.{Live}
use Rattle.jh_cellcfg.specs.Cells.{name_of, is_cpu_set}
use Rattle.jh_cellcfg.specs.Limits.{IsWithinLimits}
use Rattle.jh_cellcfg.specs.Regions.{is_comm}
use Rattle.jh_cellcfg.specs.Spelling.{spelling}
use Rattle.jh_cellcfg.specs.Typed.{IsCell}
use Rattle.jh_cellcfg.proofs.Public.{length_body_bytes}
use Rattle.jh_check.specs.Clean.{IsClean}
use Rattle.jh_check.specs.Laws.{EachTwoItems, SharesNoPlace}
use Rattle.jh_check.specs.Refusals.{is_known, is_namesake, AreTwo, IsAccepted}
use Rattle.jh_check.specs.Verdicts.{makes_busy, makes_invalid, verdict_by, verdict_of}
use Rattle.jh_check.specs.declared.finding.Finding.{Finding}
use Rattle.jh_check.specs.declared.verdict.NewCell.TheVariants.{Clean}
use Rattle.jh_check.proofs.Public.{accepted_to, clean_from_nothing, nothing_from_clean}
use Rattle.jh_shape.specs.Lives.{configs_of}
use Rattle.jh_shape.specs.Pages.{pages_of}
use Rattle.jh_history.specs.declared.call.Creation.TheVariants.{Accepted, Refused}
use Rattle.jh_history.specs.declared.reading.ReadCell.TheVariants.{Reads}
use Rattle.jh_history.specs.Admitted.{pool_pages}
use Rattle.jh_history.specs.Configs.{read_at}
use Rattle.jh_history.specs.Lives.{is_on_board}
use Rattle.jh_history.specs.Phases.{creation_by, creation_of, may_give, unless_refused}
use Rattle.jh_history.specs.Sound.{IsOwner, IsSound}
use Rattle.jh_history.proofs.Public.{legal_sound, two_ids}
use Rattle.jh_plan.specs.declared.demand.Demand.{Demand}
use Rattle.jh_plan.specs.Demands.{IsDemand}
use Rattle.jh_plan.specs.Fits.{has_taken}
use Rattle.jh_plan.specs.Moments.{facts_of, IsCreateOf, IsTypedDemand, PlannedBoard, PlannedImage}
use Rattle.jh_plan.proofs.AmongLemmas.{own_id_too, pages_among, AreAmong, CountsTables, HaveOwnIds, KeepsTables}
use Rattle.jh_plan.proofs.CleanLemmas.{clean_cells, no_cpu, no_place, sound_plan, AreApart, AreSound}
use Rattle.jh_plan.proofs.FitLemmas.{above_lowest, of_root}
use Rattle.jh_plan.proofs.PlaceLemmas.{free_ends}
use Rattle.jh_plan.proofs.PlanLemmas.{root_within}
use Rattle.jh_plan.proofs.ReadBackLemmas.{read_back, IsTold}
use Rattle.jh_plan.proofs.StandLemmas.{stands_at, Stands}
use Rattle.jh_plan.proofs.WrittenLemmas.{limited, name_before, name_parts, typed}

-- ---- a cell of the plan

good_demands : (demands : List Demand) → All IsTypedDemand demands → All IsDemand demands
good_demands demands typed k d below = (typed k d below).0

-- where the cell stands in the plan
pub record PlannedCell (of : PlannedImage) (cell : CellConfig) : Type 0 where
  pub number : ℕ
  pub at : slice_get of.planned.cells number ≡ Some cell
  pub stands : Stands of.image.system [] of.demands of.planned.cells number cell
  pub good : IsTypedDemand stands.demand

pub planned_cell : (of : PlannedImage) (cell : CellConfig) → Contains of.planned.cells cell → PlannedCell of cell
planned_cell of cell (k, below, is) =
    let at : slice_get of.planned.cells k ≡ Some cell = slice_get-get_or of.planned.cells k cell below ∙ ap Some is in
    let stands = stands_at of.image.system [] of.demands of.planned.cells of.plan.are k cell at in
    let wanted = stands.wanted in
    record { number = k; at = at; stands = stands; good = subst IsTypedDemand wanted.2 (of.typed wanted.0 stands.demand wanted.1) }

-- ---- what it is called

-- the cell has its demand's id and name
record IsCalled (demand : Demand) (cell : CellConfig) : Type 0 where
  id : cell.id ≡ demand.id
  name : name_of cell ≡ demand.name

called : (of : PlannedImage) (cell : CellConfig) (planned : PlannedCell of cell) → IsCalled planned.stands.demand cell
called of cell planned =
    let demand = planned.stands.demand in
    let fits = planned.stands.fits in
    subst (IsCalled demand) (sym fits.is) (record {
      id = refl;
      name = name_before demand.name (32 - length demand.name) (name_parts demand.name planned.good.0.name).bytes;
    })

-- another has neither its name nor its id where it hasn't those of the demand
other_called : (demand : Demand) (cell other : CellConfig) → IsCalled demand cell → has_taken demand other ≡ false → is_namesake cell other ≡ false
other_called demand cell other is free =
    ap (λ n. (other.id == n) || pointwise nat_eq (name_of other) (name_of cell)) is.id
    ∙ ap (λ n. (other.id == demand.id) || pointwise nat_eq (name_of other) n) is.name
    ∙ free

names_either_way : (xs ys : List ℕ) → pointwise nat_eq xs ys ≡ pointwise nat_eq ys xs
names_either_way [] [] = refl
names_either_way [] (y ∷ ys) = refl
names_either_way (x ∷ xs) [] = refl
names_either_way (x ∷ xs) (y ∷ ys) = ap (λ t. t && pointwise nat_eq xs ys) (same_test (x == y) (y == x) (λ e. eq-eqb y x (sym (eqb-true x y e))) (λ e. eq-eqb x y (sym (eqb-true y x e)))) ∙ ap (λ t. (y == x) && t) (names_either_way xs ys)

namesake_either_way : (one other : CellConfig) → is_namesake one other ≡ is_namesake other one
namesake_either_way one other =
    ap (λ t. t || pointwise nat_eq (name_of other) (name_of one)) (same_test (other.id == one.id) (one.id == other.id) (λ e. eq-eqb one.id other.id (sym (eqb-true other.id one.id e))) (λ e. eq-eqb other.id one.id (sym (eqb-true one.id other.id e))))
    ∙ ap (λ t. (one.id == other.id) || t) (names_either_way (name_of other) (name_of one))

-- root is no namesake
unlike_root : (of : PlannedImage) (cell : CellConfig) → PlannedCell of cell → is_namesake cell of.image.system.root ≡ false
unlike_root of cell planned =
    let s = planned.stands in
    let root = of.image.system.root in
    let free = or_parts (has_taken s.demand root) (list_any (has_taken s.demand) s.before) s.fits.unknown in
    other_called s.demand cell root (called of cell planned) free.0

-- the later of two cells of the plan isn't called as the earlier one is
unlike_earlier : (of : PlannedImage) (earlier later : CellConfig) (one : PlannedCell of earlier) (other : PlannedCell of later) → one.number < other.number → is_namesake later earlier ≡ false
unlike_earlier of earlier later one other less =
    let s = other.stands in
    let root = of.image.system.root in
    let free = or_parts (has_taken s.demand root) (list_any (has_taken s.demand) s.before) s.fits.unknown in
    other_called s.demand later earlier (called of later other) (list_any_false (has_taken s.demand) s.before earlier free.1 (s.behind one.number earlier less one.at))

-- where the two stand, if they aren't the same
data Order (m n : ℕ) : Type 0 where
  before : m < n → Order m n
  behind : n < m → Order m n

one_place : (of : PlannedImage) (one other : CellConfig) (a : PlannedCell of one) (b : PlannedCell of other) → a.number ≡ b.number → one ≡ other
one_place of one other a b same =
    let cells = of.planned.cells in
    same_Some one other (sym a.at ∙ ap (slice_get cells) same ∙ b.at)

order_of : (of : PlannedImage) (one other : CellConfig) (a : PlannedCell of one) (b : PlannedCell of other) → one.id ≢ other.id → Order a.number b.number
order_of of one other a b apart =
    elim (cases_lt a.number b.number) [
      | inl less ↦ before less
      | inr more ↦ elim (cases_lt b.number a.number) [
        | inl less ↦ behind less
        | inr also ↦ absurd (apart (ap (λ (c : CellConfig). c.id) (one_place of one other a b (omega (arith, more, also)))))
      ]
    ]

-- two cells of the plan with different ids aren't namesakes
unlike_by : (of : PlannedImage) (one other : CellConfig) (a : PlannedCell of one) (b : PlannedCell of other) → Order a.number b.number → is_namesake one other ≡ false
unlike_by of one other a b (before less) = namesake_either_way one other ∙ unlike_earlier of one other a b less
unlike_by of one other a b (behind less) = unlike_earlier of other one b a less

unlike : (of : PlannedImage) (one other : CellConfig) → PlannedCell of one → PlannedCell of other → one.id ≢ other.id → is_namesake one other ≡ false
unlike of one other a b apart = unlike_by of one other a b (order_of of one other a b apart)

-- ---- its CPUs and places

apart_places : (of : PlannedImage) (one other : CellConfig) (a : PlannedCell of one) (b : PlannedCell of other) → Order a.number b.number → EachTwoItems one other (λ r s x y. is_comm x ≡ false → is_comm y ≡ false → SharesNoPlace x y)
apart_places of one other a b (before less) =
    no_place of.image.system of.demands of.planned.cells of.plan.are (suc a.number) (suc b.number) one other (omega arith) (omega (arith, less)) a.at b.at
apart_places of one other a b (behind less) = λ r s x y ix iy plain unmarked at p q.
    no_place of.image.system of.demands of.planned.cells of.plan.are (suc b.number) (suc a.number) other one (omega arith) (omega (arith, less)) b.at a.at s r y x iy ix unmarked plain at q p

apart_cpus : (of : PlannedImage) (one other : CellConfig) (a : PlannedCell of one) (b : PlannedCell of other) → Order a.number b.number → (cpu : ℕ) → is_cpu_set one.cpu_set cpu ≡ true → is_cpu_set other.cpu_set cpu ≡ true → ⊥
apart_cpus of one other a b (before less) cpu mine its =
    both_ways (is_cpu_set other.cpu_set cpu) (no_cpu of.image.system of.demands of.planned.cells of.plan.are (suc a.number) (suc b.number) one other (omega arith) (omega (arith, less)) a.at b.at cpu mine) its
apart_cpus of one other a b (behind less) cpu mine its =
    both_ways (is_cpu_set one.cpu_set cpu) (no_cpu of.image.system of.demands of.planned.cells of.plan.are (suc b.number) (suc a.number) other one (omega arith) (omega (arith, less)) b.at a.at cpu its) mine

-- ---- cells of the plan in whatever order

among_at : (cells : List CellConfig) (n : ℕ) (cell : CellConfig) → slice_get cells n ≡ Some cell → Contains cells cell
among_at cells n cell at = (n, slice_get_within cells n cell at, get_or_from_slice_get cells n cell cell at)

own_at : (cells : List CellConfig) → HaveOwnIds cells → (a b : ℕ) (one other : CellConfig) → a < b → slice_get cells a ≡ Some one → slice_get cells b ≡ Some other → other.id ≢ one.id
own_at [] own a b one other less is also = absurd (let past = slice_get_within [] a one is in omega (arith, past))
own_at (c ∷ cs) own zero zero one other less is also = absurd (omega (arith, less))
own_at (c ∷ cs) own zero (suc b) one other less is also =
    let first : c ≡ one = same_Some c one is in
    subst (λ (x : CellConfig). other.id ≢ x.id) first (own.0 other (among_at cs b other also))
own_at (c ∷ cs) own (suc a) zero one other less is also = absurd (omega (arith, less))
own_at (c ∷ cs) own (suc a) (suc b) one other less is also = own_at cs own.1 a b one other (omega (arith, less)) is also

apart_all : (of : PlannedImage) (cells : List CellConfig) → HaveOwnIds cells → AreAmong cells of.planned.cells → AreApart of.image.system cells
apart_all of cells own among zero b one other some less is also = absurd (omega (arith, some))
apart_all of cells own among (suc a) zero one other some less is also = absurd (omega (arith, less))
apart_all of cells own among (suc a) (suc b) one other some less is also =
    let p = planned_cell of one (among one (among_at cells a one is)) in
    let q = planned_cell of other (among other (among_at cells b other also)) in
    let ids = own_at cells own a b one other (omega (arith, less)) is also in
    apart_places of one other p q (order_of of one other p q (λ same. ids (sym same)))

clean_all : (of : PlannedImage) (cells : List CellConfig) → HaveOwnIds cells → AreAmong cells of.planned.cells → IsClean of.image.system cells
clean_all of cells own among =
    let system = of.image.system in
    let alone = clean_from_nothing system [] of.admitted.system.clean in
    let sound : AreSound system cells = λ n cell at.
    let p = planned_cell of cell (among cell (among_at cells n cell at)) in
    sound_plan system of.demands of.planned.cells alone (good_demands of.demands of.typed) of.plan.are p.number cell p.at in
    clean_cells system cells alone sound (apart_all of cells own among)

-- so nothing is found that names the last of them
clean_verdict : (of : PlannedImage) (live : List CellConfig) (new : CellConfig) → HaveOwnIds (live ++ new ∷ []) → AreAmong (live ++ new ∷ []) of.planned.cells → verdict_of of.image.system live new ≡ Clean
unfolding verdict_of
clean_verdict of live new own among =
    let n = length live + 1 in
    let clean = clean_all of (live ++ new ∷ []) own among in
    ap (λ (found : List Finding). verdict_by (list_any (makes_invalid n) found) (list_any (makes_busy n) found)) (nothing_from_clean of.image.system (live ++ new ∷ []) clean)

-- ---- the cells that live

own_ids : (cells : List CellConfig) → AllPairs AreTwo cells → HaveOwnIds cells
own_ids [] two = tt
own_ids (c ∷ cs) two = (
  λ other (k, below, is).
      let differ = two_ids c (get_or cs k other) (two 0 (suc k) other (omega arith) (omega (arith, below))) in
      λ same. differ (sym same ∙ ap (λ (x : CellConfig). x.id) (sym is)),
  own_ids cs (λ i j d less within. two (suc i) (suc j) d (omega (arith, less)) (omega (arith, within))),
)

config_of_live : (lives : List Live) (cell : CellConfig) → Contains (configs_of lives) cell → (live : Live) × Contains lives live × (live.config ≡ cell)
config_of_live lives cell held = Contains_from_map (λ (live : Live). live.config) lives cell held

live_among : (board : PlannedBoard) (cell : CellConfig) → Contains (configs_of (facts_of board).cells) cell → Contains board.of.planned.cells cell
live_among board cell held =
    let l = config_of_live (facts_of board).cells cell held in
    subst (Contains board.of.planned.cells) l.2 (board.live l.0 l.1)

live_other : (board : PlannedBoard) (config : CellConfig) (caller at : ℕ) → IsCreateOf board config caller at → (cell : CellConfig) → Contains (configs_of (facts_of board).cells) cell → cell.id ≢ config.id
live_other board config caller at create cell held =
    let l = config_of_live (facts_of board).cells cell held in
    subst (λ (c : CellConfig). c.id ≢ config.id) l.2 (create.new l.0 l.1)

-- ---- none of the causes holds

board_sound : (board : PlannedBoard) → IsSound board.of.image (facts_of board)
board_sound board = legal_sound board.of.image board.form board.entries board.of.admitted board.legal

unknown : (board : PlannedBoard) (config : CellConfig) (caller at : ℕ) → IsCreateOf board config caller at → is_known (board.of.image.system.root ∷ configs_of (facts_of board).cells) config ≡ false
unknown board config caller at create =
    let of = board.of in
    let root = of.image.system.root in
    let mine = planned_cell of config create.among in
    list_any_nothing (is_namesake config) (root ∷ configs_of (facts_of board).cells) (λ cell held.
    elim (Contains_cases root (configs_of (facts_of board).cells) cell held) [
      | inl is ↦ subst (λ (c : CellConfig). is_namesake config c ≡ false) is (unlike_root of config mine)
      | inr lives ↦ unlike of config cell mine (planned_cell of cell (live_among board cell lives)) (λ same. live_other board config caller at create cell lives (sym same))
    ])

-- no CPU of the cell is one of a cell that lives
free_cpu : (board : PlannedBoard) (config : CellConfig) (caller at : ℕ) → IsCreateOf board config caller at → (cpu : ℕ) → is_cpu_set config.cpu_set cpu ≡ true → IsOwner board.of.image (configs_of (facts_of board).cells) ((facts_of board).cpu cpu).owner → ((facts_of board).cpu cpu).owner ≡ board.of.image.system.root.id
free_cpu board config caller at create cpu has (inl roots) = roots
free_cpu board config caller at create cpu has (inr (cell, held, owns)) =
    let of = board.of in
    let sound = board_sound board in
    let its = (sound.cpus.cells cell held).named cpu owns in
    let a = planned_cell of config create.among in
    let b = planned_cell of cell (live_among board cell held) in
    absurd (apart_cpus of config cell a b (order_of of config cell a b (λ same. live_other board config caller at create cell held (sym same))) cpu has its)

given_cpu : (board : PlannedBoard) (config : CellConfig) (caller at : ℕ) → IsCreateOf board config caller at → (cpu : ℕ) → is_cpu_set config.cpu_set cpu ≡ true → may_give board.of.image (facts_of board) caller cpu ≡ true
given_cpu board config caller at create cpu has =
    let of = board.of in
    let image = of.image in
    let root = image.system.root in
    let owner = ((facts_of board).cpu cpu).owner in
    let s = (planned_cell of config create.among).stands in
    let roots : is_on_board image cpu ≡ true = of_root root s.before s.demand config s.fits cpu has in
    let above = above_lowest root s.before s.demand config s.fits cpu has in
    let other : not (cpu == caller) ≡ true = not_from_false (cpu == caller) (false_from_ne_true (cpu == caller) (λ same.
    both_ways (any_below (is_cpu_set root.cpu_set) caller) create.by_lowest.lowest (ap (any_below (is_cpu_set root.cpu_set)) (sym (eqb-true cpu caller same)) ∙ above))) in
    let owns = free_cpu board config caller at create cpu has ((board_sound board).cpus.others cpu) in
    and_from (is_on_board image cpu && not (cpu == caller)) (owner == root.id)
    (and_from (is_on_board image cpu) (not (cpu == caller)) roots other)
    (eq-eqb owner root.id owns)

-- what the laws of tables and of spellings say, which the create rests on
pub record Laws (config : CellConfig) : Type 0 where
  pub keeps : KeepsTables
  pub counts : CountsTables
  pub told : IsCell config → IsWithinLimits config → IsTold config

accepted_all : (board : PlannedBoard) (config : CellConfig) (caller at : ℕ) → Laws config → IsCreateOf board config caller at
    → IsAccepted board.of.image.system (configs_of (facts_of board).cells) config (may_give board.of.image (facts_of board) caller)
    (pages_of board.of.image.system.root.memory_regions (configs_of (facts_of board).cells ++ config ∷ [])) (pool_pages board.of.image.system)
accepted_all board config caller at laws create =
    let of = board.of in
    let system = of.image.system in
    let lives = configs_of (facts_of board).cells in
    let own : HaveOwnIds lives = own_ids lives (λ i j d less within. (board_sound board).cells.differ (suc i) (suc j) d (omega (arith, less)) (omega (arith, within))) in
    let both : HaveOwnIds (lives ++ config ∷ []) = own_id_too lives config own (live_other board config caller at create) in
    let among : AreAmong (lives ++ config ∷ []) of.planned.cells = λ cell held. elim (Contains-push_cases lives config cell held) [
      | inl live ↦ live_among board cell live
      | inr is ↦ subst (Contains of.planned.cells) is create.among
    ] in
    let fewer = pages_among laws.keeps laws.counts system.root.memory_regions (lives ++ config ∷ []) of.planned.cells both among in
    record {
      unknown = unknown board config caller at create;
      cpus = given_cpu board config caller at create;
      clean = clean_verdict of lives config both among;
      room = omega (arith, fewer, of.plan.pages, of.plan.room);
    }

-- ---- what is read

pub written : (of : PlannedImage) (cell : CellConfig) → PlannedCell of cell → IsCell cell × IsWithinLimits cell
written of cell planned =
    let s = planned.stands in
    let fits = s.fits in
    let good = planned.good in
    let ends = free_ends of.image.system.root s.before s.demand.size fits.place good.0.some_size (root_within of.image.system of.admitted.system) fits.highest.free in
    subst (λ (c : CellConfig). IsCell c × IsWithinLimits c) (sym fits.is)
    (typed s.demand fits.set fits.place good.0.name good.1 ends fits.room, limited s.demand fits.set fits.place good.0.name fits.cpus.bytes)

long_spelling : (cell : CellConfig) → IsCell cell → IsWithinLimits cell → 132 ≤ length (spelling cell)
long_spelling cell is limits = omega (arith, length_body_bytes cell is limits)

reads : (board : PlannedBoard) (config : CellConfig) (caller at : ℕ) → Laws config → IsCreateOf board config caller at → read_at board.of.image (facts_of board) at ≡ Reads config
reads board config caller at laws create =
    let may = written board.of config (planned_cell board.of config create.among) in
    read_back board.of.image (facts_of board) at config (laws.told may.0 may.1) (long_spelling config may.0 may.1) create.spelled

-- ---- so it is accepted

pub created : (board : PlannedBoard) (config : CellConfig) (caller at : ℕ) → Laws config → IsCreateOf board config caller at → creation_of board.of.image (facts_of board) caller at ≡ Accepted config
unfolding creation_of
created board config caller at laws create =
    let image = board.of.image in
    let f = facts_of board in
    let lives = configs_of f.cells in
    let pages = pages_of image.system.root.memory_regions (lives ++ config ∷ []) in
    let none = accepted_to image.system lives config (may_give image f caller) pages (pool_pages image.system) (accepted_all board config caller at laws create) in
    ap (λ locked. if locked then Refused EPERM else creation_by image f caller (read_at image f at)) board.unlocked
    ∙ ap (creation_by image f caller) (reads board config caller at laws create)
    ∙ ap (unless_refused config) none
