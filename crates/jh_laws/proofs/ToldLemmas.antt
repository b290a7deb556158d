-- The cells that are told of a change, in a list of cells with different ids.
use Rattle.std.proofs.Common.{◌≡◌, ◌≢◌, ℕ, suc, ◌<◌, ◌≤◌, List, [], ◌∷◌, ◌++◌, Bool, true, false, cond, not, eqb, length, map, get_or, Option, Some, None, refl, sym, ap, ◌∙◌, ⊎_elim, append-nil, arith}
use Rattle.std.specs.Prelude.{AllPairs, filter, find, option_map}
use Rattle.std.specs.List.{AllByRecursion}
use Rattle.std.proofs.lemmas.Bool.{and_left, cases_Bool, cond_both, eqb-true, eq-eqb, ne_eqb}
use Rattle.std.proofs.lemmas.List.Elements.{recursion_from_All}
use Rattle.std.proofs.lemmas.Option.{none-some, same_Some}
use Rattle.jh_check.specs.Refusals.{AreTwo}
use Rattle.jh_cellcfg.specs.declared.config.CellConfig.{CellConfig}
use Rattle.jh_cellcfg.specs.declared.live.Live.{Live}
use Rattle.jh_cellcfg.specs.Lives.{id_of, has_id}
use Rattle.jh_shape.specs.Lives.{configs_of}
use Rattle.jh_history.specs.Calls.{is_recipient, first_recipient, listed_behind}
use Rattle.jh_history.specs.Commits.{is_other}
use Rattle.jh_history.proofs.Public.{two_ids}
use Rattle.jh_laws.specs.Notes.{hears_of}

-- the ids of those that are told
abbrev pub heard_ids : ℕ → List Live → List ℕ
heard_ids about cells = map id_of (filter (is_recipient about) cells)

-- ---- different ids

abbrev IsAlone : ℕ → List Live → Type 0
IsAlone id cells = AllByRecursion (λ (c : CellConfig). id ≢ c.id) (configs_of cells)

abbrev pub AreAlone : List Live → Type 0
AreAlone [] = Unit {0}
AreAlone (live ∷ lives) = IsAlone live.config.id lives × AreAlone lives

pub alone_by_pairs : (cells : List Live) → AllPairs AreTwo (configs_of cells) → AreAlone cells
alone_by_pairs [] two = tt
alone_by_pairs (live ∷ lives) two = (
  recursion_from_All (λ (c : CellConfig). live.config.id ≢ c.id) (configs_of lives) (λ i d lt. two_ids live.config (get_or (configs_of lives) i d) (two 0 (suc i) d (omega arith) (omega arith))),
  alone_by_pairs lives (λ i j d lt within. two (suc i) (suc j) d (omega arith) (omega arith)),
)

-- ---- the first that is told

first_cond : (about : ℕ) (live : Live) (lives : List Live) (b : Bool) → is_recipient about live ≡ b → first_recipient about (live ∷ lives) ≡ cond b (Some (id_of live)) (first_recipient about lives)
first_cond about live lives true is = ap (λ (x : Bool). option_map id_of (cond x (Some live) (find (is_recipient about) lives))) is
first_cond about live lives false is = ap (λ (x : Bool). option_map id_of (cond x (Some live) (find (is_recipient about) lives))) is

heard_cond : (about : ℕ) (live : Live) (lives : List Live) (b : Bool) → is_recipient about live ≡ b → heard_ids about (live ∷ lives) ≡ cond b (id_of live ∷ heard_ids about lives) (heard_ids about lives)
heard_cond about live lives true is = ap (λ (x : Bool). map id_of (cond x (live ∷ filter (is_recipient about) lives) (filter (is_recipient about) lives))) is
heard_cond about live lives false is = ap (λ (x : Bool). map id_of (cond x (live ∷ filter (is_recipient about) lives) (filter (is_recipient about) lives))) is

abbrev head_of : List ℕ → Option ℕ
head_of [] = None
head_of (id ∷ ids) = Some id

pub first_is_head : (about : ℕ) (cells : List Live) → first_recipient about cells ≡ head_of (heard_ids about cells)
first_is_head about [] = refl
first_is_head about (live ∷ lives) =
    ⊎_elim
    (λ (yes : is_recipient about live ≡ true). first_cond about live lives true yes ∙ sym (ap head_of (heard_cond about live lives true yes)))
    (λ (no : is_recipient about live ≡ false). first_cond about live lives false no ∙ first_is_head about lives ∙ sym (ap head_of (heard_cond about live lives false no)))
    (cases_Bool (is_recipient about live))

empty_by_head : (ids : List ℕ) → head_of ids ≡ None → ids ≡ []
empty_by_head [] is = refl
empty_by_head (id ∷ ids) is = absurd (none-some id (sym is))

pub none_told : (about : ℕ) (cells : List Live) → first_recipient about cells ≡ None → heard_ids about cells ≡ []
none_told about cells is = empty_by_head (heard_ids about cells) (sym (first_is_head about cells) ∙ is)

-- another one than a cell whose id none of them has
apart_from_first : (about id other : ℕ) (cells : List Live) → IsAlone other cells → first_recipient about cells ≡ Some id → other ≢ id
apart_from_first about id other [] alone is = absurd (none-some id is)
apart_from_first about id other (live ∷ lives) alone is =
    ⊎_elim
    (λ (yes : is_recipient about live ≡ true) same. alone.0 (same ∙ sym (same_Some (id_of live) id (sym (first_cond about live lives true yes) ∙ is))))
    (λ (no : is_recipient about live ≡ false). apart_from_first about id other lives alone.1 (sym (first_cond about live lives false no) ∙ is))
    (cases_Bool (is_recipient about live))

-- ---- the cells behind one

behind_here : (id : ℕ) (live : Live) (lives : List Live) → id_of live ≡ id → listed_behind id (live ∷ lives) ≡ lives
behind_here id live lives is = ap (λ (b : Bool). cond b lives (listed_behind id lives)) (eq-eqb (id_of live) id is)

behind_later : (id : ℕ) (live : Live) (lives : List Live) → id_of live ≢ id → listed_behind id (live ∷ lives) ≡ listed_behind id lives
behind_later id live lives other = ap (λ (b : Bool). cond b lives (listed_behind id lives)) (ne_eqb (id_of live) id other)

alone_behind_one : (id other : ℕ) (cells : List Live) → IsAlone other cells → IsAlone other (listed_behind id cells)
alone_behind_one id other [] alone = alone
alone_behind_one id other (live ∷ lives) alone =
    cond_both (eqb (id_of live) id) lives (listed_behind id lives) (IsAlone other) (λ _. alone.1) (λ _. alone_behind_one id other lives alone.1)

pub alone_behind : (id : ℕ) (cells : List Live) → AreAlone cells → AreAlone (listed_behind id cells)
alone_behind id [] alone = tt
alone_behind id (live ∷ lives) alone =
    cond_both (eqb (id_of live) id) lives (listed_behind id lives) AreAlone (λ _. alone.1) (λ _. alone_behind id lives alone.1)

-- the first, and those behind it
pub one_told : (about id : ℕ) (cells : List Live) → AreAlone cells → first_recipient about cells ≡ Some id → heard_ids about cells ≡ id ∷ heard_ids about (listed_behind id cells)
one_told about id [] alone is = absurd (none-some id is)
one_told about id (live ∷ lives) alone is =
    ⊎_elim
    (λ (yes : is_recipient about live ≡ true).
    let own : id_of live ≡ id = same_Some (id_of live) id (sym (first_cond about live lives true yes) ∙ is) in
    heard_cond about live lives true yes
    ∙ ap (λ (k : ℕ). k ∷ heard_ids about lives) own
    ∙ ap (λ (behind : List Live). id ∷ heard_ids about behind) (sym (behind_here id live lives own)))
    (λ (no : is_recipient about live ≡ false).
    let later : first_recipient about lives ≡ Some id = sym (first_cond about live lives false no) ∙ is in
    heard_cond about live lives false no
    ∙ one_told about id lives alone.1 later
    ∙ ap (λ (behind : List Live). id ∷ heard_ids about behind) (sym (behind_later id live lives (apart_from_first about id (id_of live) lives alone.0 later))))
    (cases_Bool (is_recipient about live))

-- those behind one of those behind another
pub behind_next : (about id next : ℕ) (cells : List Live) → AreAlone cells → first_recipient about (listed_behind id cells) ≡ Some next → listed_behind next (listed_behind id cells) ≡ listed_behind next cells
behind_next about id next [] alone is = refl
behind_next about id next (live ∷ lives) alone is =
    ⊎_elim
    (λ (here : eqb (id_of live) id ≡ true).
    let behind : listed_behind id (live ∷ lives) ≡ lives = behind_here id live lives (eqb-true (id_of live) id here) in
    let later : first_recipient about lives ≡ Some next = ap (first_recipient about) (sym behind) ∙ is in
    ap (listed_behind next) behind ∙ sym (behind_later next live lives (apart_from_first about next (id_of live) lives alone.0 later)))
    (λ (away : eqb (id_of live) id ≡ false).
    let behind : listed_behind id (live ∷ lives) ≡ listed_behind id lives = ap (λ (b : Bool). cond b lives (listed_behind id lives)) away in
    let later : first_recipient about (listed_behind id lives) ≡ Some next = ap (first_recipient about) (sym behind) ∙ is in
    let other = apart_from_first about next (id_of live) (listed_behind id lives) (alone_behind_one id (id_of live) lives alone.0) later in
    ap (listed_behind next) behind ∙ behind_next about id next lives alone.1 later ∙ sym (behind_later next live lives other))
    (cases_Bool (eqb (id_of live) id))

-- ---- the cell that it is about isn't told

own_unheard : (about : ℕ) (live : Live) → id_of live ≡ about → is_recipient about live ≡ false
own_unheard about live is = and_left (not (eqb (id_of live) about)) _ (ap not (eq-eqb (id_of live) about is))

heard_append : (about : ℕ) (one other : List Live) → heard_ids about (one ++ other) ≡ heard_ids about one ++ heard_ids about other
heard_append about [] other = refl
heard_append about (live ∷ lives) other =
    ⊎_elim
    (λ (yes : is_recipient about live ≡ true).
    heard_cond about live (lives ++ other) true yes ∙ ap (λ (ids : List ℕ). id_of live ∷ ids) (heard_append about lives other) ∙ sym (ap (λ (ids : List ℕ). ids ++ heard_ids about other) (heard_cond about live lives true yes)))
    (λ (no : is_recipient about live ≡ false).
    heard_cond about live (lives ++ other) false no ∙ heard_append about lives other ∙ sym (ap (λ (ids : List ℕ). ids ++ heard_ids about other) (heard_cond about live lives false no)))
    (cases_Bool (is_recipient about live))

pub heard_joined : (about : ℕ) (cells : List Live) (live : Live) → id_of live ≡ about → heard_ids about (cells ++ live ∷ []) ≡ heard_ids about cells
heard_joined about cells live is =
    heard_append about cells (live ∷ [])
    ∙ ap (λ (ids : List ℕ). heard_ids about cells ++ ids) (heard_cond about live [] false (own_unheard about live is))
    ∙ append-nil (heard_ids about cells)

pub heard_others : (about : ℕ) (cells : List Live) → heard_ids about (filter (is_other about) cells) ≡ heard_ids about cells
heard_others about [] = refl
heard_others about (live ∷ lives) =
    let rest : List Live = filter (is_other about) lives in
    ⊎_elim
    (λ (own : eqb (id_of live) about ≡ true).
    ap (λ (b : Bool). heard_ids about (cond (not b) (live ∷ rest) rest)) own ∙ heard_others about lives ∙ sym (heard_cond about live lives false (own_unheard about live (eqb-true (id_of live) about own))))
    (λ (other : eqb (id_of live) about ≡ false).
    ap (λ (b : Bool). heard_ids about (cond (not b) (live ∷ rest) rest)) other
    ∙ ⊎_elim
    (λ (yes : is_recipient about live ≡ true). heard_cond about live rest true yes ∙ ap (λ (ids : List ℕ). id_of live ∷ ids) (heard_others about lives) ∙ sym (heard_cond about live lives true yes))
    (λ (no : is_recipient about live ≡ false). heard_cond about live rest false no ∙ heard_others about lives ∙ sym (heard_cond about live lives false no))
    (cases_Bool (is_recipient about live)))
    (cases_Bool (eqb (id_of live) about))

-- ---- their configurations, and how many they are

config_cond : (about : ℕ) (config : CellConfig) (configs : List CellConfig) (b : Bool) → hears_of about config ≡ b
    → map (λ (c : CellConfig). c.id) (filter (hears_of about) (config ∷ configs)) ≡ cond b (config.id ∷ map (λ (c : CellConfig). c.id) (filter (hears_of about) configs)) (map (λ (c : CellConfig). c.id) (filter (hears_of about) configs))
config_cond about config configs true is = ap (λ (x : Bool). map (λ (c : CellConfig). c.id) (cond x (config ∷ filter (hears_of about) configs) (filter (hears_of about) configs))) is
config_cond about config configs false is = ap (λ (x : Bool). map (λ (c : CellConfig). c.id) (cond x (config ∷ filter (hears_of about) configs) (filter (hears_of about) configs))) is

pub heard_configs : (about : ℕ) (cells : List Live) → map (λ (c : CellConfig). c.id) (filter (hears_of about) (configs_of cells)) ≡ heard_ids about cells
heard_configs about [] = refl
heard_configs about (live ∷ lives) =
    ⊎_elim
    (λ (yes : is_recipient about live ≡ true).
    config_cond about live.config (configs_of lives) true yes ∙ ap (λ (ids : List ℕ). id_of live ∷ ids) (heard_configs about lives) ∙ sym (heard_cond about live lives true yes))
    (λ (no : is_recipient about live ≡ false).
    config_cond about live.config (configs_of lives) false no ∙ heard_configs about lives ∙ sym (heard_cond about live lives false no))
    (cases_Bool (is_recipient about live))

pub heard_few : (about : ℕ) (cells : List Live) → length (heard_ids about cells) ≤ length cells
heard_few about [] = omega arith
heard_few about (live ∷ lives) =
    let rest = heard_few about lives in
    ⊎_elim
    (λ (yes : is_recipient about live ≡ true). let e : length (heard_ids about (live ∷ lives)) ≡ suc (length (heard_ids about lives)) = ap length (heard_cond about live lives true yes) in omega (arith, e, rest))
    (λ (no : is_recipient about live ≡ false). let e : length (heard_ids about (live ∷ lives)) ≡ length (heard_ids about lives) = ap length (heard_cond about live lives false no) in omega (arith, e, rest))
    (cases_Bool (is_recipient about live))

-- fewer where the cell that it is about is among them
pub others_fewer : (about : ℕ) (cells : List Live) (live : Live) → find (has_id about) cells ≡ Some live → length (filter (is_other about) cells) < length cells
others_fewer about [] found is = absurd (none-some found is)
others_fewer about (live ∷ lives) found is =
    let rest : List Live = filter (is_other about) lives in
    ⊎_elim
    (λ (own : eqb (id_of live) about ≡ true).
    let e : length (filter (is_other about) (live ∷ lives)) ≡ length rest = ap (λ (b : Bool). length (cond (not b) (live ∷ rest) rest)) own in
    omega (arith, e, filtered_few about lives))
    (λ (other : eqb (id_of live) about ≡ false).
    let e : length (filter (is_other about) (live ∷ lives)) ≡ suc (length rest) = ap (λ (b : Bool). length (cond (not b) (live ∷ rest) rest)) other in
    let later : find (has_id about) lives ≡ Some found = sym (ap (λ (b : Bool). cond b (Some live) (find (has_id about) lives)) other) ∙ is in
    omega (arith, e, others_fewer about lives found later))
    (cases_Bool (eqb (id_of live) about))
  where
    filtered_few : (k : ℕ) (cells : List Live) → length (filter (is_other k) cells) ≤ length cells
    filtered_few k [] = omega arith
    filtered_few k (x ∷ xs) =
        let ys : List Live = filter (is_other k) xs in
        let few = filtered_few k xs in
        cond_both (not (eqb (id_of x) k)) (x ∷ ys) ys (λ (zs : List Live). length zs ≤ suc (length xs)) (λ _. omega (arith, few)) (λ _. omega (arith, few))
