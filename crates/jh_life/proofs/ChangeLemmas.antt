-- Cells by their ids.
use Rattle.std.proofs.Common.{◌≡◌, ℕ, zero, suc, ◌<◌, Bool, true, false, cond, nat_eq, ◌==◌, List, [], ◌∷◌, ◌++◌, length, map, get_or, set, remove, fold, Some, None, refl, sym, ap, subst, ◌∙◌, inl, inr, arith}
use Rattle.std.specs.Prelude.{Option, AllPairs, slice_get, option_map}
use Rattle.std.specs.Option.{option_or}
use Rattle.std.specs.List.{find}
use Rattle.std.proofs.lemmas.Bool.{cases_Bool, both_ways, eq-eqb, ne_eqb, eqb-true, or_parts}
use Rattle.std.proofs.lemmas.Option.{none-some, same_Some}
use Rattle.std.proofs.lemmas.List.{get_or-map, length-map}
use Rattle.std.proofs.lemmas.List.Folds.{find-append}
use Rattle.std.specs.Cmp.Lexicographic.{pointwise}
use Rattle.jh_num.proofs.Public.{find_map, IsFound_from_find}
use Rattle.jh_cellcfg.specs.declared.config.CellConfig.{CellConfig}
use Rattle.jh_cellcfg.specs.declared.live.Live.{Live}
use Rattle.jh_cellcfg.specs.Cells.{name_of}
use Rattle.jh_cellcfg.specs.Lives.{has_id}
use Rattle.jh_check.specs.Refusals.{AreTwo}
use Rattle.jh_shape.specs.Lives.{marks_of, configs_of, marked, new_live}
use Rattle.jh_shape.proofs.Public.{config_marked}
use Rattle.jh_life.specs.Changes.{CellChange, Created, Dropped, Marked, without, after, live_after, AreNew}

-- ---- one cell with an id

-- no two have the id
abbrev pub IsSingle : ℕ → List Live → Type 0
IsSingle id lives = (j k : ℕ) (d : Live) → j < k → k < length lives → has_id id (get_or lives j d) ≡ true → has_id id (get_or lives k d) ≡ true → ⊥

later : (id : ℕ) (x : Live) (xs : List Live) → IsSingle id (x ∷ xs) → IsSingle id xs
later id x xs single j k d l within at_j at_k = single (suc j) (suc k) d (omega arith) (omega arith) at_j at_k

-- where the first has it, no other does
others : (id : ℕ) (x : Live) (xs : List Live) → IsSingle id (x ∷ xs) → has_id id x ≡ true → (k : ℕ) (d : Live) → k < length xs → has_id id (get_or xs k d) ≡ false
others id x xs single is k d l =
    elim (cases_Bool (has_id id (get_or xs k d))) [
      | inl also ↦ absurd (single 0 (suc k) d (omega arith) (omega arith) is also)
      | inr isnt ↦ isnt
    ]

pub single : (root : CellConfig) (lives : List Live) (id : ℕ) → AllPairs AreTwo (root ∷ configs_of lives) → IsSingle id lives
single root lives id differ j k d l within at_j at_k =
    let one = get_or lives j d in
    let other = get_or lives k d in
    let name : Live → CellConfig = λ live. live.config in
    let e : get_or (map name lives) j root ≡ one.config = get_or-map name lives j d root (omega arith) in
    let f : get_or (map name lives) k root ≡ other.config = get_or-map name lives k d root within in
    let len : length (map name lives) ≡ length lives = length-map lives name in
    let two : AreTwo one.config other.config = subst (λ (x : CellConfig). AreTwo x other.config) e
    (subst (λ (y : CellConfig). AreTwo (get_or (map name lives) j root) y) f (differ (suc j) (suc k) root (omega arith) (omega arith))) in
    let ids : (one.config.id == other.config.id) ≡ false = (or_parts (one.config.id == other.config.id) (pointwise nat_eq (name_of one.config) (name_of other.config)) two).0 in
    let a = eqb-true one.config.id id at_j in
    let b = eqb-true other.config.id id at_k in
    both_ways (one.config.id == other.config.id) ids (eq-eqb one.config.id other.config.id (omega arith))

-- ---- a cell's number and its id

without_none : (id : ℕ) (xs : List Live) → ((k : ℕ) (d : Live) → k < length xs → has_id id (get_or xs k d) ≡ false) → without id xs ≡ xs
without_none id [] h = refl
without_none id (x ∷ xs) h =
    let first : has_id id x ≡ false = h 0 x (omega arith) in
    rw first (ap (λ (rest : List Live). x ∷ rest) (without_none id xs (λ k d l. h (suc k) d (omega arith))))

none_at : (i id : ℕ) (xs : List Live) (cell : Live) → slice_get xs i ≡ Some cell → ((k : ℕ) (d : Live) → k < length xs → has_id id (get_or xs k d) ≡ false) → has_id id cell ≡ false
none_at i id [] cell is h = absurd (none-some cell is)
none_at zero id (x ∷ xs) cell is h = ap (has_id id) (sym (same_Some x cell is)) ∙ h 0 x (omega arith)
none_at (suc i) id (x ∷ xs) cell is h = none_at i id xs cell is (λ k d l. h (suc k) d (omega arith))

pub remove_without : (i id : ℕ) (xs : List Live) (cell : Live) → IsSingle id xs → slice_get xs i ≡ Some cell → has_id id cell ≡ true → remove xs i ≡ without id xs
remove_without i id [] cell one is has = absurd (none-some cell is)
remove_without zero id (x ∷ xs) cell one is has =
    let here : has_id id x ≡ true = ap (has_id id) (same_Some x cell is) ∙ has in
    rw here (sym (without_none id xs (others id x xs one here)))
remove_without (suc i) id (x ∷ xs) cell one is has =
    elim (cases_Bool (has_id id x)) [
      | inl here ↦ absurd (both_ways (has_id id cell) (none_at i id xs cell is (others id x xs one here)) has)
      | inr isnt ↦ rw isnt (ap (λ (rest : List Live). x ∷ rest) (remove_without i id xs cell (later id x xs one) is has))
    ]

-- two lists of the same configurations with the same marks
pub lives_same : (xs ys : List Live) → configs_of xs ≡ configs_of ys → marks_of xs ≡ marks_of ys → xs ≡ ys
lives_same [] [] e f = refl
lives_same [] (y ∷ ys) e f = cc
lives_same (x ∷ xs) [] e f = cc
lives_same (x ∷ xs) (y ∷ ys) e f =
    let config : x.config ≡ y.config = cc in
    let mark : x.loadable ≡ y.loadable = cc in
    let configs : configs_of xs ≡ configs_of ys = cc in
    let marks : marks_of xs ≡ marks_of ys = cc in
    let same : x ≡ y = λ i. record { config = config i; loadable = mark i } in
    let rest = lives_same xs ys configs marks in
    λ i. same i ∷ rest i

marked_none : (id : ℕ) (on : Bool) (xs : List Live) → ((k : ℕ) (d : Live) → k < length xs → has_id id (get_or xs k d) ≡ false) → marks_of (map (marked id on) xs) ≡ marks_of xs
marked_none id on [] h = refl
marked_none id on (x ∷ xs) h =
    let first : has_id id x ≡ false = h 0 x (omega arith) in
    rw first (ap (λ (rest : List Bool). x.loadable ∷ rest) (marked_none id on xs (λ k d l. h (suc k) d (omega arith))))

pub marked_marks : (i id : ℕ) (on : Bool) (xs : List Live) (cell : Live) → IsSingle id xs → slice_get xs i ≡ Some cell → has_id id cell ≡ true → marks_of (map (marked id on) xs) ≡ set (marks_of xs) i on
marked_marks i id on [] cell one is has = absurd (none-some cell is)
marked_marks zero id on (x ∷ xs) cell one is has =
    let here : has_id id x ≡ true = ap (has_id id) (same_Some x cell is) ∙ has in
    rw here (ap (λ (rest : List Bool). on ∷ rest) (marked_none id on xs (others id x xs one here)))
marked_marks (suc i) id on (x ∷ xs) cell one is has =
    elim (cases_Bool (has_id id x)) [
      | inl here ↦ absurd (both_ways (has_id id cell) (none_at i id xs cell is (others id x xs one here)) has)
      | inr isnt ↦ rw isnt (ap (λ (rest : List Bool). x.loadable ∷ rest) (marked_marks i id on xs cell (later id x xs one) is has))
    ]

-- ---- one change

pick : (b : Bool) (known : Option Live) (new : Live) → (b ≡ true → known ≡ None) → option_or known (cond b (Some new) None) ≡ cond b (Some new) known
pick true known new none = ap (λ (o : Option Live). option_or o (Some new)) (none refl)
pick false None new none = refl
pick false (Some x) new none = refl

tell_created : (id : ℕ) (config : CellConfig) (lives : List Live) → find (has_id config.id) lives ≡ None → find (has_id id) (lives ++ new_live config ∷ []) ≡ live_after id (find (has_id id) lives) (Created config)
tell_created id config lives none =
    find-append (has_id id) lives (new_live config ∷ [])
    ∙ pick (config.id == id) (find (has_id id) lives) (new_live config) (λ e. subst (λ k. find (has_id k) lives ≡ None) (eqb-true config.id id e) none)

skip : (g b : Bool) (x : Live) (known : Option Live) → (g ≡ false → b ≡ false) → cond g None known ≡ cond g None (cond b (Some x) known)
skip true b x known h = refl
skip false true x known h = absurd (both_ways true (h refl) refl)
skip false false x known h = refl

keep : (g b : Bool) (x : Live) (known : Option Live) → (g ≡ true → b ≡ false) → cond b (Some x) (cond g None known) ≡ cond g None (cond b (Some x) known)
keep true true x known h = absurd (both_ways true (h refl) refl)
keep true false x known h = refl
keep false true x known h = refl
keep false false x known h = refl

nothing : (g : Bool) → ◌≡◌ {A = Option Live} None (cond g None None)
nothing true = refl
nothing false = refl

tell_dropped : (id gone : ℕ) (lives : List Live) → find (has_id id) (without gone lives) ≡ live_after id (find (has_id id) lives) (Dropped gone)
tell_dropped id gone [] = nothing (gone == id)
tell_dropped id gone (x ∷ xs) =
    elim (cases_Bool (has_id gone x)) [
      | inl is ↦
          let at = eqb-true x.config.id gone is in
          rw is (tell_dropped id gone xs ∙ skip (gone == id) (has_id id x) x (find (has_id id) xs) (λ g.
          ne_eqb x.config.id id (λ e. both_ways (gone == id) g (eq-eqb gone id (sym at ∙ e)))))
      | inr isnt ↦
          rw isnt (ap (λ (o : Option Live). cond (has_id id x) (Some x) o) (tell_dropped id gone xs) ∙ keep (gone == id) (has_id id x) x (find (has_id id) xs) (λ g.
          ne_eqb x.config.id id (λ e. both_ways (has_id gone x) isnt (eq-eqb x.config.id gone (e ∙ sym (eqb-true gone id g))))))
    ]

-- a mark changes no id
same_id : (id set : ℕ) (on : Bool) (live : Live) → has_id id (marked set on live) ≡ has_id id live
same_id id set on live = ap (λ (config : CellConfig). config.id == id) (config_marked (has_id set live) on live)

same_ids : (id set : ℕ) (on : Bool) → ◌≡◌ {A = Live → Bool} (λ live. has_id id (marked set on live)) (has_id id)
same_ids id set on = λ i live. same_id id set on live i

mark_of : (id set : ℕ) (on : Bool) (lives : List Live) (known : Option Live) → find (has_id id) lives ≡ known → option_map (marked set on) known ≡ live_after id known (Marked set on)
mark_of id set on lives None found = nothing (set == id)
mark_of id set on lives (Some live) found =
    let has : has_id id live ≡ true = (IsFound_from_find (has_id id) lives live found).passes in
    let at = eqb-true live.config.id id has in
    elim (cases_Bool (set == id)) [
      | inl same ↦
          let hit : has_id set live ≡ true = eq-eqb live.config.id set (at ∙ sym (eqb-true set id same)) in
          rw (hit, same) refl
      | inr other ↦
          let miss : has_id set live ≡ false = ne_eqb live.config.id set (λ e. both_ways (set == id) other (eq-eqb set id (sym e ∙ at))) in
          rw (miss, other) refl
    ]

tell_marked : (id set : ℕ) (on : Bool) (lives : List Live) → find (has_id id) (map (marked set on) lives) ≡ live_after id (find (has_id id) lives) (Marked set on)
tell_marked id set on lives =
    find_map (marked set on) (has_id id) lives
    ∙ ap (λ (p : Live → Bool). option_map (marked set on) (find p lives)) (same_ids id set on)
    ∙ mark_of id set on lives (find (has_id id) lives) refl

-- ---- and all

pub changes_told : (id : ℕ) (changes : List CellChange) (lives : List Live) → AreNew lives changes → find (has_id id) (fold after lives changes) ≡ fold (live_after id) (find (has_id id) lives) changes
changes_told id [] lives new = refl
changes_told id (Created config ∷ changes) lives new =
    changes_told id changes (after lives (Created config)) new.1 ∙ ap (λ (o : Option Live). fold (live_after id) o changes) (tell_created id config lives new.0)
changes_told id (Dropped gone ∷ changes) lives new =
    changes_told id changes (without gone lives) new ∙ ap (λ (o : Option Live). fold (live_after id) o changes) (tell_dropped id gone lives)
changes_told id (Marked set on ∷ changes) lives new =
    changes_told id changes (map (marked set on) lives) new ∙ ap (λ (o : Option Live). fold (live_after id) o changes) (tell_marked id set on lives)
