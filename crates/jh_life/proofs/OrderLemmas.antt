-- Cells in order of creation.
use Rattle.std.proofs.Common.{◌≡◌, ℕ, Bool, true, false, cond, ◌==◌, List, [], ◌∷◌, ◌++◌, map, fold, refl, sym, ap, ◌∙◌, inl, inr}
use Rattle.std.specs.Prelude.{filter}
use Rattle.std.proofs.lemmas.Bool.{cases_Bool, both_ways, eq-eqb, ne_eqb, eqb-true}
use Rattle.std.proofs.lemmas.List.{append-nil}
use Rattle.jh_num.proofs.Public.{filter_all}
use Rattle.jh_cellcfg.specs.declared.config.CellConfig.{CellConfig}
use Rattle.jh_cellcfg.specs.declared.live.Live.{Live}
use Rattle.jh_cellcfg.specs.Lives.{has_id}
use Rattle.jh_shape.specs.Lives.{configs_of, marked, new_live}
use Rattle.jh_shape.proofs.Public.{configs_marked}
use Rattle.jh_life.specs.Changes.{CellChange, Created, Dropped, Marked, without, after, is_never_dropped, lasting}

-- ---- a cell is created

one : (b : Bool) (config : CellConfig) (rest : List CellConfig) → cond b (config ∷ []) [] ++ rest ≡ cond b (config ∷ rest) rest
one true config rest = refl
one false config rest = refl

before : (b : Bool) (config : CellConfig) (xs ys us vs : List CellConfig) → xs ++ us ≡ ys ++ vs → cond b (config ∷ xs) xs ++ us ≡ cond b (config ∷ ys) ys ++ vs
before true config xs ys us vs e = ap (λ (rest : List CellConfig). config ∷ rest) e
before false config xs ys us vs e = e

created : (config : CellConfig) (changes : List CellChange) (lives : List Live) → filter (is_never_dropped changes) (configs_of (lives ++ new_live config ∷ [])) ++ lasting changes ≡ filter (is_never_dropped changes) (configs_of lives) ++ lasting (Created config ∷ changes)
created config changes [] = one (is_never_dropped changes config) config (lasting changes)
created config changes (x ∷ xs) =
    before (is_never_dropped changes x.config) x.config (filter (is_never_dropped changes) (configs_of (xs ++ new_live config ∷ []))) (filter (is_never_dropped changes) (configs_of xs)) (lasting changes) (lasting (Created config ∷ changes))
    (created config changes xs)

-- ---- a cell is dropped

dropped : (id : ℕ) (changes : List CellChange) (lives : List Live) → filter (is_never_dropped changes) (configs_of (without id lives)) ≡ filter (is_never_dropped (Dropped id ∷ changes)) (configs_of lives)
dropped id changes [] = refl
dropped id changes (x ∷ xs) =
    elim (cases_Bool (has_id id x)) [
      | inl is ↦
          let same : (id == x.config.id) ≡ true = eq-eqb id x.config.id (sym (eqb-true x.config.id id is)) in
          rw (is, same) (dropped id changes xs)
      | inr isnt ↦
          let other : (id == x.config.id) ≡ false = ne_eqb id x.config.id (λ e. both_ways (has_id id x) isnt (eq-eqb x.config.id id (sym e))) in
          rw (isnt, other) (ap (λ (rest : List CellConfig). cond (is_never_dropped changes x.config) (x.config ∷ rest) rest) (dropped id changes xs))
    ]

-- ---- and all

pub listed : (changes : List CellChange) (lives : List Live) → configs_of (fold after lives changes) ≡ filter (is_never_dropped changes) (configs_of lives) ++ lasting changes
listed [] lives = sym (append-nil (filter (is_never_dropped []) (configs_of lives)) ∙ filter_all (is_never_dropped []) (configs_of lives) (λ config _. refl))
listed (Created config ∷ changes) lives = listed changes (after lives (Created config)) ∙ created config changes lives
listed (Dropped id ∷ changes) lives =
    listed changes (without id lives) ∙ ap (λ (configs : List CellConfig). configs ++ lasting changes) (dropped id changes lives)
listed (Marked id on ∷ changes) lives =
    listed changes (map (marked id on) lives) ∙ ap (λ (configs : List CellConfig). filter (is_never_dropped changes) configs ++ lasting changes) (configs_marked id on lives)
