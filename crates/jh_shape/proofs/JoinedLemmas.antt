-- Configurations, each with its mark.
use Rattle.std.proofs.Common.{◌≡◌, ℕ, zero, suc, ◌<◌, Bool, true, false, cond, List, [], ◌∷◌, ◌++◌, length, map, remove, refl, ap, ◌∙◌, arith}
use Rattle.jh_cellcfg.specs.declared.config.CellConfig.{CellConfig}
use Rattle.jh_cellcfg.specs.declared.live.Live.{Live}
use Rattle.jh_cellcfg.specs.Lives.{has_id}
use Rattle.jh_shape.specs.Lives.{configs_of, with_marks, marked}

abbrev pub live_of : CellConfig → Bool → Live
live_of config mark = record { config = config; loadable = mark }

pub configs_joined : (cells : List CellConfig) (marks : List Bool) → length marks ≡ length cells → configs_of (with_marks cells marks) ≡ cells
configs_joined [] marks e = refl
configs_joined (c ∷ cs) [] e = absurd (omega arith)
configs_joined (c ∷ cs) (m ∷ ms) e = ap (λ (rest : List CellConfig). c ∷ rest) (configs_joined cs ms (omega arith))

pub length_joined : (cells : List CellConfig) (marks : List Bool) → length marks ≡ length cells → length (with_marks cells marks) ≡ length cells
length_joined [] marks e = refl
length_joined (c ∷ cs) [] e = absurd (omega arith)
length_joined (c ∷ cs) (m ∷ ms) e = ap (λ n. suc n) (length_joined cs ms (omega arith))

-- one more at the end
pub joined_push : (cells : List CellConfig) (marks : List Bool) (c : CellConfig) (mark : Bool) → length marks ≡ length cells → with_marks (cells ++ c ∷ []) (marks ++ mark ∷ []) ≡ with_marks cells marks ++ live_of c mark ∷ []
joined_push [] [] c mark e = refl
joined_push [] (m ∷ ms) c mark e = absurd (omega arith)
joined_push (x ∷ cs) [] c mark e = absurd (omega arith)
joined_push (x ∷ cs) (m ∷ ms) c mark e = ap (λ (rest : List Live). live_of x m ∷ rest) (joined_push cs ms c mark (omega arith))

-- one less
pub joined_remove : (i : ℕ) (cells : List CellConfig) (marks : List Bool) → length marks ≡ length cells → i < length cells → with_marks (remove cells i) (remove marks i) ≡ remove (with_marks cells marks) i
joined_remove i [] marks e l = absurd (omega arith)
joined_remove i (c ∷ cs) [] e l = absurd (omega arith)
joined_remove zero (c ∷ cs) (m ∷ ms) e l = refl
joined_remove (suc i) (c ∷ cs) (m ∷ ms) e l = ap (λ (rest : List Live). live_of c m ∷ rest) (joined_remove i cs ms (omega arith) (omega arith))

-- a mark changes no configuration
pub config_marked : (b loadable : Bool) (live : Live) → (cond b (record live { loadable = loadable }) live).config ≡ live.config
config_marked true loadable live = refl
config_marked false loadable live = refl

pub configs_marked : (id : ℕ) (loadable : Bool) (cells : List Live) → configs_of (map (marked id loadable) cells) ≡ configs_of cells
configs_marked id loadable [] = refl
configs_marked id loadable (live ∷ cells) =
    ap (λ (config : CellConfig). config ∷ configs_of (map (marked id loadable) cells)) (config_marked (has_id id live) loadable live)
    ∙ ap (λ (rest : List CellConfig). live.config ∷ rest) (configs_marked id loadable cells)
