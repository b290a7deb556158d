-- Where root's id is another, the number is one past the index among the other cells, or none.
use Rattle.std.proofs.Common.{◌≡◌, ℕ, ◌+◌, ◌<◌, ◌≤◌, ◌==◌, Bool, false, List, length, Some, position, sym, ap, ◌∙◌, arith}
use Rattle.std.specs.Prelude.{Option, option_map}
use Rattle.std.proofs.lemmas.Bool.{ne_eqb}
use Rattle.jh_cellcfg.specs.declared.config.CellConfig.{CellConfig}
use Rattle.jh_cellcfg.specs.declared.live.Live.{Live}
use Rattle.jh_shape.specs.Lives.{configs_of, with_marks}
use Rattle.jh_shape.proofs.Public.{configs_joined}
use Rattle.jh_life.specs.CellsView.{CellsView}
use Rattle.jh_life.specs.Lives.{has_config_id, number_with_id}
use Rattle.jh_life.proofs.JoinedLemmas.{position_behind, position_within}
use Rattle.jh_life.proofs.cells.Cells.find.Goals as goal

-- one past the index, where there is one
numbered : (seen : CellsView) (root id it : ℕ) (index : Option ℕ) → root ≡ seen.system.root.id → (root ≡ id → ⊥) → it ≡ id → index ≡ position (has_config_id it) (configs_of seen.lives) → option_map (λ k. k + 1) index ≡ number_with_id seen id
numbered seen root id it index same other is found =
    let differs : (seen.system.root.id == id) ≡ false = ne_eqb seen.system.root.id id (λ e. other (same ∙ e)) in
    ap (λ (o : Option ℕ). option_map (λ k. k + 1) o) (found ∙ ap (λ n. position (has_config_id n) (configs_of seen.lives)) is)
    ∙ sym (position_behind (has_config_id id) seen.system.root (configs_of seen.lives) differs)

-- the index is one of at most 15 cells
few : (lives : List Live) (configs : List CellConfig) (marks : List Bool) (id k : ℕ) → with_marks configs marks ≡ lives → length marks ≡ length configs → length configs ≤ 15 → position (has_config_id id) (configs_of lives) ≡ Some k → k < 15
few lives configs marks id k same even most found =
    let within = position_within (has_config_id id) (configs_of lives) k found in
    let count : length (configs_of lives) ≡ length configs =
    ap (λ (ls : List Live). length (configs_of ls)) (sym same) ∙ ap (λ (cs : List CellConfig). length cs) (configs_joined configs marks even) in
    omega arith

below : (c : goal.In-Some) → c.in-Some.index < 15
below c =
    few c.args.self.now.lives c.self.inside.configs.items c.self.inside.marks.items c.from.result c.in-Some.index
    (ap (λ (s : CellsView). s.lives) c.self.view_is) c.self.invariant.even c.self.invariant.few (sym c.index_of.ensures ∙ c.in-Some.is)

pub overflow_cast-result : goal.overflow_cast-result
overflow_cast-result c = let l = below c in omega arith

pub overflow_add-result : goal.overflow_add-result
overflow_add-result c = let l = below c in omega arith

pub returns-in-Some : goal.returns-in-Some
returns-in-Some c =
    sym (ap (λ (o : Option ℕ). option_map (λ k. k + 1) o) c.in-Some.is)
    ∙ numbered c.args.self.now c.self.inside.system.root.id c.args.id c.from.result c.index_of.result
    (ap (λ (s : CellsView). s.system.root.id) c.self.view_is) c.if-self-id.false c.from.ensures c.index_of.ensures

pub returns-in-None : goal.returns-in-None
returns-in-None c =
    sym (ap (λ (o : Option ℕ). option_map (λ k. k + 1) o) c.in-None.is)
    ∙ numbered c.args.self.now c.self.inside.system.root.id c.args.id c.from.result c.index_of.result
    (ap (λ (s : CellsView). s.system.root.id) c.self.view_is) c.if-self-id.false c.from.ensures c.index_of.ensures
