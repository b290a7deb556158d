-- The text of the maps of all live cells.
use Rattle.std.proofs.Common.{◌≡◌, ℕ, Bool, true, false, cond, eqb, List, [], ◌∷◌, ◌++◌, Option, Some, None, refl, sym, ap, ◌∙◌, ⊎_elim, append_assoc}
use Rattle.std.specs.Prelude.{Contains, find, option_map}
use Rattle.std.proofs.lemmas.Bool.{eq-eqb, both_ways}
use Rattle.std.proofs.lemmas.List.{append-nil}
use Rattle.std.proofs.lemmas.Option.{none-some}
use Rattle.jh_num.proofs.Public.{Contains_cases, Contains_from_map, find_None}
use Rattle.jh_cellcfg.specs.declared.config.CellConfig.{CellConfig}
use Rattle.jh_cellcfg.specs.declared.live.Live.{Live}
use Rattle.jh_cellcfg.specs.declared.region.Region.{Region}
use Rattle.jh_cellcfg.specs.Lives.{has_id}
use Rattle.jh_map.specs.declared.run.Run.{Run}
use Rattle.jh_map.specs.Maps.{IsMap}
use Rattle.jh_script.specs.declared.image.Image.{Image}
use Rattle.jh_history.specs.Lives.{live_in, cell_in, regions_in}
use Rattle.jh_text.specs.Maps.{map_text}
use Rattle.jh_shape.specs.Lives.{all_cells, configs_of}
use Rattle.jh_board.specs.Maps.{is_closed_at, IsMapIn}
use Rattle.jh_run.specs.Maps.{AreMaps}

-- ---- a live cell is found by its id

none_found : (o : Option Live) → option_map (λ (live : Live). live.config) o ≡ None → o ≡ None
none_found None e = refl
none_found (Some live) e = absurd (none-some live.config (sym e))

not_found : (lives : List Live) (cell : CellConfig) → Contains (configs_of lives) cell → live_in lives cell.id ≡ None → ⊥
not_found lives cell held e =
    let live = Contains_from_map (λ (l : Live). l.config) lives cell held in
    both_ways (eqb live.0.config.id cell.id) (find_None (has_id cell.id) lives live.0 (none_found (find (has_id cell.id) lives) e) live.1)
    (eq-eqb live.0.config.id cell.id (ap (λ (c : CellConfig). c.id) live.2))

not_other : (image : Image) (lives : List Live) (cell : CellConfig) (b : Bool) → eqb cell.id image.system.root.id ≡ b → Contains (all_cells image.system.root lives) cell → cond b (Some image.system.root) (live_in lives cell.id) ≡ None → ⊥
not_other image lives cell true is held e = none-some image.system.root (sym e)
not_other image lives cell false is held e = ⊎_elim
    (λ (same : image.system.root ≡ cell). both_ways (eqb cell.id image.system.root.id) is (eq-eqb cell.id image.system.root.id (sym (ap (λ (c : CellConfig). c.id) same))))
    (λ (later : Contains (configs_of lives) cell). not_found lives cell later e)
    (Contains_cases image.system.root (configs_of lives) cell held)

pub lives_on : (image : Image) (lives : List Live) (cell : CellConfig) → Contains (all_cells image.system.root lives) cell → cell_in image lives cell.id ≡ None → ⊥
lives_on image lives cell held e = not_other image lives cell (eqb cell.id image.system.root.id) refl held e

-- ---- one map more

pub one_more : (image : Image) (lives : List Live) (cells : List CellConfig) (cell : CellConfig) (runs : List Run) (text : List ℕ) → AreMaps image lives cells text → IsMapIn image lives cell.id runs → AreMaps image lives (cells ++ cell ∷ []) (text ++ map_text cell runs)
one_more image lives [] cell runs text e is = (runs, [], is, ap (λ t. t ++ map_text cell runs) e ∙ sym (append-nil (map_text cell runs)), refl)
one_more image lives (first ∷ cells) cell runs text (own, rest, own_is, e, more) is =
    (own, rest ++ map_text cell runs, own_is, ap (λ t. t ++ map_text cell runs) e ∙ append_assoc (map_text first own) rest (map_text cell runs), one_more image lives cells cell runs rest more is)

-- ---- one text

abbrev pub MapsLaw : Type 0
MapsLaw = (closed : ℕ → Bool) (regions : List Region) (one other : List Run) → IsMap closed regions one → IsMap closed regions other → one ≡ other

pub one_text : MapsLaw → (image : Image) (lives : List Live) (cells : List CellConfig) (one other : List ℕ) → AreMaps image lives cells one → AreMaps image lives cells other → one ≡ other
one_text law image lives [] one other e f = e ∙ sym f
one_text law image lives (cell ∷ cells) one other (runs, rest, is, e, more) (runs', rest', is', e', more') =
    let same : runs ≡ runs' = law (is_closed_at image lives cell.id) (regions_in image lives cell.id) runs runs' is is' in
    let ends : rest ≡ rest' = one_text law image lives cells rest rest' more more' in
    e ∙ (λ i. map_text cell (same i) ++ ends i) ∙ sym e'
