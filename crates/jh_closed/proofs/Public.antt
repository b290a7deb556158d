-- What crates above cite: what one cell more closes.
use Rattle.std.proofs.Common.{◌≡◌, ℕ, Bool, ◌||◌, List, [], ◌∷◌, ◌++◌, sym, ap, ◌∙◌}
use Rattle.std.specs.List.{list_any}
use Rattle.std.proofs.Math.Bool.{or-false}
use Rattle.std.proofs.lemmas.List.Folds.{list_any-append}
use Rattle.jh_num.proofs.Public.{list_any_map}
use Rattle.jh_cellcfg.specs.declared.region.Region.{Region}
use Rattle.jh_cellcfg.specs.declared.live.Live.{Live}
use Rattle.jh_shape.specs.Claims.{Holder}
use Rattle.jh_shape.specs.Shapes.{takes, holder_of_live}
use Rattle.jh_closed.specs.Closed.{is_taken, is_closed_by}

-- a cell closes the places that it takes
abbrev pub takes_live : ℕ → Live → Bool
takes_live place live = is_taken live.loadable live.config.memory_regions place

-- what cells close, cell by cell
pub closed_lives : (lives : List Live) (place : ℕ) → is_closed_by lives place ≡ list_any (takes_live place) lives
closed_lives lives place = list_any_map holder_of_live (λ (h : Holder). list_any (λ (r : Region). takes h.loadable r place) h.regions) lives

-- one cell more closes what it takes
pub closed_added : (lives : List Live) (new : Live) (place : ℕ) → is_closed_by (lives ++ new ∷ []) place ≡ (is_closed_by lives place || is_taken new.loadable new.config.memory_regions place)
closed_added lives new place =
    closed_lives (lives ++ new ∷ []) place
    ∙ list_any-append (takes_live place) lives (new ∷ [])
    ∙ ap (λ b. list_any (takes_live place) lives || b) (or-false (takes_live place new))
    ∙ ap (λ b. b || takes_live place new) (sym (closed_lives lives place))
