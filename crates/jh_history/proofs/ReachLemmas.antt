-- What the regions of a cell give, unless it is closed to the cell; and memory first, else what answers behind it.
use Rattle.std.proofs.Common.{◌≡◌, ℕ, List, Option, Some, None, ap, sym, ◌∙◌}
use Rattle.jh_cellcfg.specs.declared.live.Live.{Live}
use Rattle.jh_cellcfg.specs.declared.region.Region.{Region}
use Rattle.jh_script.specs.declared.image.Image.{Image}
use Rattle.jh_history.specs.declared.access.Access.{Access}
use Rattle.jh_history.specs.declared.place.Place.{Place}
use Rattle.jh_history.specs.declared.access.Reach.{Reach}
use Rattle.jh_history.specs.declared.access.Reach.TheVariants.{Memory}
use Rattle.jh_history.specs.Access.{place_of, memory_or_nothing, or_behind, reach_by}
use Rattle.jh_history.specs.Grants.{granted_in, is_closed_to}
use Rattle.jh_history.specs.Lives.{regions_in}
use Rattle.jh_history.proofs.GrantedLemmas.{unless_kept, reach_granted}

pub granted_by_regions : (image : Image) (lives : List Live) (cell : ℕ) (regions : List Region) (access : Access) (at width : ℕ) (found : Option (List Place)) → regions ≡ regions_in image lives cell
    → memory_or_nothing found ≡ reach_by (place_of cell regions access) at width → unless_kept (is_closed_to image lives cell) (memory_or_nothing found) ≡ reach_by (granted_in image lives cell access) at width
granted_by_regions image lives cell regions access at width found same is =
    let kept = is_closed_to image lives cell in
    ap (unless_kept kept) (is ∙ ap (λ (rs : List Region). reach_by (place_of cell rs access) at width) same) ∙ sym (reach_granted cell (regions_in image lives cell) kept access at width)

pub reaches_memory : (places : List Place) (reach behind : Reach) → memory_or_nothing (Some places) ≡ reach → Memory places ≡ or_behind reach behind
reaches_memory places reach behind h = ap (λ (r : Reach). or_behind r behind) h

pub reaches_behind : (reach behind found : Reach) → memory_or_nothing None ≡ reach → found ≡ behind → found ≡ or_behind reach behind
reaches_behind reach behind found h same = same ∙ ap (λ (r : Reach). or_behind r behind) h
