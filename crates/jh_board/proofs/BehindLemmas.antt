-- What answers an access where no memory does.
use Rattle.std.proofs.Common.{◌≡◌, ℕ, ◌≤◌, Bool, cond, List, Some, None, ap, sym, ◌∙◌}
use Rattle.std.specs.List.{list_any}
use Rattle.jh_cellcfg.specs.declared.live.Live.{Live}
use Rattle.jh_cellcfg.specs.declared.region.Region.{Region}
use Rattle.jh_mmio.specs.Dispatch.{unless_closed}
use Rattle.jh_script.specs.declared.image.Image.{Image}
use Rattle.jh_history.specs.declared.place.Place.TheVariants.{Physical}
use Rattle.jh_history.specs.Places.{places_in_row}
use Rattle.jh_history.specs.Access.{place_in_cell}
use Rattle.jh_history.specs.Grants.{is_closed_to}
use Rattle.jh_history.proofs.Public.{kept_row}

-- the region that has all of the access is that which takes it, unless the cell is kept from one
pub unless_kept : (image : Image) (cells : List Live) (id at n : ℕ) (r : Region) (b : Bool) → r.virt_start ≤ at → b ≡ list_any (is_closed_to image cells id) (places_in_row (place_in_cell id r at) n)
    → unless_closed (λ p. is_closed_to image cells id (Physical p)) at n (Some r) ≡ cond b None (Some r)
unless_kept image cells id at n r b low is = ap (λ (c : Bool). cond c None (Some r)) (sym (kept_row image cells id at n r low) ∙ sym is)
