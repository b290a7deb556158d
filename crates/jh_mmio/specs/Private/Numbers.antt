-- Which region has an address, told by its number.
use Rattle.std.specs.Prelude.{◌≡◌, ℕ, ◌<◌, List, Option, Some, slice_get, length, IfSome, IsTrue}
use Rattle.jh_cellcfg.specs.declared.region.Region.{Region}
use Rattle.jh_cellcfg.specs.Regions.{has_address}

-- no region but the one of the number found can have the address
pub record IsNumberAt (regions : List Region) (at : ℕ) (found : Option ℕ) : Type 0 where
  pub own : IfSome found (λ k. k < length regions)
  pub only : (k : ℕ) (r : Region) → slice_get regions k ≡ Some r → IsTrue (has_address r at) → found ≡ Some k
