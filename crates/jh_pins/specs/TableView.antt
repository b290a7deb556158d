-- What contracts see of a table of pins.
use Rattle.std.specs.Prelude.{◌≢◌, List, ◌∷◌, AllPairs}
use Rattle.jh_pins.specs.Claims.{Claim}

-- what root claims, and what each cell besides it claims, in order of creation
pub record TableView : Type 0 where
  pub root : Claim
  pub cells : List Claim

-- the claims are those of two cells
abbrev pub AreTwoCells : Claim → Claim → Type 0
AreTwoCells one other = one.id ≢ other.id

-- no two of root and the cells have one id
abbrev pub HaveOwnIds : Claim → List Claim → Type 0
HaveOwnIds root cells = AllPairs AreTwoCells (root ∷ cells)
