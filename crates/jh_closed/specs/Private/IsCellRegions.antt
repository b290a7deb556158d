-- What is true of the regions of every cell.
use Rattle.std.specs.Prelude.{◌≡◌, ℕ, true, false, IfSome, IfNone}
use Rattle.jh_closed.specs.Closed.{is_taken, AreTaken}
use Rattle.jh_closed.specs.declared.cell_regions.CellRegions.TheInside.{Inside}

-- `taken` has the places that the cell takes from root while it isn't loadable, `withheld` those that it takes while it is;
-- where there is no `withheld`, both are the same
pub record IsCellRegions (s : Inside) : Type 0 where
  pub taken : AreTaken false s.by_address s.taken.ranges
  pub withheld : IfSome s.withheld (λ withheld. AreTaken true s.by_address withheld.ranges)
  pub same : IfNone s.withheld ((place : ℕ) → is_taken true s.by_address place ≡ is_taken false s.by_address place)
