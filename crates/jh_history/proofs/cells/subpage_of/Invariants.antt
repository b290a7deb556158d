-- What is left of the regions has the access.
use Rattle.std.proofs.Common.{◌≡◌, Bool, drop}
use Rattle.std.specs.Prelude.{find}
use Rattle.jh_cellcfg.specs.declared.region.Region.{Region}
use Rattle.jh_mmio.specs.Dispatch.{takes_all}
use Rattle.jh_history.specs.declared.place.Place.TheVariants.{Physical}
use Rattle.jh_history.specs.Grants.{is_closed_to}
use Rattle.jh_history.proofs.cells.subpage_of.Given as goal

abbrev pub invariant-loop-region : goal.invariant-loop-region
invariant-loop-region l =
    let p : Region → Bool = takes_all (λ q. is_closed_to l.image l.cells l.cell (Physical q)) l.wanted.at l.wanted.width in
    find p (drop l.region-index l.regions) ≡ find p l.regions
