-- What is asked of a preload by itself and beside those that stand before it.
use Rattle.std.specs.Prelude.{All, List}
use Rattle.jh_cellcfg.specs.declared.region.Region.{Region}
use Rattle.jh_script.specs.declared.image.Preload.{Preload}
use Rattle.jh_history.specs.Admitted.{IsSoundPreload, IsOtherPreload}

-- a preload has no fault: it ends within the places, and meets neither the hypervisor's memory nor one
-- that stands before it
pub record IsFaultless (hypervisor : Region) (earlier : List Preload) (preload : Preload) : Type 0 where
  pub sound : IsSoundPreload hypervisor preload
  pub apart : All (λ other. IsOtherPreload other preload) earlier
