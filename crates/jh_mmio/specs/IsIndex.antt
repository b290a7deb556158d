-- What is true of every index.
use Rattle.std.specs.Prelude.{AllPairs}
use Rattle.jh_cellcfg.specs.Regions.{SharesNoAddress}
use Rattle.jh_mmio.specs.Index.{IsOrder}
use Rattle.jh_mmio.specs.declared.index.RegionIndex.TheInside.{Inside}

-- no two of the regions share an address, and the order is that of their first addresses
pub record IsIndex (s : Inside) : Type 0 where
  pub apart : AllPairs SharesNoAddress s.regions.items
  pub order : IsOrder s.regions.items s.order.items
