-- Which places are free, and the runs of addresses that lead to them.
use Rattle.std.specs.Prelude.{◌≡◌, ℕ, ◌+◌, ◌-◌, ◌<◌, Bool, false, not, List}
use Rattle.jh_num.specs.declared.address.TheConstants.{ADDRESS_END}
use Rattle.jh_num.specs.declared.range.Range.{Range}
use Rattle.jh_num.specs.Bytes.{has_byte}
use Rattle.jh_cellcfg.specs.declared.region.Region.{Region}
use Rattle.jh_cellcfg.specs.Regions.{is_page_mapped, rights_of}
use Rattle.jh_map.specs.declared.run.Run.{Run}

-- the ranges have the places that are free: those that aren't closed
abbrev pub AreFree : (ℕ → Bool) → List Range → Type 0
AreFree closed ranges = (place : ℕ) → place < ADDRESS_END → has_byte ranges place ≡ not (closed place)

-- the addresses that the region leads to those places of it
abbrev pub run_to : Region → Range → Run
run_to region places = record {
  start = region.virt_start + (places.start - region.phys_start);
  end = region.virt_start + (places.end - region.phys_start);
  place = places.start;
  comm = false;
  rights = rights_of region;
  page = is_page_mapped region;
}
