-- How the search for windows goes on.
use Rattle.std.specs.Prelude.{◌≡◌, ◌≤◌, ◌%◌, ◌^◌, ℕ}
use Rattle.jh_num.specs.declared.address.TheConstants.{PAGE_SIZE}
use Rattle.jh_cellcfg.specs.declared.region.Region.{Region}
use Rattle.jh_cellcfg.specs.Regions.{virt_end}

-- the page is the first that begins at the region's end or behind it, and it begins within 32 bits or just behind
pub record IsPageBehind (region : Region) (first : ℕ) : Type 0 where
  pub aligned : first % PAGE_SIZE ≡ 0
  pub behind : virt_end region ≤ first
  pub least : (other : ℕ) → other % PAGE_SIZE ≡ 0 → virt_end region ≤ other → first ≤ other
  pub low : first ≤ 2 ^ 32
