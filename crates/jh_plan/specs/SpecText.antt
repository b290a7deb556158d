-- The text of a plan: a SPEC for each cell, and the pages.
use Rattle.std.specs.Prelude.{ℕ, zero, suc, List, [], ◌∷◌, ◌++◌, map, codes, decimal, if◌then◌else◌}
use Rattle.std.specs.List.{flat_map, join_with_byte}
use Rattle.jh_cellcfg.specs.declared.config.CellConfig.{CellConfig}
use Rattle.jh_cellcfg.specs.declared.region.Region.{Region}
use Rattle.jh_plan.specs.declared.planning.Planned.{Planned}
use Rattle.jh_cellcfg.specs.Cells.{name_of, is_cpu_set}

-- the CPUs below the number that the set names, the least first
unfoldable pub cpus_below : List ℕ → ℕ → List ℕ
cpus_below set zero = []
cpus_below set (suc n) = cpus_below set n ++ (if is_cpu_set set n then n ∷ [] else [])

-- the texts with a comma between each two
abbrev pub with_commas : List (List ℕ) → List ℕ
with_commas texts = join_with_byte 44 texts

-- what stands before the text of this number: a comma, but nothing before the first
abbrev pub comma : ℕ → List ℕ
comma zero = []
comma (suc n) = codes ","

-- the object of a region
abbrev pub region_text : Region → List ℕ
region_text region =
    codes "{\"flags\":" ++ (decimal region.flags ++ (codes ",\"phys\":" ++ (decimal region.phys_start
    ++ (codes ",\"size\":" ++ (decimal region.size ++ (codes ",\"virt\":" ++ (decimal region.virt_start ++ codes "}")))))))

-- what stands before the name
unfoldable pub head_text : CellConfig → List ℕ
head_text cell =
    codes "{\"cpus\":[" ++ (with_commas (map decimal (cpus_below cell.cpu_set 16)) ++ (codes "],\"id\":" ++ (decimal cell.id
    ++ codes ",\"kind\":\"cell\",\"name\":\"")))

-- what stands behind the name
unfoldable pub tail_text : CellConfig → List ℕ
tail_text cell = codes "\",\"regions\":[" ++ (with_commas (map region_text cell.memory_regions) ++ codes "]}")

-- the object of a cell, with its members in the order of their names
abbrev pub spec_text : CellConfig → List ℕ
spec_text cell = head_text cell ++ (name_of cell ++ tail_text cell)

-- the line of a cell
abbrev pub spec_line : CellConfig → List ℕ
spec_line cell = spec_text cell ++ 10 ∷ []

-- the line that tells how many pages are used, of how many
abbrev pub pages_line : ℕ → ℕ → List ℕ
pages_line used pool = codes "pages " ++ (decimal used ++ (codes " of " ++ (decimal pool ++ 10 ∷ [])))

-- the text of a plan beside a pool of so many pages: a line for each cell, and last that of the pages
abbrev pub plan_text : Planned → ℕ → List ℕ
plan_text planned pool = flat_map spec_line planned.cells ++ pages_line planned.pages pool
