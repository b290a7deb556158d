-- Blocks of a cell's regions, which follow each other there.
use Rattle.std.specs.Prelude.{◌≡◌, ℕ, ◌+◌, ◌*◌, ◌<◌, ◌≤◌, true, if◌then◌else◌, List, length, drop, slice_index_or}
use Rattle.jh_cellcfg.specs.declared.region.Region.{Region}
use Rattle.jh_cellcfg.specs.declared.config.CellConfig.{CellConfig}
use Rattle.jh_check.specs.declared.finding.Finding.{Finding}
use Rattle.jh_check.specs.declared.rule.Rule.{Rule}
use Rattle.jh_check.specs.declared.spans.Span.{Span}
use Rattle.jh_check.specs.declared.blocks.Extents.{Extents}
use Rattle.jh_check.specs.declared.blocks.TheConstants.{BLOCK}
use Rattle.jh_check.specs.Private.Spans.{takes_part, span_of, LiesWithin}
use Rattle.jh_check.specs.Findings.{between_at}
use Rattle.jh_check.specs.Lists.{found_from}
use Rattle.jh_check.specs.Private.Envelopes.{passes_shared}

-- the span is within the extent
abbrev pub IsInside : Span → Span → Type 0
IsInside span extent = LiesWithin span extent.start extent.end

-- the one extents are within the others
pub record AreInside (one other : Extents) : Type 0 where
  pub any : IsInside one.any other.any
  pub unshared : IsInside one.unshared other.unshared

-- the extent by which the region is looked for
abbrev pub extent_for : Rule → Region → Extents → Span
extent_for rule region extents = if passes_shared rule region then extents.unshared else extents.any

-- each of the regions from the number `first` on, below `end`, that takes part is within the extent by which it is looked
-- for
abbrev pub AreExtentsOf : Rule → List Region → ℕ → ℕ → Extents → Type 0
AreExtentsOf rule regions first end extents =
    (r : ℕ) (d : Region) → first ≤ r → r < end → r < length regions → takes_part rule (slice_index_or regions r d) ≡ true
    → IsInside (span_of rule r (slice_index_or regions r d)) (extent_for rule (slice_index_or regions r d) extents)

-- each region that takes part is within the extent by which it is looked for
abbrev pub AreExtents : Rule → List Region → Extents → Type 0
AreExtents rule regions extents = AreExtentsOf rule regions 0 (length regions) extents

-- the blocks are those of the regions: each has its regions, and each region is in one of them
pub record AreBlocks (rule : Rule) (regions : List Region) (blocks : List Extents) : Type 0 where
  pub each : (k : ℕ) (d : Extents) → k < length blocks → AreExtentsOf rule regions (BLOCK * k) (BLOCK * k + BLOCK) (slice_index_or blocks k d)
  pub enough : length regions ≤ BLOCK * length blocks

-- what a rule about two regions finds in each region of the one cell, from the number `first` on, with each of the other
abbrev pub between_from : Rule → ℕ → CellConfig → ℕ → CellConfig → ℕ → List Finding
between_from rule a one b other first = found_from (between_at rule a one b other) first (drop first one.memory_regions)
