-- Cells whose regions begin in the order of their numbers.
use Rattle.std.specs.Prelude.{◌≡◌, ℕ, ◌<◌, ◌≤◌, ◌⊎◌, true, false, List, length, slice_index_or}
use Rattle.jh_cellcfg.specs.declared.region.Region.{Region}
use Rattle.jh_check.specs.declared.rule.Rule.{Rule}
use Rattle.jh_check.specs.declared.envelope.ItemRange.{ItemRange}
use Rattle.jh_check.specs.declared.rising.Scan.{Scan}
use Rattle.jh_check.specs.Private.Spans.{takes_part, span_of}

-- where the region of that number begins, as the rule compares it
abbrev pub start_at : Rule → List Region → Region → ℕ → ℕ
start_at rule regions d k = (span_of rule k (slice_index_or regions k d)).start

-- where the region of that number ends, as the rule compares it
abbrev pub end_at : Rule → List Region → Region → ℕ → ℕ
end_at rule regions d k = (span_of rule k (slice_index_or regions k d)).end

-- the region of that number may break the rule as one of a pair
abbrev pub TakesPart : Rule → List Region → Region → ℕ → Type 0
TakesPart rule regions d k = takes_part rule (slice_index_or regions k d) ≡ true

-- of the first regions, those that take part begin in the order of their numbers, and have ended where those behind
-- them begin, where they stand before `first` or those behind `last`
pub record IsRisingTo (rule : Rule) (regions : List Region) (n first last : ℕ) : Type 0 where
  pub rising : (i j : ℕ) (d : Region) → i < j → j < n → TakesPart rule regions d i → TakesPart rule regions d j → start_at rule regions d i ≤ start_at rule regions d j
  pub before : (i j : ℕ) (d : Region) → i < j → j < n → i < first → TakesPart rule regions d i → TakesPart rule regions d j → end_at rule regions d i ≤ start_at rule regions d j
  pub behind : (i j : ℕ) (d : Region) → i < j → j < n → last < j → TakesPart rule regions d i → TakesPart rule regions d j → end_at rule regions d i ≤ start_at rule regions d j

-- the regions that take part begin in the order of their numbers, and those that meet have theirs in the stretch
abbrev pub IsStretch : Rule → List Region → ItemRange → Type 0
IsStretch rule regions stretch = IsRisingTo rule regions (length regions) stretch.first stretch.last

-- the scan is that of the first regions
pub record IsScanTo (rule : Rule) (regions : List Region) (n : ℕ) (scan : Scan) : Type 0 where
  pub stand : IsRisingTo rule regions n scan.first scan.last
  pub starts : (i : ℕ) (d : Region) → i < n → TakesPart rule regions d i → start_at rule regions d i ≤ scan.start
  pub ends : (i : ℕ) (d : Region) → i < n → TakesPart rule regions d i → end_at rule regions d i ≤ scan.end
  pub latest : (i : ℕ) (d : Region) → i < n → TakesPart rule regions d i → (i ≤ scan.item) × (scan.item < n) × TakesPart rule regions d scan.item

-- the scan has the region of that number behind it: either the region begins behind all, or it
-- begins no earlier than the last
pub record IsJoined (rule : Rule) (item : ℕ) (region : Region) (scan more : Scan) : Type 0 where
  pub latest : more.item ≡ item
  pub start : more.start ≡ (span_of rule item region).start
  pub own : (span_of rule item region).end ≤ more.end
  pub grows : scan.end ≤ more.end
  pub first : more.first ≤ scan.first
  pub apart : scan.end ≤ (span_of rule item region).start ⊎ ((scan.start ≤ (span_of rule item region).start) × (more.first ≤ scan.item) × (more.last ≡ item))
  pub last : (more.last ≡ scan.last) ⊎ (more.last ≡ item)

-- the scan is joined by the region where that takes part, and else stays the same
abbrev pub IsScanMore : Rule → ℕ → Region → Scan → Scan → Type 0
IsScanMore rule item region scan more = (takes_part rule region ≡ true → IsJoined rule item region scan more) × (takes_part rule region ≡ false → more ≡ scan)

-- where numbers up to `last` are above `stop`, the region of the number `stop` is behind `item`, takes part, and begins at
-- `end` or behind it
abbrev pub EndsBefore : Rule → List Region → ℕ → ℕ → ℕ → ℕ → Type 0
EndsBefore rule regions item last end stop =
    (s : ℕ) → stop < s → s ≤ last → (d : Region) → (item < stop) × (stop < length regions) × TakesPart rule regions d stop × (end ≤ start_at rule regions d stop)
