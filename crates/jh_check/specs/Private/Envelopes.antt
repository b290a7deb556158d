-- Envelopes of a cell's regions, by which those that meet none of them are told at once.
use Rattle.std.specs.Prelude.{◌≡◌, ◌≢◌, ℕ, ◌^◌, ◌<◌, ◌≤◌, Bool, true, false, ◌&&◌, not, ◌==◌, if◌then◌else◌, Some, None, List, length, slice_index_or, Contains}
use Rattle.std.specs.List.Sorted.{IsNonDecreasingBy}
use Rattle.jh_cellcfg.specs.declared.region.Region.{Region}
use Rattle.jh_cellcfg.specs.declared.config.CellConfig.{CellConfig}
use Rattle.jh_cellcfg.specs.Regions.{has_flags, is_page_mapped, is_comm, has_size}
use Rattle.jh_check.specs.declared.rule.Rule.{Rule}
use Rattle.jh_check.specs.declared.rule.Rule.TheVariants.{PhysOverlap, SubpageTaken, CellsOverlap}
use Rattle.jh_check.specs.declared.spans.Span.{Span}
use Rattle.jh_check.specs.declared.envelope.Envelope.{Envelope}
use Rattle.jh_check.specs.declared.envelope.Envelopes.{Envelopes}
use Rattle.jh_check.specs.declared.envelope.ItemRange.{ItemRange}
use Rattle.jh_check.specs.declared.gaps.Gap.{Gap}
use Rattle.jh_check.specs.declared.gaps.Gaps.{Gaps}
use Rattle.jh_check.specs.Regions.{Spot, pair_breaks}
use Rattle.jh_check.specs.Private.Spans.{span_of, spans_meet, is_within, LiesWithin}
use Rattle.jh_check.specs.Findings.{spot}

-- the rule lets the region meet those that are shared
abbrev pub passes_shared : Rule → Region → Bool
passes_shared CellsOverlap region = has_flags 0x80 region
passes_shared _ region = false

-- the rule may be broken by the region as the other of a pair, in the cell of that number; `pass` says that the one
-- may meet those that are shared
abbrev pub may_follow : Rule → Bool → ℕ → Region → Bool
may_follow SubpageTaken pass b region = (b == 0) && (has_size region && is_page_mapped region)
may_follow PhysOverlap pass b region = has_size region && not (is_comm region)
may_follow CellsOverlap pass b region = has_size region && (not (is_comm region) && not (pass && has_flags 0x80 region))
may_follow _ pass b region = has_size region

-- each region that the rule may be broken by, as the other of a pair, has its span among these
abbrev pub HasOthers : Rule → Bool → ℕ → List Region → List Span → Type 0
HasOthers rule pass b regions spans =
    (s : ℕ) (d : Region) → s < length regions → may_follow rule pass b (slice_index_or regions s d) ≡ true → Contains spans (span_of rule s (slice_index_or regions s d))

-- the spans stand in the order of their starts
abbrev pub InOrder : List Span → Type 0
InOrder spans = IsNonDecreasingBy (λ (span : Span). span.start) spans

-- neither the starts of the envelopes nor their ends fall
pub record IsRising (envelopes : List Envelope) : Type 0 where
  pub starts : IsNonDecreasingBy (λ (envelope : Envelope). envelope.start) envelopes
  pub ends : IsNonDecreasingBy (λ (envelope : Envelope). envelope.end) envelopes

-- one of the envelopes begins before the span ends, and ends behind its start
pub record IsMet (envelopes : List Envelope) (span : Span) : Type 0 where
  pub by : Envelope
  pub is : Contains envelopes by
  pub begins : by.start < span.end
  pub ends : span.start < by.end

-- what meets one of the spans is met by the envelope of its number
abbrev pub CoversEach : List Span → List Envelope → Type 0
CoversEach spans envelopes = (x z : Span) → Contains spans x → spans_meet x z ≡ true → (met : IsMet envelopes z) × (met.by.item ≡ x.item)

-- one of the spans that meets another of them is met, by a number that isn't below the other's, where neither is
-- empty
abbrev pub CoversPairs : List Span → List Envelope → Type 0
CoversPairs spans envelopes =
    (x y : Span) → Contains spans x → Contains spans y → x.item ≢ y.item → x.start < x.end → y.start < y.end → spans_meet x y ≡ true
    → (met : IsMet envelopes x) × (y.item ≤ met.by.item)

-- if the region is of the cell of that number, it is the one of its own number there
abbrev pub IsAtItsNumber : Spot → ℕ → CellConfig → Type 0
IsAtItsNumber one b other = one.cell ≡ b → (one.item < length other.memory_regions) × (one.region ≡ slice_index_or other.memory_regions one.item one.region)

-- a region that breaks the rule with one of the cell is met, by that one's number, or, where the rule is about one
-- cell, by a number that isn't below it; where `pass` holds, this is said of those regions alone that may meet shared
-- ones
abbrev pub CoversOthers : Rule → Bool → ℕ → CellConfig → List Envelope → Type 0
CoversOthers rule pass b other envelopes =
    (one : Spot) (s : ℕ) (d : Region) → IsAtItsNumber one b other → (pass ≡ true → passes_shared rule one.region ≡ true) → s < length other.memory_regions
    → pair_breaks rule one (spot b other s (slice_index_or other.memory_regions s d)) ≡ true
    → (met : IsMet envelopes (span_of rule one.item one.region)) × (is_within rule ≡ false → met.by.item ≡ s) × (s ≤ met.by.item)

-- the envelopes by which a region is looked for that may meet shared ones: all, where no others are known
abbrev pub unshared_of : Envelopes → List Envelope
unshared_of envelopes = elim envelopes.unshared [ None ↦ envelopes.any.items | Some unshared ↦ unshared.items ]

-- the envelopes by which the region is looked for
abbrev pub envelopes_for : Rule → Region → Envelopes → List Envelope
envelopes_for rule region envelopes = if passes_shared rule region then unshared_of envelopes else envelopes.any.items

-- no span that lies in the gap is met
abbrev pub IsGap : List Envelope → Gap → Type 0
IsGap envelopes gap = (span : Span) → LiesWithin span gap.start gap.end → IsMet envelopes span → ⊥

-- the gaps are those of the envelopes: of all, and of those by which a region is looked for that may meet shared ones
pub record AreGaps (envelopes : Envelopes) (gaps : Gaps) : Type 0 where
  pub any : IsGap envelopes.any.items gaps.any
  pub unshared : IsGap (unshared_of envelopes) gaps.unshared

-- the envelopes tell of the regions of the cell, which has that number
pub record AreOf (rule : Rule) (b : ℕ) (other : CellConfig) (envelopes : Envelopes) : Type 0 where
  pub any_rises : IsRising envelopes.any.items
  pub any : CoversOthers rule false b other envelopes.any.items
  pub unshared_rises : IsRising (unshared_of envelopes)
  pub unshared : CoversOthers rule true b other (unshared_of envelopes)

-- the envelopes of each cell tell of its regions
abbrev pub AreOfEach : Rule → List CellConfig → List Envelopes → Type 0
AreOfEach rule all each =
    (b : ℕ) (d : Envelopes) (c : CellConfig) → b < length all → AreOf rule b (slice_index_or all b c) (slice_index_or each b d)

-- the number is one of the range's
abbrev pub IsIn : ItemRange → ℕ → Type 0
IsIn range s = (range.first ≤ s) × (s ≤ range.last)

-- each region of the other cell that breaks the rule with the one has its number there (numbers have 64 bits)
abbrev pub HasHits : Rule → Spot → ℕ → CellConfig → ItemRange → Type 0
HasHits rule one b other range =
    (s : ℕ) (d : Region) → s < length other.memory_regions → s < 2 ^ 64 → pair_breaks rule one (spot b other s (slice_index_or other.memory_regions s d)) ≡ true → IsIn range s
