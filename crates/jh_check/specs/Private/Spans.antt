-- The addresses or places of regions, as a rule about two regions compares them.
use Rattle.std.specs.Prelude.{◌≡◌, ℕ, ◌<◌, ◌≤◌, Bool, true, false, ◌&&◌, not, ◌==◌, nat_lt, List, length, slice_index_or, Contains}
use Rattle.jh_cellcfg.specs.declared.region.Region.{Region}
use Rattle.jh_cellcfg.specs.Regions.{virt_end, phys_end, is_page_mapped, is_comm, is_unshared, has_size}
use Rattle.jh_check.specs.declared.rule.Rule.{Rule}
use Rattle.jh_check.specs.declared.rule.Rule.TheVariants.{VirtOverlap, PhysOverlap, SubpageTaken, CellsOverlap}
use Rattle.jh_check.specs.declared.spans.Span.{Span}

-- the rule may be broken by the region as the one of a pair
abbrev pub takes_part : Rule → Region → Bool
takes_part SubpageTaken region = has_size region && (is_unshared region && not (is_page_mapped region))
takes_part PhysOverlap region = has_size region && not (is_comm region)
takes_part CellsOverlap region = has_size region && not (is_comm region)
takes_part _ region = has_size region

-- the rule is about two regions of one cell
abbrev pub is_within : Rule → Bool
is_within VirtOverlap = true
is_within PhysOverlap = true
is_within _ = false

-- the rule may be broken by regions of these two cells
abbrev pub joins : Rule → ℕ → ℕ → Bool
joins VirtOverlap a b = a == b
joins PhysOverlap a b = a == b
joins SubpageTaken a b = not (a == 0) && (b == 0)
joins CellsOverlap a b = nat_lt 0 a && nat_lt a b
joins _ a b = false

-- the region's span as the rule compares it: its addresses, or else its places
abbrev pub span_of : Rule → ℕ → Region → Span
span_of VirtOverlap item region = record { start = region.virt_start; end = virt_end region; item = item }
span_of _ item region = record { start = region.phys_start; end = phys_end region; item = item }

-- each region that takes part has its span among these
abbrev pub HasEach : Rule → List Region → List Span → Type 0
HasEach rule regions spans =
    (r : ℕ) (d : Region) → r < length regions → takes_part rule (slice_index_or regions r d) ≡ true → Contains spans (span_of rule r (slice_index_or regions r d))

-- each span has the number of one of the regions
abbrev pub HasOnly : List Region → List Span → Type 0
HasOnly regions spans = (x : Span) → Contains spans x → x.item < length regions

-- the first of the spans end nowhere before their starts, and each has ended where those behind it begin
pub record AreApartTo (spans : List Span) (n : ℕ) : Type 0 where
  pub ordered : (i : ℕ) (d : Span) → i < n → (slice_index_or spans i d).start ≤ (slice_index_or spans i d).end
  pub apart : (i j : ℕ) (d : Span) → i < j → j < n → (slice_index_or spans i d).end ≤ (slice_index_or spans j d).start

-- the spans end nowhere before their starts, and each has ended where those behind it begin
abbrev pub AreSpansApart : List Span → Type 0
AreSpansApart spans = AreApartTo spans (length spans)

-- the span begins at the one number or behind it, and ends at the other or before it
pub record LiesWithin (span : Span) (low high : ℕ) : Type 0 where
  pub starts : low ≤ span.start
  pub ends : span.end ≤ high

-- of the first regions, those that take part end by `end`, and each begins where those before it have ended
pub record AreDisjointTo (rule : Rule) (regions : List Region) (n end : ℕ) : Type 0 where
  pub ends : (i : ℕ) (d : Region) → i < n → takes_part rule (slice_index_or regions i d) ≡ true → (span_of rule i (slice_index_or regions i d)).end ≤ end
  pub apart : (i j : ℕ) (d : Region) → i < j → j < n → takes_part rule (slice_index_or regions i d) ≡ true → takes_part rule (slice_index_or regions j d) ≡ true
      → (span_of rule i (slice_index_or regions i d)).end ≤ (span_of rule j (slice_index_or regions j d)).start

-- of the regions that take part each begins where those before it have ended
abbrev pub AreDisjoint : Rule → List Region → Type 0
AreDisjoint rule regions =
    (i j : ℕ) (d : Region) → i < j → j < length regions → takes_part rule (slice_index_or regions i d) ≡ true → takes_part rule (slice_index_or regions j d) ≡ true
    → (span_of rule i (slice_index_or regions i d)).end ≤ (span_of rule j (slice_index_or regions j d)).start

-- the two spans, where neither is empty, have a number in common
abbrev pub spans_meet : Span → Span → Bool
spans_meet one other = nat_lt one.start other.end && nat_lt other.start one.end

-- among the spans are those of all regions that take part, each has the number of a region, and they stand apart
pub record AreSpansOf (rule : Rule) (regions : List Region) (spans : List Span) : Type 0 where
  pub each : HasEach rule regions spans
  pub only : HasOnly regions spans
  pub apart : AreSpansApart spans
