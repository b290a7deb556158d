-- What blocks of a cell's regions extend over.
use Rattle.std.proofs.Common.{◌≡◌, ℕ, ◌+◌, ◌<◌, ◌≤◌, Bool, true, false, if◌then◌else◌, List, [], length, get_or, arith}
use Rattle.jh_cellcfg.specs.declared.region.Region.{Region}
use Rattle.jh_cellcfg.specs.declared.config.CellConfig.{CellConfig}
use Rattle.jh_check.specs.declared.rule.Rule.{Rule}
use Rattle.jh_check.specs.declared.spans.Span.{Span}
use Rattle.jh_check.specs.declared.envelope.Envelope.{Envelope}
use Rattle.jh_check.specs.declared.envelope.Envelopes.{Envelopes}
use Rattle.jh_check.specs.declared.blocks.Extents.{Extents}
use Rattle.jh_check.specs.Private.Spans.{span_of}
use Rattle.jh_check.specs.Findings.{spot, between, between_at}
use Rattle.jh_check.specs.Private.Envelopes.{passes_shared, unshared_of, IsMet, AreOf}
use Rattle.jh_check.specs.Private.Blocks.{IsInside, AreInside, AreExtents, AreExtentsOf, between_from}
use Rattle.jh_check.proofs.ListLemmas.{found_none0}
use Rattle.jh_check.proofs.EnvelopeLemmas.{own_spot, beside_none_met, found_pass}

inside : (one two three : Span) → IsInside one two → IsInside two three → IsInside one three
inside one two three first second =
    let a = first.starts in
    let b = first.ends in
    let c = second.starts in
    let d = second.ends in
    record { starts = omega arith; ends = omega arith }

-- what is within the one extents, by its kind, is within the others
pub inside_both : (b : Bool) (span : Span) (one other : Extents) → AreInside one other → IsInside span (if b then one.unshared else one.any) → IsInside span (if b then other.unshared else other.any)
inside_both true span one other both within = inside span one.unshared other.unshared within both.unshared
inside_both false span one other both within = inside span one.any other.any within both.any

-- what meets a span meets what has the span
wider : (envelopes : List Envelope) (span extent : Span) → IsInside span extent → IsMet envelopes span → IsMet envelopes extent
wider envelopes span extent inside met =
    let low = inside.starts in
    let high = inside.ends in
    let a = met.begins in
    let b = met.ends in
    record { by = met.by; is = met.is; begins = omega arith; ends = omega arith }

beyond_by : (b : Bool) (envelopes : Envelopes) (span : Span) (extents : Extents) → IsInside span (if b then extents.unshared else extents.any) → (IsMet envelopes.any.items extents.any → ⊥) → (IsMet (unshared_of envelopes) extents.unshared → ⊥) → IsMet (if b then unshared_of envelopes else envelopes.any.items) span → ⊥
beyond_by true envelopes span extents inside any unshared met = unshared (wider (unshared_of envelopes) span extents.unshared inside met)
beyond_by false envelopes span extents inside any unshared met = any (wider envelopes.any.items span extents.any inside met)

-- a region within extents that aren't met gives nothing
pub at_beyond : (rule : Rule) (a : ℕ) (one : CellConfig) (b : ℕ) (other : CellConfig) (envelopes : Envelopes) (first end : ℕ) (extents : Extents) → AreOf rule b other envelopes → (a ≡ b → one ≡ other) → AreExtentsOf rule one.memory_regions first end extents → (IsMet envelopes.any.items extents.any → ⊥) → (IsMet (unshared_of envelopes) extents.unshared → ⊥) → (r : ℕ) (d : Region) → r < length one.memory_regions → first ≤ r → r < end → between_at rule a one b other r (get_or one.memory_regions r d) ≡ []
at_beyond rule a one b other envelopes first end extents of same wide any unshared r d h low high =
    let x = get_or one.memory_regions r d in
    beside_none_met rule (spot a one r x) b other envelopes of (own_spot a one r d b other h same) (λ takes all met.
    beyond_by (passes_shared rule x) envelopes (span_of rule r x) extents (wide r d low high h takes) any unshared met)

pub between_beyond : (rule : Rule) (a : ℕ) (one : CellConfig) (b : ℕ) (other : CellConfig) (envelopes : Envelopes) (extents : Extents) → AreOf rule b other envelopes → (a ≡ b → one ≡ other) → AreExtents rule one.memory_regions extents → (IsMet envelopes.any.items extents.any → ⊥) → (IsMet (unshared_of envelopes) extents.unshared → ⊥) → between rule a one b other ≡ []
unfolding between
between_beyond rule a one b other envelopes extents of same wide any unshared =
    let none : Region = record { phys_start = 0; virt_start = 0; size = 0; flags = 0 } in
    found_none0 (between_at rule a one b other) one.memory_regions none (λ r h.
    at_beyond rule a one b other envelopes 0 (length one.memory_regions) extents of same wide any unshared r none h (omega arith) h)

-- a block whose regions aren't met may be passed over
pub block_beyond : (rule : Rule) (a : ℕ) (one : CellConfig) (b : ℕ) (other : CellConfig) (envelopes : Envelopes) (first count : ℕ) (extents : Extents) → AreOf rule b other envelopes → (a ≡ b → one ≡ other) → AreExtentsOf rule one.memory_regions first (first + count) extents → (IsMet envelopes.any.items extents.any → ⊥) → (IsMet (unshared_of envelopes) extents.unshared → ⊥) → between_from rule a one b other first ≡ between_from rule a one b other (first + count)
block_beyond rule a one b other envelopes first count extents of same wide any unshared =
    let none : Region = record { phys_start = 0; virt_start = 0; size = 0; flags = 0 } in
    found_pass (between_at rule a one b other) one.memory_regions first count none (λ r h low high.
    at_beyond rule a one b other envelopes first (first + count) extents of same wide any unshared r none h low high)
