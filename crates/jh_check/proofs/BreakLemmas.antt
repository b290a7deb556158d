-- What it takes to break a rule about two regions.
use Rattle.std.proofs.Common.{◌≡◌, ℕ, ◌+◌, ◌<◌, ◌≤◌, Bool, true, false, ◌&&◌, not, ◌==◌, nat_lt, List, [], length, get_or, sym, ap, subst, ◌∙◌, inl, inr, arith}
use Rattle.std.specs.List.{Contains}
use Rattle.std.proofs.lemmas.Bool.{false≢true, ltb-true, eqb-true, cases_order, false_from_ne_true, both_ways, and_parts, and_from}
use Rattle.std.proofs.lemmas.List.{get_or_default}
use Rattle.jh_cellcfg.specs.declared.region.Region.{Region}
use Rattle.jh_cellcfg.specs.declared.config.CellConfig.{CellConfig}
use Rattle.jh_cellcfg.specs.Regions.{virt_end, phys_end, is_page_mapped, is_comm, is_unshared, has_size, virt_meet, phys_meet}
use Rattle.jh_check.specs.declared.rule.Rule.{Rule}
use Rattle.jh_check.specs.declared.rule.Rule.TheVariants.{VirtOverlap, PhysOverlap, SubpageTaken, CellsOverlap}
use Rattle.jh_check.specs.declared.spans.Span.{Span}
use Rattle.jh_check.specs.Regions.{Spot, pair_breaks, share_places, takes_pages, both_shared}
use Rattle.jh_check.specs.Devices.{are_same_section}
use Rattle.jh_check.specs.Private.Spans.{takes_part, span_of, spans_meet, joins, is_within, AreSpansOf, AreSpansApart, AreDisjoint}
use Rattle.jh_check.specs.Lists.{only_if, is_any}
use Rattle.jh_check.specs.Findings.{spot, beside, beside_at, between, between_at, finding_of}
use Rattle.jh_check.proofs.ListLemmas.{found_none0, any_at, any_only}

virt_parts : (one other : Region) → virt_meet one other ≡ true → ((has_size one && has_size other) ≡ true) × ((nat_lt one.virt_start (virt_end other) && nat_lt other.virt_start (virt_end one)) ≡ true)
virt_parts one other h =
    let sizes = has_size one && has_size other in
    let ranges = nat_lt one.virt_start (virt_end other) && nat_lt other.virt_start (virt_end one) in
    ((and_parts sizes ranges h).0, (and_parts sizes ranges h).1)

phys_parts : (one other : Region) → phys_meet one other ≡ true → ((has_size one && has_size other) ≡ true) × ((nat_lt one.phys_start (phys_end other) && nat_lt other.phys_start (phys_end one)) ≡ true)
phys_parts one other h =
    let sizes = has_size one && has_size other in
    let ranges = nat_lt one.phys_start (phys_end other) && nat_lt other.phys_start (phys_end one) in
    ((and_parts sizes ranges h).0, (and_parts sizes ranges h).1)

pub share_parts : (one other : Region) → share_places one other ≡ true → (not (is_comm one) ≡ true) × (not (is_comm other) ≡ true) × (phys_meet one other ≡ true)
share_parts one other h =
    let rest = not (is_comm other) && phys_meet one other in
    let k = (and_parts (not (is_comm one)) rest h).1 in
    ((and_parts (not (is_comm one)) rest h).0, (and_parts (not (is_comm other)) (phys_meet one other) k).0, (and_parts (not (is_comm other)) (phys_meet one other) k).1)

pub pages_parts : (one other : Region) → takes_pages one other ≡ true → ((is_unshared one && not (is_page_mapped one)) ≡ true) × (phys_meet one other ≡ true) × (is_page_mapped other ≡ true) × (has_size other ≡ true)
pages_parts one other h =
    let last = is_page_mapped other && phys_meet one other in
    let rest = not (is_page_mapped one) && last in
    let k = (and_parts (is_unshared one) rest h).1 in
    let m = (and_parts (not (is_page_mapped one)) last k).1 in
    let meet = (and_parts (is_page_mapped other) (phys_meet one other) m).1 in (
      and_from (is_unshared one) (not (is_page_mapped one)) ((and_parts (is_unshared one) rest h).0) ((and_parts (not (is_page_mapped one)) last k).0),
      meet,
      (and_parts (is_page_mapped other) (phys_meet one other) m).0,
      (and_parts (has_size one) (has_size other) (phys_parts one other meet).0).1,
    )

-- what a broken rule about two regions says of their cells, and of the regions
pub within_parts : (one other : Spot) (rest : Bool) → ((one.cell == other.cell) && (nat_lt one.item other.item && rest)) ≡ true → ((one.cell == other.cell) ≡ true) × (nat_lt one.item other.item ≡ true) × (rest ≡ true)
within_parts one other rest h =
    let same = one.cell == other.cell in
    let before = nat_lt one.item other.item in
    let k = (and_parts same (before && rest) h).1 in
    ((and_parts same (before && rest) h).0, (and_parts before rest k).0, (and_parts before rest k).1)

pub two_parts : (first second rest : Bool) → (first && (second && rest)) ≡ true → ((first && second) ≡ true) × (rest ≡ true)
two_parts first second rest h =
    let k = (and_parts first (second && rest) h).1 in
    (and_from first second ((and_parts first (second && rest) h).0) ((and_parts second rest k).0), (and_parts second rest k).1)

-- the two regions of one cell stand in this order
pub pair_order : (rule : Rule) (one other : Spot) → is_within rule ≡ true → pair_breaks rule one other ≡ true → nat_lt one.item other.item ≡ true
unfolding pair_breaks
pair_order VirtOverlap one other w h = (within_parts one other (virt_meet one.region other.region) h).1
pair_order PhysOverlap one other w h = (within_parts one other (share_places one.region other.region) h).1
pair_order _ one other w h = absurd (false≢true w)

-- the rule speaks of such cells
pub pair_joins : (rule : Rule) (one other : Spot) → pair_breaks rule one other ≡ true → joins rule one.cell other.cell ≡ true
unfolding pair_breaks
pair_joins VirtOverlap one other h = (within_parts one other (virt_meet one.region other.region) h).0
pair_joins PhysOverlap one other h = (within_parts one other (share_places one.region other.region) h).0
pair_joins SubpageTaken one other h = (two_parts (not (one.cell == 0)) (other.cell == 0) (takes_pages one.region other.region) h).0
pair_joins CellsOverlap one other h =
    (two_parts (nat_lt 0 one.cell) (nat_lt one.cell other.cell) (share_places one.region other.region && (not (both_shared one.region other.region) && not (are_same_section one.config one.item other.config other.item))) h).0
pair_joins _ one other h = absurd (false≢true h)

pub overlap_share : (one other : Spot) → pair_breaks CellsOverlap one other ≡ true → share_places one.region other.region ≡ true
unfolding pair_breaks
overlap_share one other h =
    let rest = not (both_shared one.region other.region) && not (are_same_section one.config one.item other.config other.item) in
    let k = (two_parts (nat_lt 0 one.cell) (nat_lt one.cell other.cell) (share_places one.region other.region && rest) h).1 in
    (and_parts (share_places one.region other.region) rest k).0

shared_takes_part : (one other : Region) → share_places one other ≡ true → (has_size one && not (is_comm one)) ≡ true
shared_takes_part one other h =
    let p = share_parts one other h in
    and_from (has_size one) (not (is_comm one)) ((and_parts (has_size one) (has_size other) (phys_parts one other p.2).0).0) p.0

-- the first region takes part
pub pair_takes_part : (rule : Rule) (one other : Spot) → pair_breaks rule one other ≡ true → takes_part rule one.region ≡ true
unfolding pair_breaks
pair_takes_part VirtOverlap one other h = (and_parts (has_size one.region) (has_size other.region) (virt_parts one.region other.region (within_parts one other (virt_meet one.region other.region) h).2).0).0
pair_takes_part PhysOverlap one other h = shared_takes_part one.region other.region (within_parts one other (share_places one.region other.region) h).2
pair_takes_part SubpageTaken one other h =
    let p = pages_parts one.region other.region (two_parts (not (one.cell == 0)) (other.cell == 0) (takes_pages one.region other.region) h).1 in
    and_from (has_size one.region) (is_unshared one.region && not (is_page_mapped one.region)) ((and_parts (has_size one.region) (has_size other.region) (phys_parts one.region other.region p.1).0).0) p.0
pair_takes_part CellsOverlap one other h = shared_takes_part one.region other.region (overlap_share one other h)
pair_takes_part _ one other h = absurd (false≢true h)

-- so does the second, where both are of one cell
pub pair_second : (rule : Rule) (one other : Spot) → is_within rule ≡ true → pair_breaks rule one other ≡ true → takes_part rule other.region ≡ true
unfolding pair_breaks
pair_second VirtOverlap one other w h = (and_parts (has_size one.region) (has_size other.region) (virt_parts one.region other.region (within_parts one other (virt_meet one.region other.region) h).2).0).1
pair_second PhysOverlap one other w h =
    let p = share_parts one.region other.region (within_parts one other (share_places one.region other.region) h).2 in
    and_from (has_size other.region) (not (is_comm other.region)) ((and_parts (has_size one.region) (has_size other.region) (phys_parts one.region other.region p.2).0).1) p.1
pair_second _ one other w h = absurd (false≢true w)

-- and the two meet
pub pair_meets : (rule : Rule) (one other : Spot) → pair_breaks rule one other ≡ true → spans_meet (span_of rule one.item one.region) (span_of rule other.item other.region) ≡ true
unfolding pair_breaks
pair_meets VirtOverlap one other h = (virt_parts one.region other.region (within_parts one other (virt_meet one.region other.region) h).2).1
pair_meets PhysOverlap one other h = (phys_parts one.region other.region (share_parts one.region other.region (within_parts one other (share_places one.region other.region) h).2).2).1
pair_meets SubpageTaken one other h =
    (phys_parts one.region other.region (pages_parts one.region other.region (two_parts (not (one.cell == 0)) (other.cell == 0) (takes_pages one.region other.region) h).1).1).1
pair_meets CellsOverlap one other h = (phys_parts one.region other.region (share_parts one.region other.region (overlap_share one other h)).2).1
pair_meets _ one other h = absurd (false≢true h)

-- and so does the second, where the two are of two cells that overlap
pub overlap_second : (one other : Spot) → pair_breaks CellsOverlap one other ≡ true → takes_part CellsOverlap other.region ≡ true
overlap_second one other h =
    let p = share_parts one.region other.region (overlap_share one other h) in
    and_from (has_size other.region) (not (is_comm other.region)) ((and_parts (has_size one.region) (has_size other.region) (phys_parts one.region other.region p.2).0).1) p.1

-- where a region breaks it with none of a cell, nothing is found of the two
pub beside_none : (rule : Rule) (one : Spot) (b : ℕ) (other : CellConfig) → ((s : ℕ) (d : Region) → s < length other.memory_regions → pair_breaks rule one (spot b other s (get_or other.memory_regions s d)) ≡ true → ⊥) → beside rule one b other ≡ []
unfolding beside only_if
beside_none rule one b other h =
    let none : Region = record { phys_start = 0; virt_start = 0; size = 0; flags = 0 } in
    found_none0 (beside_at rule one b other) other.memory_regions none (λ s j.
    ap (λ t. only_if t (finding_of rule one.cell one.item b s)) (false_from_ne_true (pair_breaks rule one (spot b other s (get_or other.memory_regions s none))) (h s none j)))

-- a region that takes no part
pub beside_idle : (rule : Rule) (one : Spot) (b : ℕ) (other : CellConfig) → takes_part rule one.region ≡ false → beside rule one b other ≡ []
beside_idle rule one b other e =
    beside_none rule one b other (λ s d j t. both_ways (takes_part rule one.region) e (pair_takes_part rule one (spot b other s (get_or other.memory_regions s d)) t))

-- a region that breaks it with one of the cell
pub beside_hit : (rule : Rule) (one : Spot) (b : ℕ) (other : CellConfig) (s : ℕ) (d : Region) → s < length other.memory_regions → pair_breaks rule one (spot b other s (get_or other.memory_regions s d)) ≡ true → is_any (beside rule one b other) ≡ true
unfolding beside
beside_hit rule one b other s d h e =
    any_at (beside_at rule one b other) 0 other.memory_regions s d h
    (subst (λ m. is_any (beside_at rule one b other m (get_or other.memory_regions s d)) ≡ true) (let f : s ≡ 0 + s = omega arith in f)
    (any_only (pair_breaks rule one (spot b other s (get_or other.memory_regions s d))) (finding_of rule one.cell one.item b s) ∙ e))

pub meet_swap : (one other : Span) → spans_meet one other ≡ true → spans_meet other one ≡ true
meet_swap one other h =
    let first = nat_lt one.start other.end in
    let second = nat_lt other.start one.end in
    and_from second first ((and_parts first second h).1) ((and_parts first second h).0)

-- a region that overlaps with none of those that meet it in the cell's index
pub beside_unmet : (one : Spot) (b : ℕ) (other : CellConfig) (spans met : List Span) → AreSpansOf CellsOverlap other.memory_regions spans → ((x : Span) → Contains spans x → spans_meet x (span_of CellsOverlap one.item one.region) ≡ true → Contains met x) → ((x : Span) (d : Region) → Contains met x → pair_breaks CellsOverlap one (spot b other x.item (get_or other.memory_regions x.item d)) ≡ false) → beside CellsOverlap one b other ≡ []
beside_unmet one b other spans met index each none =
    beside_none CellsOverlap one b other (λ s d j t.
    let y = get_or other.memory_regions s d in
    let second = spot b other s y in
    let x = span_of CellsOverlap s y in
    let cx = index.each s d j (overlap_second one second t) in
    let m = meet_swap (span_of CellsOverlap one.item one.region) x (pair_meets CellsOverlap one second t) in
    both_ways (pair_breaks CellsOverlap one second) (none x d (each x cx m)) t)

-- where no two of their regions break it, nothing is found between two cells
pub between_none : (rule : Rule) (a : ℕ) (one : CellConfig) (b : ℕ) (other : CellConfig) → ((r s : ℕ) (d : Region) → r < length one.memory_regions → s < length other.memory_regions → pair_breaks rule (spot a one r (get_or one.memory_regions r d)) (spot b other s (get_or other.memory_regions s d)) ≡ true → ⊥) → between rule a one b other ≡ []
unfolding between beside only_if
between_none rule a one b other h =
    let none : Region = record { phys_start = 0; virt_start = 0; size = 0; flags = 0 } in
    found_none0 (between_at rule a one b other) one.memory_regions none (λ r i.
    found_none0 (beside_at rule (spot a one r (get_or one.memory_regions r none)) b other) other.memory_regions none (λ s j.
    ap (λ t. only_if t (finding_of rule a r b s)) (false_from_ne_true (pair_breaks rule (spot a one r (get_or one.memory_regions r none)) (spot b other s (get_or other.memory_regions s none))) (h r s none i j))))

-- cells of which the rule doesn't speak
pub between_apart : (rule : Rule) (a : ℕ) (one : CellConfig) (b : ℕ) (other : CellConfig) → joins rule a b ≡ false → between rule a one b other ≡ []
between_apart rule a one b other e =
    between_none rule a one b other (λ r s d i j t. both_ways (joins rule a b) e (pair_joins rule (spot a one r (get_or one.memory_regions r d)) (spot b other s (get_or other.memory_regions s d)) t))

-- spans that are apart and meet are one
pub span_same : (spans : List Span) (x y : Span) → AreSpansApart spans → Contains spans x → Contains spans y → spans_meet x y ≡ true → x.item ≡ y.item
span_same spans x y apart cx cy m =
    let p = cx.0 in
    let q = cy.0 in
    let ey : get_or spans q x ≡ y = get_or_default spans q x y cy.1 ∙ cy.2 in
    let first : x.start < y.end = ltb-true x.start y.end ((and_parts (nat_lt x.start y.end) (nat_lt y.start x.end) m).0) in
    let second : y.start < x.end = ltb-true y.start x.end ((and_parts (nat_lt x.start y.end) (nat_lt y.start x.end) m).1) in
    elim (cases_order p q) [
      | inl e ↦ ap (λ (s : Span). s.item) (sym cx.2 ∙ ap (λ k. get_or spans k x) e ∙ ey)
      | inr (inl h) ↦
          let P : Span → Span → Type 0 = λ s t. s.end ≤ t.start in
          let k : x.end ≤ y.start = subst (λ s. P s y) cx.2 (subst (λ t. P (get_or spans p x) t) ey (apart.apart p q x h cy.1)) in
          absurd (omega arith)
      | inr (inr h) ↦
          let P : Span → Span → Type 0 = λ s t. s.end ≤ t.start in
          let k : y.end ≤ x.start = subst (λ s. P s x) ey (subst (λ t. P (get_or spans q x) t) cx.2 (apart.apart q p x h cx.1)) in
          absurd (omega arith)
    ]

meeting_same : (rule : Rule) (r s : ℕ) (x y : Region) (spans : List Span) → AreSpansApart spans → Contains spans (span_of rule r x) → Contains spans (span_of rule s y) → spans_meet (span_of rule r x) (span_of rule s y) ≡ true → r ≡ s
meeting_same VirtOverlap r s x y spans apart p q m = span_same spans (span_of VirtOverlap r x) (span_of VirtOverlap s y) apart p q m
meeting_same PhysOverlap r s x y spans apart p q m = span_same spans (span_of PhysOverlap r x) (span_of PhysOverlap s y) apart p q m
meeting_same rule r s x y spans apart p q m = span_same spans (span_of rule r x) (span_of rule s y) apart p q m

-- one cell, whose regions are in an index
pub between_indexed : (rule : Rule) (a : ℕ) (one : CellConfig) (spans : List Span) → is_within rule ≡ true → AreSpansOf rule one.memory_regions spans → between rule a one a one ≡ []
between_indexed rule a one spans w index =
    between_none rule a one a one (λ r s d i j t.
    let x = get_or one.memory_regions r d in
    let y = get_or one.memory_regions s d in
    let o : nat_lt r s ≡ true = pair_order rule (spot a one r x) (spot a one s y) w t in
    let m = pair_meets rule (spot a one r x) (spot a one s y) t in
    let p = index.each r d i (pair_takes_part rule (spot a one r x) (spot a one s y) t) in
    let q = index.each s d j (pair_second rule (spot a one r x) (spot a one s y) w t) in
    let same : r ≡ s = meeting_same rule r s x y spans index.apart p q m in
    let less : r < s = ltb-true r s o in
    omega arith)

-- what meets a span doesn't begin behind it
pub met_before : (one other : Span) → spans_meet one other ≡ true → one.end ≤ other.start → ⊥
met_before one other m h =
    let second : other.start < one.end = ltb-true other.start one.end ((and_parts (nat_lt one.start other.end) (nat_lt other.start one.end) m).1) in
    omega arith

-- one cell, whose regions stand apart
pub between_stand : (rule : Rule) (a : ℕ) (one : CellConfig) → is_within rule ≡ true → AreDisjoint rule one.memory_regions → between rule a one a one ≡ []
between_stand rule a one w stand =
    between_none rule a one a one (λ r s d i j t.
    let x = get_or one.memory_regions r d in
    let y = get_or one.memory_regions s d in
    let order : r < s = ltb-true r s (pair_order rule (spot a one r x) (spot a one s y) w t) in
    let first = pair_takes_part rule (spot a one r x) (spot a one s y) t in
    let second = pair_second rule (spot a one r x) (spot a one s y) w t in
    met_before (span_of rule r x) (span_of rule s y) (pair_meets rule (spot a one r x) (spot a one s y) t) (stand r s d order j first second))

-- cells that a rule about two regions of one cell joins are one
pub joins_same : (rule : Rule) (a b : ℕ) → is_within rule ≡ true → joins rule a b ≡ true → a ≡ b
joins_same VirtOverlap a b w h = eqb-true a b h
joins_same PhysOverlap a b w h = eqb-true a b h
joins_same _ a b w h = absurd (false≢true w)
