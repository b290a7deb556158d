-- Spans that are apart, and a search among them.
use Rattle.std.proofs.Common.{◌≡◌, ℕ, ◌+◌, ◌-◌, ◌<◌, ◌≤◌, true, false, nat_lt, leb, List, length, get_or, take, drop, sym, ap, subst, ◌∙◌, inl, inr, arith, length-drop}
use Rattle.std.specs.List.{Contains, AllWithin}
use Rattle.std.specs.List.Sorted.{IsPartitionedBy}
use Rattle.std.proofs.lemmas.Bool.{ltb-true, ltb-false, lt-ltb, leb-true, le-leb, cases_eq, cases_lt, and_parts}
use Rattle.std.proofs.lemmas.List.{get_or_default, get_or-take, get_or-drop, length-take}
use Rattle.jh_cellcfg.specs.declared.region.Region.{Region}
use Rattle.jh_check.specs.declared.rule.Rule.{Rule}
use Rattle.jh_check.specs.declared.rule.Rule.TheVariants.{VirtOverlap}
use Rattle.jh_check.specs.declared.spans.Span.{Span}
use Rattle.jh_check.specs.Private.Spans.{takes_part, span_of, spans_meet, AreApartTo, AreSpansApart, LiesWithin, AreDisjointTo}

-- none is apart from nothing, and one more
pub apart_none : (spans : List Span) → AreApartTo spans 0
apart_none spans = record { ordered = λ i d h. absurd (omega arith); apart = λ i j d h k. absurd (omega arith) }

pub apart_more : (spans : List Span) (k : ℕ) → AreApartTo spans k → ((d : Span) → (get_or spans k d).start ≤ (get_or spans k d).end) → ((d : Span) → 0 < k → (get_or spans (k - 1) d).end ≤ (get_or spans k d).start) → AreApartTo spans (k + 1)
apart_more spans k before ordered apart =
    record {
      ordered = λ i d h. elim (cases_eq i k) [
        | inl e ↦ subst (λ i. (get_or spans i d).start ≤ (get_or spans i d).end) (sym e) (ordered d)
        | inr n ↦ before.ordered i d (omega arith)
      ];
      apart = λ i j d h l. elim (cases_eq j k) [
        | inl e ↦
            subst (λ j. (get_or spans i d).end ≤ (get_or spans j d).start) (sym e) (
            elim (cases_eq i (k - 1)) [
              | inl f ↦ subst (λ i. (get_or spans i d).end ≤ (get_or spans k d).start) (sym f) (apart d (omega arith))
              | inr n ↦
                  let a = before.apart i (k - 1) d (omega arith) (omega arith) in
                  let b = before.ordered (k - 1) d (omega arith) in
                  let c = apart d (omega arith) in
                  omega arith
            ])
        | inr n ↦ before.apart i j d h (omega arith)
      ];
    }

-- starts rise, and so do ends
starts_rise : (spans : List Span) → AreSpansApart spans → (i j : ℕ) (d : Span) → i ≤ j → j < length spans → (get_or spans i d).start ≤ (get_or spans j d).start
starts_rise spans apart i j d h k =
    elim (cases_eq i j) [
      | inl e ↦ subst (λ j. (get_or spans i d).start ≤ (get_or spans j d).start) e (omega arith)
      | inr n ↦
          let a = apart.ordered i d (omega arith) in
          let b = apart.apart i j d (omega arith) k in
          omega arith
    ]

ends_rise : (spans : List Span) → AreSpansApart spans → (i j : ℕ) (d : Span) → i ≤ j → j < length spans → (get_or spans i d).end ≤ (get_or spans j d).end
ends_rise spans apart i j d h k =
    elim (cases_eq i j) [
      | inl e ↦ subst (λ j. (get_or spans i d).end ≤ (get_or spans j d).end) e (omega arith)
      | inr n ↦
          let a = apart.apart i j d (omega arith) k in
          let b = apart.ordered j d k in
          omega arith
    ]

pub apart_parted : (spans : List Span) (limit : ℕ) → AreSpansApart spans → IsPartitionedBy (λ (span : Span). nat_lt span.start limit) spans
apart_parted spans limit apart = λ i j d h k p.
    let rise = starts_rise spans apart i j d h k in
    let less = ltb-true (get_or spans j d).start limit p in
    lt-ltb (get_or spans i d).start limit (omega arith)

pub apart_ended : (spans : List Span) (limit : ℕ) → AreSpansApart spans → IsPartitionedBy (λ (span : Span). leb span.end limit) spans
apart_ended spans limit apart = λ i j d h k p.
    let rise = ends_rise spans apart i j d h k in
    let less = leb-true (get_or spans j d).end limit p in
    le-leb (get_or spans i d).end limit (omega arith)

-- what meets it begins before its end, and ends behind its start
met_begins : (spans : List Span) (other : Span) (n : ℕ) → AllWithin (λ (span : Span). nat_lt span.start other.end ≡ false) spans n (length spans) → (x : Span) (k : ℕ) → k < length spans → get_or spans k x ≡ x → spans_meet x other ≡ true → k < n
met_begins spans other n after x k within is meets =
    elim (cases_lt k n) [
      | inl h ↦ h
      | inr h ↦
          let P : Span → Type 0 = λ s. nat_lt s.start other.end ≡ false in
          let a = ltb-false x.start other.end (subst P is (after k x h within)) in
          let b = ltb-true x.start other.end ((and_parts (nat_lt x.start other.end) (nat_lt other.start x.end) meets).0) in
          absurd (omega arith)
    ]

met_ends : (spans : List Span) (other : Span) (m : ℕ) → AllWithin (λ (span : Span). leb span.end other.start ≡ true) spans 0 m → (x : Span) (k : ℕ) → get_or spans k x ≡ x → spans_meet x other ≡ true → m ≤ k
met_ends spans other m before x k is meets =
    elim (cases_lt k m) [
      | inl h ↦
          let P : Span → Type 0 = λ s. leb s.end other.start ≡ true in
          let a = leb-true x.end other.start (subst P is (before k x (omega arith) h)) in
          let b = ltb-true other.start x.end ((and_parts (nat_lt x.start other.end) (nat_lt other.start x.end) meets).1) in
          absurd (omega arith)
      | inr h ↦ h
    ]

-- so it stands between the two borders
pub met_within : (spans : List Span) (other : Span) (first m n : ℕ) → first ≤ m → first ≤ n → n ≤ length spans → AllWithin (λ (span : Span). nat_lt span.start other.end ≡ false) spans n (length spans) → AllWithin (λ (span : Span). leb span.end other.start ≡ true) spans 0 m → (x : Span) → Contains spans x → spans_meet x other ≡ true → Contains (take (n - first) (drop first spans)) x
met_within spans other first m n low high bound after before x cx meets =
    let k = cx.0 in
    let a = met_begins spans other n after x k cx.1 cx.2 meets in
    let b = met_ends spans other m before x k cx.2 meets in
    let sum : first + (k - first) ≡ k = omega arith in
    let size = length-take (n - first) (drop first spans) in
    let rest = length-drop first spans in
    (k - first, omega arith, get_or-take (n - first) (drop first spans) (k - first) x (omega arith) ∙ get_or-drop first spans (k - first) x ∙ ap (λ i. get_or spans i x) sum ∙ cx.2)

-- what lies behind the first n and before the others meets none
pub between_none : (spans : List Span) (other : Span) (n : ℕ) → AreSpansApart spans → (0 < n → (d : Span) → (get_or spans (n - 1) d).end ≤ other.start) → (n < length spans → (d : Span) → other.end ≤ (get_or spans n d).start) → n ≤ length spans → (x : Span) → Contains spans x → spans_meet x other ≡ true → ⊥
between_none spans other n apart behind before bound x cx meets =
    let k = cx.0 in
    let within = cx.1 in
    let begins = ltb-true x.start other.end ((and_parts (nat_lt x.start other.end) (nat_lt other.start x.end) meets).0) in
    let ends = ltb-true other.start x.end ((and_parts (nat_lt x.start other.end) (nat_lt other.start x.end) meets).1) in
    elim (cases_lt k n) [
      | inl h ↦
          let rise = ends_rise spans apart k (n - 1) x (omega arith) (omega arith) in
          let far = behind (omega arith) x in
          let c : (get_or spans k x).end ≤ other.start = omega arith in
          let e : x.end ≤ other.start = subst (λ (s : Span). s.end ≤ other.start) cx.2 c in
          omega arith
      | inr h ↦
          let rise = starts_rise spans apart n k x (omega arith) within in
          let far = before (omega arith) x in
          let c : other.end ≤ (get_or spans k x).start = omega arith in
          let e : other.end ≤ x.start = subst (λ (s : Span). other.end ≤ s.start) cx.2 c in
          omega arith
    ]

-- ---- regions that stand apart in their own order

pub span_ordered : (rule : Rule) (r : ℕ) (x : Region) → (span_of rule r x).start ≤ (span_of rule r x).end
span_ordered VirtOverlap r x = let s : x.virt_start ≤ x.virt_start + x.size = omega arith in s
span_ordered _ r x = let s : x.phys_start ≤ x.phys_start + x.size = omega arith in s

pub stand_none : (rule : Rule) (regions : List Region) → AreDisjointTo rule regions 0 0
stand_none rule regions = record { ends = λ i d h. absurd (omega arith); apart = λ i j d h k. absurd (omega arith) }

pub stand_more : (rule : Rule) (regions : List Region) (n end more : ℕ) (x : Region) → n < length regions → x ≡ get_or regions n x → end ≤ more → (takes_part rule x ≡ true → LiesWithin (span_of rule n x) end more) → AreDisjointTo rule regions n end → AreDisjointTo rule regions (n + 1) more
stand_more rule regions n end more x within is grows behind before =
    let P : ℕ → Region → Type 0 = λ k y. takes_part rule y ≡ true → LiesWithin (span_of rule k y) end more in
    let here : (d : Region) → P n (get_or regions n d) = λ d. subst (λ y. P n y) (is ∙ get_or_default regions n x d within) behind in
    record {
      ends = λ i d h t. elim (cases_eq i n) [
        | inl e ↦ (subst (λ k. P k (get_or regions k d)) (sym e) (here d) t).ends
        | inr m ↦ let a = before.ends i d (omega arith) t in omega arith
      ];
      apart = λ i j d h k t u. elim (cases_eq j n) [
        | inl e ↦
            let a = before.ends i d (omega arith) t in
            let b = (subst (λ k. P k (get_or regions k d)) (sym e) (here d) u).starts in
            omega arith
        | inr m ↦ before.apart i j d h (omega arith) t u
      ];
    }
