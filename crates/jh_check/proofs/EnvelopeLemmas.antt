-- Envelopes of spans, one span after the other, and what is told by them.
use Rattle.std.proofs.Common.{◌≡◌, ◌≢◌, ℕ, zero, suc, ◌+◌, ◌^◌, leb, take, drop, length-drop, ◌-◌, ◌<◌, ◌≤◌, Bool, true, false, ◌&&◌, not, ◌==◌, nat_lt, Some, None, IfSome, List, [], ◌∷◌, ◌++◌, length, get_or, refl, sym, ap, subst, ◌∙◌, inl, inr, arith}
use Rattle.std.specs.List.{Contains, AllWithin}
use Rattle.std.specs.List.Sorted.{IsNonDecreasingBy}
use Rattle.std.proofs.lemmas.Bool.{false≢true, cases_Bool, ltb-true, ltb-false, leb-true, cases_eq, cases_lt, cases_order, false_from_ne_true, both_ways, and_parts, and_from}
use Rattle.std.proofs.lemmas.List.{get_or_default, get_or_append_left, get_or_push, length_push, get_or-take, get_or-drop, length-take, append-nil}
use Rattle.std.proofs.lemmas.List.Elements.{Contains-append_left, Contains-push}
use Rattle.jh_cellcfg.specs.declared.region.Region.{Region}
use Rattle.jh_cellcfg.specs.declared.config.CellConfig.{CellConfig}
use Rattle.jh_cellcfg.specs.Regions.{has_flags, is_page_mapped, is_comm, has_size}
use Rattle.jh_check.specs.declared.rule.Rule.{Rule}
use Rattle.jh_check.specs.declared.rule.Rule.TheVariants.{VirtOverlap, PhysOverlap, SubpageTaken, CellsOverlap}
use Rattle.jh_check.specs.declared.finding.Finding.{Finding}
use Rattle.jh_check.specs.declared.spans.Span.{Span}
use Rattle.jh_check.specs.declared.envelope.Envelope.{Envelope}
use Rattle.jh_check.specs.declared.envelope.Envelopes.{Envelopes}
use Rattle.jh_check.specs.declared.envelope.ItemRange.{ItemRange}
use Rattle.jh_check.specs.Regions.{Spot, pair_breaks, share_places, takes_pages, both_shared}
use Rattle.jh_check.specs.Devices.{are_same_section}
use Rattle.jh_check.specs.Private.Spans.{joins, takes_part, span_of, is_within}
use Rattle.jh_check.specs.Lists.{capped, found_from, only_if}
use Rattle.jh_check.specs.Findings.{spot, beside, beside_at, finding_of}
use Rattle.jh_check.specs.Private.Envelopes.{passes_shared, may_follow, unshared_of, envelopes_for, HasOthers, InOrder, IsRising, IsMet, CoversEach, CoversPairs, IsAtItsNumber, CoversOthers, AreOf, IsIn, HasHits}
use Rattle.jh_check.proofs.ListLemmas.{found_drop, found_end, found_none}
use Rattle.jh_check.proofs.BreakLemmas.{pair_order, pair_joins, pair_takes_part, pair_second, pair_meets, beside_none, joins_same, two_parts, pages_parts, overlap_second, meet_swap}

-- ---- one span after the other

-- the first of them, each with the envelope of those up to it: `end` is the last of their ends
pub record AreEnvelopesTo (spans : List Span) (envelopes : List Envelope) (n end : ℕ) : Type 0 where
  pub count : length envelopes ≡ n
  pub starts : (k : ℕ) (d : Envelope) (e : Span) → k < n → (get_or envelopes k d).start ≡ (get_or spans k e).start
  pub items : (k : ℕ) (d : Envelope) (e : Span) → k < n → (get_or envelopes k d).item ≡ (get_or spans k e).item
  pub ends : (k : ℕ) (d : Envelope) (e : Span) → k < n → (get_or spans k e).end ≤ (get_or envelopes k d).end
  pub below : (k : ℕ) (d : Envelope) → k < n → (get_or envelopes k d).end ≤ end
  pub rising : IsNonDecreasingBy (λ (envelope : Envelope). envelope.end) envelopes

-- one more of a list, by those before it and itself
one_more : (envelopes : List Envelope) (y : Envelope) (n : ℕ) (P : ℕ → Envelope → Type 0) → length envelopes ≡ n → ((k : ℕ) (d : Envelope) → k < n → P k (get_or envelopes k d)) → P n y → (k : ℕ) (d : Envelope) → k < n + 1 → P k (get_or (envelopes ++ y ∷ []) k d)
one_more envelopes y n P count before here k d h =
    elim (cases_eq k n) [
      | inl e ↦ subst (λ j. P j (get_or (envelopes ++ y ∷ []) j d)) (sym e) (subst (λ z. P n z) (sym (get_or_push envelopes y d n count)) here)
      | inr m ↦ subst (λ z. P k z) (sym (get_or_append_left envelopes (y ∷ []) d k (omega arith))) (before k d (omega arith))
    ]

-- a list that rises still does with one more that isn't below
rises_more : (key : Envelope → ℕ) (envelopes : List Envelope) (y : Envelope) (n : ℕ) → length envelopes ≡ n → IsNonDecreasingBy key envelopes → ((k : ℕ) (d : Envelope) → k < n → key (get_or envelopes k d) ≤ key y) → IsNonDecreasingBy key (envelopes ++ y ∷ [])
rises_more key envelopes y n count rising below = λ i j d h k.
    let size : length (envelopes ++ y ∷ []) ≡ length envelopes + 1 = length_push envelopes y in
    let last = get_or_push envelopes y d n count in
    let P : Envelope → Envelope → Type 0 = λ s t. key s ≤ key t in
    elim (cases_eq j n) [
      | inl e ↦ elim (cases_eq i n) [
        | inl f ↦ subst (λ j. P (get_or (envelopes ++ y ∷ []) i d) (get_or (envelopes ++ y ∷ []) j d)) (f ∙ sym e) (omega arith)
        | inr m ↦
            let first = get_or_append_left envelopes (y ∷ []) d i (omega arith) in
            let b : key (get_or envelopes i d) ≤ key y = below i d (omega arith) in
            subst (λ j. P (get_or (envelopes ++ y ∷ []) i d) (get_or (envelopes ++ y ∷ []) j d)) (sym e) (subst (λ s. P s (get_or (envelopes ++ y ∷ []) n d)) (sym first) (subst (λ t. P (get_or envelopes i d) t) (sym last) b))
      ]
      | inr m ↦
          let first = get_or_append_left envelopes (y ∷ []) d i (omega arith) in
          let second = get_or_append_left envelopes (y ∷ []) d j (omega arith) in
          subst (λ s. P s (get_or (envelopes ++ y ∷ []) j d)) (sym first) (subst (λ t. P (get_or envelopes i d) t) (sym second) (rising i j d h (omega arith)))
    ]

pub envelopes_none : (spans : List Span) → AreEnvelopesTo spans [] 0 0
envelopes_none spans = record {
  count = refl;
  starts = λ k d e h. absurd (omega arith);
  items = λ k d e h. absurd (omega arith);
  ends = λ k d e h. absurd (omega arith);
  below = λ k d h. absurd (omega arith);
  rising = λ i j d h k. absurd (omega arith);
}

pub envelopes_more : (spans : List Span) (envelopes : List Envelope) (n end more : ℕ) (x : Span) → n < length spans → x ≡ get_or spans n x → end ≤ more → x.end ≤ more → AreEnvelopesTo spans envelopes n end → AreEnvelopesTo spans (envelopes ++ (record { start = x.start; end = more; item = x.item }) ∷ []) (n + 1) more
envelopes_more spans envelopes n end more x within is farther far before =
    let y : Envelope = record { start = x.start; end = more; item = x.item } in
    let same : (e : Span) → x ≡ get_or spans n e = λ e. is ∙ get_or_default spans n x e within in
    let size : length (envelopes ++ y ∷ []) ≡ length envelopes + 1 = length_push envelopes y in
    record {
      count = size ∙ ap (λ m. m + 1) before.count;
      starts = λ k d e h.
          one_more envelopes y n (λ j r. r.start ≡ (get_or spans j e).start) before.count (λ j d i. before.starts j d e i) (ap (λ (s : Span). s.start) (same e)) k d h;
      items = λ k d e h.
          one_more envelopes y n (λ j r. r.item ≡ (get_or spans j e).item) before.count (λ j d i. before.items j d e i) (ap (λ (s : Span). s.item) (same e)) k d h;
      ends = λ k d e h.
          one_more envelopes y n (λ j r. (get_or spans j e).end ≤ r.end) before.count (λ j d i. before.ends j d e i) (subst (λ (s : Span). s.end ≤ more) (same e) far) k d h;
      below = λ k d h.
          one_more envelopes y n (λ j r. r.end ≤ more) before.count (λ j d i. let b = before.below j d i in omega arith) (omega arith) k d h;
      rising = rises_more (λ (envelope : Envelope). envelope.end) envelopes y n before.count before.rising (λ k d h. let b = before.below k d h in omega arith);
    }

-- the span of the one place there
abbrev pub place : ℕ → Span
place start = record { start = start; end = start + 1; item = 0 }

-- the first of the spans: none of them ends behind `far`, no envelope behind `end`, and `last` is at least each of their
-- numbers; where one begins and another before it ends beyond, that place is met, by a number below neither's
pub record ArePairsTo (spans : List Span) (envelopes : List Envelope) (n far end last : ℕ) : Type 0 where
  pub items : (k : ℕ) (e : Span) → k < n → (get_or spans k e).item ≤ last
  pub single : (k : ℕ) (e : Span) → k < n → (get_or spans k e).end ≤ far
  pub pairs : (i j : ℕ) (e : Span) → i < j → j < n → (get_or spans j e).start < (get_or spans i e).end → (get_or spans j e).start < (get_or spans j e).end → (met : IsMet envelopes (place (get_or spans j e).start)) × ((get_or spans i e).item ≤ met.by.item) × ((get_or spans j e).item ≤ met.by.item)
  pub before : (k m : ℕ) (d : Envelope) (e : Span) → k < length envelopes → n ≤ m → m < length spans → (get_or envelopes k d).start ≤ (get_or spans m e).start
  pub below : (k : ℕ) (d : Envelope) → k < length envelopes → (get_or envelopes k d).end ≤ end
  pub rising : IsRising envelopes

pub rising_none : IsRising []
rising_none = record { starts = λ i j d h k. absurd (omega arith); ends = λ i j d h k. absurd (omega arith) }

pub pairs_none : (spans : List Span) → ArePairsTo spans [] 0 0 0 0
pairs_none spans = record {
  items = λ k e h. absurd (omega arith);
  single = λ k e h. absurd (omega arith);
  pairs = λ i j e h k a b. absurd (omega arith);
  before = λ k m d e h a b. absurd (omega arith);
  below = λ k d h. absurd (omega arith);
  rising = rising_none;
}

single_more : (key : Span → ℕ) (spans : List Span) (n far farther : ℕ) (x : Span) → n < length spans → x ≡ get_or spans n x → far ≤ farther → key x ≤ farther → ((k : ℕ) (e : Span) → k < n → key (get_or spans k e) ≤ far) → (k : ℕ) (e : Span) → k < n + 1 → key (get_or spans k e) ≤ farther
single_more key spans n far farther x within is grows bound_x single k e h =
    elim (cases_eq k n) [
      | inl f ↦ subst (λ j. key (get_or spans j e) ≤ farther) (sym f) (subst (λ (s : Span). key s ≤ farther) (is ∙ get_or_default spans n x e within) bound_x)
      | inr m ↦ let b = single k e (omega arith) in omega arith
    ]

-- one more, behind whose start no two of them end
pub pairs_same : (spans : List Span) (envelopes : List Envelope) (n far end last farther more later : ℕ) (x : Span) → n < length spans → x ≡ get_or spans n x → far ≤ farther → x.end ≤ farther → end ≤ more → last ≤ later → x.item ≤ later → ((low : ℕ) → low < far → low < x.end → low < more) → more ≤ x.start → ArePairsTo spans envelopes n far end last → ArePairsTo spans envelopes (n + 1) farther more later
pairs_same spans envelopes n far end last farther more later x within is grows bound_x rises counts counts_x both none before =
    let same : (e : Span) → x ≡ get_or spans n e = λ e. is ∙ get_or_default spans n x e within in
    record {
      items = single_more (λ (s : Span). s.item) spans n last later x within is counts counts_x before.items;
      single = single_more (λ (s : Span). s.end) spans n far farther x within is grows bound_x before.single;
      pairs = λ i j e h k a b. elim (cases_eq j n) [
        | inl f ↦
            let s : get_or spans j e ≡ x = ap (λ j. get_or spans j e) f ∙ sym (same e) in
            let P : Span → Type 0 = λ s. s.start < (get_or spans i e).end in
            let Q : Span → Type 0 = λ s. s.start < s.end in
            let first = before.single i e (omega arith) in
            let low : x.start < (get_or spans i e).end = subst P s a in
            let high : x.start < x.end = subst Q s b in
            let c : x.start < more = both x.start (omega arith) high in
            absurd (omega arith)
        | inr m ↦ before.pairs i j e h (omega arith) a b
      ];
      before = λ k m d e h a b. before.before k m d e h (omega arith) b;
      below = λ k d h. let b = before.below k d h in omega arith;
      rising = before.rising;
    }

-- what is met still is by more
abbrev met_more : (envelopes more : List Envelope) (span : Span) → IsMet envelopes span → IsMet (envelopes ++ more) span
met_more envelopes more span met = record {
  by = met.by;
  is = Contains-append_left envelopes more met.by met.is;
  begins = met.begins;
  ends = met.ends;
}

-- one more, beyond whose start two of them do
pub pairs_more : (spans : List Span) (envelopes : List Envelope) (n far end last farther more later : ℕ) (x : Span) → InOrder spans → n < length spans → x ≡ get_or spans n x → far ≤ farther → x.end ≤ farther → end ≤ more → last ≤ later → x.item ≤ later → x.start < more → ArePairsTo spans envelopes n far end last → ArePairsTo spans (envelopes ++ (record { start = x.start; end = more; item = later }) ∷ []) (n + 1) farther more later
pairs_more spans envelopes n far end last farther more later x order within is grows bound_x rises counts counts_x some before =
    let y : Envelope = record { start = x.start; end = more; item = later } in
    let same : (e : Span) → x ≡ get_or spans n e = λ e. is ∙ get_or_default spans n x e within in
    let size : length (envelopes ++ y ∷ []) ≡ length envelopes + 1 = length_push envelopes y in
    let here : IsMet (envelopes ++ y ∷ []) (place x.start) = record { by = y; is = Contains-push envelopes y; begins = omega arith; ends = some } in
    record {
      items = single_more (λ (s : Span). s.item) spans n last later x within is counts counts_x before.items;
      single = single_more (λ (s : Span). s.end) spans n far farther x within is grows bound_x before.single;
      pairs = λ i j e h k a b. elim (cases_eq j n) [
        | inl f ↦
            let s : x ≡ get_or spans j e = same e ∙ ap (λ j. get_or spans j e) (sym f) in
            let first = before.items i e (omega arith) in
            let low : (get_or spans i e).item ≤ later = omega arith in
            subst (λ (s : Span). (met : IsMet (envelopes ++ y ∷ []) (place s.start)) × ((get_or spans i e).item ≤ met.by.item) × (s.item ≤ met.by.item)) s (here, low, counts_x)
        | inr m ↦
            let r = before.pairs i j e h (omega arith) a b in
            (met_more envelopes (y ∷ []) (place (get_or spans j e).start) r.0, r.1, r.2)
      ];
      before = λ k m d e h a b.
          one_more envelopes y (length envelopes) (λ j r. r.start ≤ (get_or spans m e).start) refl (λ j d i. before.before j m d e i (omega arith) b) (subst (λ (s : Span). s.start ≤ (get_or spans m e).start) (sym (same e)) (order n m e (omega arith) b)) k d (omega arith);
      below = λ k d h.
          one_more envelopes y (length envelopes) (λ j r. r.end ≤ more) refl (λ j d i. let b = before.below j d i in omega arith) (omega arith) k d (omega arith);
      rising = record {
        starts = rises_more (λ (envelope : Envelope). envelope.start) envelopes y (length envelopes) refl before.rising.starts (λ k d h. subst (λ (s : Span). (get_or envelopes k d).start ≤ s.start) (sym is) (before.before k n d x h (omega arith) within));
        ends = rises_more (λ (envelope : Envelope). envelope.end) envelopes y (length envelopes) refl before.rising.ends (λ k d h. let b = before.below k d h in omega arith);
      };
    }

-- ---- at the end of all

starts_rise : (spans : List Span) (envelopes : List Envelope) (n : ℕ) → length envelopes ≡ n → length spans ≤ n → n ≤ length spans → ((k : ℕ) (d : Envelope) (e : Span) → k < n → (get_or envelopes k d).start ≡ (get_or spans k e).start) → InOrder spans → IsNonDecreasingBy (λ (envelope : Envelope). envelope.start) envelopes
starts_rise spans envelopes n count low high starts order = λ i j d h k.
    let none : Span = record { start = 0; end = 0; item = 0 } in
    let a = starts i d none (omega arith) in
    let b = starts j d none (omega arith) in
    let o = order i j none h (omega arith) in
    omega arith

pub envelopes_rise : (spans : List Span) (envelopes : List Envelope) (n end : ℕ) → length spans ≤ n → n ≤ length spans → InOrder spans → AreEnvelopesTo spans envelopes n end → IsRising envelopes
envelopes_rise spans envelopes n end low high order all = record {
  starts = starts_rise spans envelopes n all.count low high all.starts order;
  ends = all.rising;
}

pub envelopes_tell : (spans : List Span) (envelopes : List Envelope) (n end : ℕ) → length spans ≤ n → AreEnvelopesTo spans envelopes n end → CoversEach spans envelopes
envelopes_tell spans envelopes n end low all = λ x z cx meets.
    let none : Envelope = record { start = 0; end = 0; item = 0 } in
    let k = cx.0 in
    let by = get_or envelopes k none in
    let begins : x.start < z.end = ltb-true x.start z.end ((and_parts (nat_lt x.start z.end) (nat_lt z.start x.end) meets).0) in
    let ends : z.start < x.end = ltb-true z.start x.end ((and_parts (nat_lt x.start z.end) (nat_lt z.start x.end) meets).1) in
    let here : k < length envelopes = let c = all.count in let w = cx.1 in omega arith in
    let a : by.start ≡ x.start = subst (λ (s : Span). by.start ≡ s.start) cx.2 (all.starts k none x (let w = cx.1 in omega arith)) in
    let b : x.end ≤ by.end = subst (λ (s : Span). s.end ≤ by.end) cx.2 (all.ends k none x (let w = cx.1 in omega arith)) in
    let c : by.item ≡ x.item = subst (λ (s : Span). by.item ≡ s.item) cx.2 (all.items k none x (let w = cx.1 in omega arith)) in
    (record { by = by; is = (k, here, get_or_default envelopes k by none here); begins = omega arith; ends = omega arith }, c)

-- what has a place is met where that is
abbrev met_at : (envelopes : List Envelope) (span : Span) (start : ℕ) → span.start ≤ start → start < span.end → IsMet envelopes (place start) → IsMet envelopes span
met_at envelopes span start low high met =
    let a = met.begins in
    let b = met.ends in
    record { by = met.by; is = met.is; begins = omega arith; ends = omega arith }

pub pairs_tell : (spans : List Span) (envelopes : List Envelope) (n far end last : ℕ) → length spans ≤ n → InOrder spans → ArePairsTo spans envelopes n far end last → CoversPairs spans envelopes
pairs_tell spans envelopes n far end last low order all = λ x y cx cy differ some other meets.
    let p = cx.0 in
    let q = cy.0 in
    let first : x.start < y.end = ltb-true x.start y.end ((and_parts (nat_lt x.start y.end) (nat_lt y.start x.end) meets).0) in
    let second : y.start < x.end = ltb-true y.start x.end ((and_parts (nat_lt x.start y.end) (nat_lt y.start x.end) meets).1) in
    let wx = cx.1 in
    let wy = cy.1 in
    let ex : get_or spans p x ≡ x = cx.2 in
    let ey : get_or spans q x ≡ y = get_or_default spans q x y cy.1 ∙ cy.2 in
    let P : Span → Span → Type 0 = λ s t. t.start < s.end → t.start < t.end → (met : IsMet envelopes (place t.start)) × (s.item ≤ met.by.item) × (t.item ≤ met.by.item) in
    elim (cases_order p q) [
      | inl e ↦ absurd (differ (ap (λ (s : Span). s.item) (sym cx.2 ∙ ap (λ k. get_or spans k x) e ∙ ey)))
      | inr (inl h) ↦
          let o : x.start ≤ y.start = subst (λ (t : Span). x.start ≤ t.start) ey (subst (λ (s : Span). s.start ≤ (get_or spans q x).start) ex (order p q x (omega arith) wy)) in
          let r = subst (λ t. P x t) ey (subst (λ s. P s (get_or spans q x)) ex (all.pairs p q x h (omega arith))) second other in
          (met_at envelopes x y.start o second r.0, r.2)
      | inr (inr h) ↦
          let r = subst (λ t. P y t) ex (subst (λ s. P s (get_or spans p x)) ey (all.pairs q p x h (omega arith))) first some in
          (met_at envelopes x x.start (omega arith) some r.0, r.1)
    ]

-- ---- regions

not_shared : (pass x y : Bool) → (pass ≡ true → x ≡ true) → not (x && y) ≡ true → not (pass && y) ≡ true
not_shared false x y p h = refl
not_shared true x y p h = subst (λ b. not (b && y) ≡ true) (p refl) h

-- the second region of a pair that breaks the rule may follow
pub pair_follows : (rule : Rule) (pass : Bool) (one other : Spot) → (pass ≡ true → passes_shared rule one.region ≡ true) → pair_breaks rule one other ≡ true → may_follow rule pass other.cell other.region ≡ true
unfolding pair_breaks
pair_follows VirtOverlap pass one other p h = pair_second VirtOverlap one other refl h
pair_follows PhysOverlap pass one other p h = pair_second PhysOverlap one other refl h
pair_follows SubpageTaken pass one other p h =
    let t = two_parts (not (one.cell == 0)) (other.cell == 0) (takes_pages one.region other.region) h in
    let q = pages_parts one.region other.region t.1 in
    and_from (other.cell == 0) (has_size other.region && is_page_mapped other.region) ((and_parts (not (one.cell == 0)) (other.cell == 0) t.0).1) (and_from (has_size other.region) (is_page_mapped other.region) q.3 q.2)
pair_follows CellsOverlap pass one other p h =
    let x = one.region in
    let y = other.region in
    let apart = not (are_same_section one.config one.item other.config other.item) in
    let rest = not (both_shared x y) && apart in
    let k = (two_parts (nat_lt 0 one.cell) (nat_lt one.cell other.cell) (share_places x y && rest) h).1 in
    let n : not (has_flags 0x80 x && has_flags 0x80 y) ≡ true = (and_parts (not (both_shared x y)) apart ((and_parts (share_places x y) rest k).1)).0 in
    let m = not_shared pass (has_flags 0x80 x) (has_flags 0x80 y) p n in
    let w = overlap_second one other h in
    and_from (has_size y) (not (is_comm y) && not (pass && has_flags 0x80 y)) ((and_parts (has_size y) (not (is_comm y)) w).0) (and_from (not (is_comm y)) (not (pass && has_flags 0x80 y)) ((and_parts (has_size y) (not (is_comm y)) w).1) m)
pair_follows _ pass one other p h = absurd (false≢true h)

-- so may the first, where both are of one cell
part_follows : (rule : Rule) (pass : Bool) (b : ℕ) (x : Region) → is_within rule ≡ true → takes_part rule x ≡ true → may_follow rule pass b x ≡ true
part_follows VirtOverlap pass b x w h = h
part_follows PhysOverlap pass b x w h = h
part_follows _ pass b x w h = absurd (false≢true w)

span_item : (rule : Rule) (r : ℕ) (x : Region) → (span_of rule r x).item ≡ r
span_item VirtOverlap r x = refl
span_item _ r x = refl

longer : (start size : ℕ) → nat_lt 0 size ≡ true → start < start + size
longer start size h = let s = ltb-true 0 size h in omega arith

span_some : (rule : Rule) (r : ℕ) (x : Region) → is_within rule ≡ true → takes_part rule x ≡ true → (span_of rule r x).start < (span_of rule r x).end
span_some VirtOverlap r x w h = longer x.virt_start x.size h
span_some PhysOverlap r x w h = longer x.phys_start x.size ((and_parts (has_size x) (not (is_comm x)) h).0)
span_some _ r x w h = absurd (false≢true w)

-- what is told of spans is told of the regions that have them
pub others_each : (rule : Rule) (pass : Bool) (b : ℕ) (cell : CellConfig) (spans : List Span) (envelopes : List Envelope) → HasOthers rule pass b cell.memory_regions spans → CoversEach spans envelopes → CoversOthers rule pass b cell envelopes
others_each rule pass b cell spans envelopes has tells = λ one s d own passes within breaks.
    let y = get_or cell.memory_regions s d in
    let other = spot b cell s y in
    let f = pair_follows rule pass one other passes breaks in
    let t = tells (span_of rule s y) (span_of rule one.item one.region) (has s d within f) (meet_swap (span_of rule one.item one.region) (span_of rule s y) (pair_meets rule one other breaks)) in
    let same : t.0.by.item ≡ s = t.1 ∙ span_item rule s y in
    (t.0, λ w. same, omega arith)

pub others_pairs : (rule : Rule) (pass : Bool) (b : ℕ) (cell : CellConfig) (spans : List Span) (envelopes : List Envelope) → is_within rule ≡ true → HasOthers rule pass b cell.memory_regions spans → CoversPairs spans envelopes → CoversOthers rule pass b cell envelopes
others_pairs rule pass b cell spans envelopes w has tells = λ one s d own passes within breaks.
    let regions = cell.memory_regions in
    let y = get_or regions s d in
    let other = spot b cell s y in
    let mine = own (joins_same rule one.cell b w (pair_joins rule one other breaks)) in
    let before : one.item < s = ltb-true one.item s (pair_order rule one other w breaks) in
    let t = pair_takes_part rule one other breaks in
    let f = part_follows rule pass b one.region w t in
    let P : Region → Type 0 = λ x. may_follow rule pass b x ≡ true → Contains spans (span_of rule one.item x) in
    let cx = subst P (sym mine.1) (has one.item one.region mine.0) f in
    let cy = has s d within (pair_follows rule pass one other passes breaks) in
    let differ : (span_of rule one.item one.region).item ≢ (span_of rule s y).item = λ e.
    let g : one.item ≡ s = sym (span_item rule one.item one.region) ∙ e ∙ span_item rule s y in
    omega arith
    in
    let r = tells (span_of rule one.item one.region) (span_of rule s y) cx cy differ (span_some rule one.item one.region w t) (span_some rule s y w (pair_second rule one other w breaks)) (pair_meets rule one other breaks) in
    (r.0, λ f. absurd (both_ways (is_within rule) f w), subst (λ n. n ≤ r.0.by.item) (span_item rule s y) r.1)

-- those of a cell whose regions are in no pair as the other tell nothing
pub others_none : (rule : Rule) (pass : Bool) (b : ℕ) (cell : CellConfig) → ((a : ℕ) → joins rule a b ≡ true → ⊥) → CoversOthers rule pass b cell []
others_none rule pass b cell apart = λ one s d own passes within breaks.
    absurd (apart one.cell (pair_joins rule one (spot b cell s (get_or cell.memory_regions s d)) breaks))

-- what is so of all, and of others where these are known, is so of those of a region that may meet shared ones
of_either : (P : List Envelope → Type 0) (envelopes : Envelopes) → P envelopes.any.items → IfSome envelopes.unshared (λ unshared. P unshared.items) → P (unshared_of envelopes)
of_either P envelopes any own =
    (elim envelopes.unshared as (λ u. IfSome u (λ unshared. P unshared.items) → P (elim u [ None ↦ envelopes.any.items | Some unshared ↦ unshared.items ])) [
      | None ↦ λ h. any
      | Some unshared ↦ λ h. h
    ]) own

-- those of all regions and of unshared ones, if there are any, tell of the cell
pub measured : (rule : Rule) (b : ℕ) (cell : CellConfig) (envelopes : Envelopes) → IsRising envelopes.any.items → CoversOthers rule false b cell envelopes.any.items → IfSome envelopes.unshared (λ unshared. IsRising unshared.items) → IfSome envelopes.unshared (λ unshared. CoversOthers rule true b cell unshared.items) → AreOf rule b cell envelopes
measured rule b cell envelopes rises any unshared_rises unshared = record {
  any_rises = rises;
  any = any;
  unshared_rises = of_either (λ xs. IsRising xs) envelopes rises unshared_rises;
  unshared = of_either (λ xs. CoversOthers rule true b cell xs) envelopes (λ one s d own passes within breaks. any one s d own (λ e. absurd (false≢true e)) within breaks) unshared;
}

-- ---- the search

-- a span behind the first n of them and before the others isn't met
pub lies_unmet : (envelopes : List Envelope) (span : Span) (n : ℕ) → IsRising envelopes → (0 < n → (d : Envelope) → (get_or envelopes (n - 1) d).end ≤ span.start) → (n < length envelopes → (d : Envelope) → span.end ≤ (get_or envelopes n d).start) → n ≤ length envelopes → IsMet envelopes span → ⊥
lies_unmet envelopes span n rising behind before bound met =
    let x = met.by in
    let k = met.is.0 in
    let within = met.is.1 in
    let begins = met.begins in
    let ends = met.ends in
    elim (cases_lt k n) [
      | inl h ↦
          let a = rising.ends k (n - 1) x (omega arith) (omega arith) in
          let b = behind (omega arith) x in
          let c : (get_or envelopes k x).end ≤ span.start = omega arith in
          let e : x.end ≤ span.start = subst (λ (s : Envelope). s.end ≤ span.start) met.is.2 c in
          omega arith
      | inr h ↦
          let a = rising.starts n k x (omega arith) within in
          let b = before (omega arith) x in
          let c : span.end ≤ (get_or envelopes k x).start = omega arith in
          let e : span.end ≤ x.start = subst (λ (s : Envelope). span.end ≤ s.start) met.is.2 c in
          omega arith
    ]

-- where those before one of them end before the span, and those behind it begin behind it, no other meets it
pub meets_no_other : (envelopes : List Envelope) (span : Span) (n : ℕ) (met : IsMet envelopes span) (d : Envelope) → IsRising envelopes → n < length envelopes → (0 < n → (d : Envelope) → (get_or envelopes (n - 1) d).end ≤ span.start) → (n + 1 < length envelopes → (d : Envelope) → span.end ≤ (get_or envelopes (n + 1) d).start) → get_or envelopes n d ≡ met.by
meets_no_other envelopes span n met d rising bound behind before =
    let x = met.by in
    let k = met.is.0 in
    let within = met.is.1 in
    let begins = met.begins in
    let ends = met.ends in
    elim (cases_order k n) [
      | inl e ↦ sym (ap (λ j. get_or envelopes j d) e) ∙ get_or_default envelopes k d x within ∙ met.is.2
      | inr (inl h) ↦
          let a = rising.ends k (n - 1) x (omega arith) (omega arith) in
          let b = behind (omega arith) x in
          let c : (get_or envelopes k x).end ≤ span.start = omega arith in
          let e : x.end ≤ span.start = subst (λ (s : Envelope). s.end ≤ span.start) met.is.2 c in
          absurd (omega arith)
      | inr (inr h) ↦
          let a = rising.starts (n + 1) k x (omega arith) within in
          let b = before (omega arith) x in
          let c : span.end ≤ (get_or envelopes k x).start = omega arith in
          let e : span.end ≤ x.start = subst (λ (s : Envelope). span.end ≤ s.start) met.is.2 c in
          absurd (omega arith)
    ]

-- a region that breaks the rule with one of the cell is met by all, and by those by which it is looked for
met_any : (rule : Rule) (b : ℕ) (other : CellConfig) (envelopes : Envelopes) (one : Spot) (s : ℕ) (d : Region) → AreOf rule b other envelopes → IsAtItsNumber one b other → s < length other.memory_regions → pair_breaks rule one (spot b other s (get_or other.memory_regions s d)) ≡ true → IsMet envelopes.any.items (span_of rule one.item one.region)
met_any rule b other envelopes one s d of own within breaks = (of.any one s d own (λ e. absurd (false≢true e)) within breaks).0

met_for : (rule : Rule) (b : ℕ) (other : CellConfig) (envelopes : Envelopes) (one : Spot) (s : ℕ) (d : Region) → AreOf rule b other envelopes → IsAtItsNumber one b other → s < length other.memory_regions → pair_breaks rule one (spot b other s (get_or other.memory_regions s d)) ≡ true → (met : IsMet (envelopes_for rule one.region envelopes) (span_of rule one.item one.region)) × (is_within rule ≡ false → met.by.item ≡ s) × (s ≤ met.by.item)
met_for rule b other envelopes one s d of own within breaks =
    elim (cases_Bool (passes_shared rule one.region)) [
      | inl p ↦ rw p (of.unshared one s d own (λ e. p) within breaks)
      | inr p ↦ rw p (of.any one s d own (λ e. absurd (false≢true e)) within breaks)
    ]

-- nothing is found of a region that takes no part, or isn't met by both
pub beside_none_met : (rule : Rule) (one : Spot) (b : ℕ) (other : CellConfig) (envelopes : Envelopes) → AreOf rule b other envelopes → IsAtItsNumber one b other → (takes_part rule one.region ≡ true → IsMet envelopes.any.items (span_of rule one.item one.region) → IsMet (envelopes_for rule one.region envelopes) (span_of rule one.item one.region) → ⊥) → beside rule one b other ≡ []
beside_none_met rule one b other envelopes of own unmet =
    beside_none rule one b other (λ s d within breaks. unmet (pair_takes_part rule one (spot b other s (get_or other.memory_regions s d)) breaks) (met_any rule b other envelopes one s d of own within breaks) (met_for rule b other envelopes one s d of own within breaks).0)

-- a range in which those are that meet it has the numbers of those that break the rule with it
pub range_hits : (rule : Rule) (one : Spot) (b : ℕ) (other : CellConfig) (envelopes : Envelopes) (range : ItemRange) → AreOf rule b other envelopes → IsAtItsNumber one b other → (is_within rule ≡ true → (met : IsMet (envelopes_for rule one.region envelopes) (span_of rule one.item one.region)) (s : ℕ) → one.item < s → s ≤ met.by.item → IsIn range s) → (is_within rule ≡ false → (met : IsMet (envelopes_for rule one.region envelopes) (span_of rule one.item one.region)) → IsIn range met.by.item) → HasHits rule one b other range
range_hits rule one b other envelopes range of own behind told = λ s d within small breaks.
    let r = met_for rule b other envelopes one s d of own within breaks in
    elim (cases_Bool (is_within rule)) [
      | inl w ↦
          let low = ltb-true one.item s (pair_order rule one (spot b other s (get_or other.memory_regions s d)) w breaks) in
          behind w r.0 s low r.2
      | inr w ↦ subst (λ n. IsIn range n) (r.1 w) (told w r.0)
    ]

-- items that give nothing may be passed over
pub found_pass : {X : Type 0} (found : ℕ → X → List Finding) (xs : List X) (n m : ℕ) (d : X) → ((i : ℕ) → i < length xs → n ≤ i → i < n + m → found i (get_or xs i d) ≡ []) → found_from found n (drop n xs) ≡ found_from found (n + m) (drop (n + m) xs)
found_pass found xs n zero d h = ap (λ k. found_from found k (drop k xs)) (let e : n ≡ n + 0 = omega arith in e)
found_pass found xs n (suc m) d h =
    let before : found_from found n (drop n xs) ≡ found_from found (n + m) (drop (n + m) xs) = found_pass found xs n m d (λ i within low below. h i within low (omega arith)) in
    let e : (n + m) + 1 ≡ n + suc m = omega arith in
    elim (cases_lt (n + m) (length xs)) [
      | inl k ↦
          let rest = found_from found ((n + m) + 1) (drop ((n + m) + 1) xs) in
          before ∙ found_drop found xs (n + m) d k ∙ ap (λ ys. ys ++ rest) (h (n + m) k (omega arith) (omega arith)) ∙ ap (λ k. found_from found k (drop k xs)) e
      | inr k ↦ before ∙ found_end found xs (n + m) k ∙ sym (found_end found xs (n + suc m) (omega arith))
    ]

-- the first of them
pub found_skip : {X : Type 0} (found : ℕ → X → List Finding) (xs : List X) (n : ℕ) (d : X) → ((i : ℕ) → i < length xs → i < n → found i (get_or xs i d) ≡ []) → found_from found 0 xs ≡ found_from found n (drop n xs)
found_skip found xs n d h =
    let e : 0 + n ≡ n = omega arith in
    found_pass found xs 0 n d (λ i within low below. h i within (omega arith)) ∙ ap (λ k. found_from found k (drop k xs)) e

-- and so do those from one on
pub found_rest : {X : Type 0} (found : ℕ → X → List Finding) (xs : List X) (n : ℕ) (d : X) → ((i : ℕ) → i < length xs → n ≤ i → found i (get_or xs i d) ≡ []) → found_from found n (drop n xs) ≡ []
found_rest found xs n d h =
    found_none found n (drop n xs) d (λ i k.
    let size = length-drop n xs in
    let e : get_or (drop n xs) i d ≡ get_or xs (n + i) d = get_or-drop n xs i d in
    subst (λ x. found (n + i) x ≡ []) (sym e) (h (n + i) (omega arith) (omega arith)))

-- a region outside the range gives nothing
pub beside_outside : (rule : Rule) (one : Spot) (b : ℕ) (other : CellConfig) (range : ItemRange) → HasHits rule one b other range → (s : ℕ) (d : Region) → s < length other.memory_regions → s < 2 ^ 64 → (IsIn range s → ⊥) → beside_at rule one b other s (get_or other.memory_regions s d) ≡ []
unfolding only_if
beside_outside rule one b other range hits s d within small out =
    ap (λ t. only_if t (finding_of rule one.cell one.item b s)) (false_from_ne_true (pair_breaks rule one (spot b other s (get_or other.memory_regions s d))) (λ breaks. out (hits s d within small breaks)))

-- what is among those between the borders
pub among_parted : (envelopes : List Envelope) (span : Span) (begin m n : ℕ) → begin ≤ m → begin ≤ n → n ≤ length envelopes → AllWithin (λ (envelope : Envelope). nat_lt envelope.start span.end ≡ false) envelopes n (length envelopes) → AllWithin (λ (envelope : Envelope). leb envelope.end span.start ≡ true) envelopes 0 m → (met : IsMet envelopes span) → Contains (take (n - begin) (drop begin envelopes)) met.by
among_parted envelopes span begin m n low high bound after before met =
    let x = met.by in
    let k = met.is.0 in
    let within = met.is.1 in
    let begins = met.begins in
    let ends = met.ends in
    let a : k < n = elim (cases_lt k n) [
      | inl h ↦ h
      | inr h ↦
          let e = ltb-false x.start span.end (subst (λ (s : Envelope). nat_lt s.start span.end ≡ false) met.is.2 (after k x h within)) in
          absurd (omega arith)
    ] in
    let b : m ≤ k = elim (cases_lt k m) [
      | inl h ↦
          let e = leb-true x.end span.start (subst (λ (s : Envelope). leb s.end span.start ≡ true) met.is.2 (before k x (omega arith) h)) in
          absurd (omega arith)
      | inr h ↦ h
    ] in
    let sum : begin + (k - begin) ≡ k = omega arith in
    let size = length-take (n - begin) (drop begin envelopes) in
    let rest = length-drop begin envelopes in
    (k - begin, omega arith, get_or-take (n - begin) (drop begin envelopes) (k - begin) x (omega arith) ∙ get_or-drop begin envelopes (k - begin) x ∙ ap (λ i. get_or envelopes i x) sum ∙ met.is.2)

pub capped_none_more : (found more : List Finding) → more ≡ [] → capped found ≡ capped (found ++ more)
capped_none_more found more e = ap capped (sym (append-nil found) ∙ ap (λ xs. found ++ xs) (sym e))

-- ---- regions that lie all beside the envelopes of others

-- a region of the one cell is of the other where these are one
pub own_spot : (a : ℕ) (one : CellConfig) (r : ℕ) (d : Region) (b : ℕ) (other : CellConfig) → r < length one.memory_regions → (a ≡ b → one ≡ other) → IsAtItsNumber (spot a one r (get_or one.memory_regions r d)) b other
own_spot a one r d b other h same = λ e.
    let x = get_or one.memory_regions r d in
    let P : CellConfig → Type 0 = λ c. (r < length c.memory_regions) × (x ≡ get_or c.memory_regions r x) in
    subst P (same e) (h, get_or_default one.memory_regions r d x h)
