-- Cells whose regions begin in the order of their numbers.
use Rattle.std.proofs.Common.{◌≡◌, ℕ, ◌^◌, ◌+◌, ◌<◌, ◌≤◌, zero, suc, true, false, [], ◌∷◌, ◌++◌, List, length, get_or, inl, inr, sym, ap, subst, ◌∙◌, add-zero, arith}
use Rattle.std.proofs.lemmas.Bool.{cases_eq, cases_lt, cases_Bool, ltb-true, both_ways}
use Rattle.std.proofs.lemmas.List.{get_or_default, append-nil}
use Rattle.jh_cellcfg.specs.declared.region.Region.{Region}
use Rattle.jh_cellcfg.specs.declared.config.CellConfig.{CellConfig}
use Rattle.jh_check.specs.declared.rule.Rule.{Rule}
use Rattle.jh_check.specs.declared.envelope.ItemRange.{ItemRange}
use Rattle.jh_check.specs.declared.rising.Scan.{Scan}
use Rattle.jh_check.specs.Private.Spans.{takes_part, span_of, is_within, joins}
use Rattle.jh_check.specs.declared.finding.Finding.{Finding}
use Rattle.jh_check.specs.Lists.{found_from}
use Rattle.jh_check.specs.Findings.{spot, beside, between, from_cell}
use Rattle.jh_check.specs.Private.Envelopes.{HasHits}
use Rattle.jh_check.specs.Private.Rising.{TakesPart, start_at, end_at, IsRisingTo, IsStretch, IsScanTo, IsJoined, IsScanMore, EndsBefore}
use Rattle.jh_check.proofs.SpanLemmas.{span_ordered}
use Rattle.jh_check.proofs.BreakLemmas.{pair_order, pair_second, pair_takes_part, pair_meets, met_before, beside_none, between_apart, joins_same}
use Rattle.jh_check.proofs.ListLemmas.{found_none}

-- none, and one more
pub scan_none : (rule : Rule) (regions : List Region) (scan : Scan) → IsScanTo rule regions 0 scan
scan_none rule regions scan = record {
  stand = record {
    rising = λ i j d h k t u. absurd (omega arith);
    before = λ i j d h k f t u. absurd (omega arith);
    behind = λ i j d h k f t u. absurd (omega arith);
  };
  starts = λ i d h t. absurd (omega arith);
  ends = λ i d h t. absurd (omega arith);
  latest = λ i d h t. absurd (omega arith);
}

scan_same : (rule : Rule) (regions : List Region) (n : ℕ) (x : Region) (scan : Scan) → n < length regions → x ≡ get_or regions n x → takes_part rule x ≡ false → IsScanTo rule regions n scan → IsScanTo rule regions (n + 1) scan
scan_same rule regions n x scan within is idle before =
    let below : (i : ℕ) (d : Region) → i < n + 1 → TakesPart rule regions d i → i < n = λ i d h t. elim (cases_eq i n) [
      | inl e ↦
          let same : x ≡ get_or regions i d = is ∙ get_or_default regions n x d within ∙ ap (λ k. get_or regions k d) (sym e) in
          absurd (both_ways (takes_part rule x) idle (subst (λ y. takes_part rule y ≡ true) (sym same) t))
      | inr m ↦ omega arith
    ]
    in
    record {
      stand = record {
        rising = λ i j d h k t u. before.stand.rising i j d h (below j d k u) t u;
        before = λ i j d h k f t u. before.stand.before i j d h (below j d k u) f t u;
        behind = λ i j d h k f t u. before.stand.behind i j d h (below j d k u) f t u;
      };
      starts = λ i d h t. before.starts i d (below i d h t) t;
      ends = λ i d h t. before.ends i d (below i d h t) t;
      latest = λ i d h t. let l = before.latest i d (below i d h t) t in (l.0, omega arith, l.2);
    }

-- those of the scan begin no later than one that joins it, and end before it begins, where they stand before the first
-- or it stands behind the last
joined_starts : (rule : Rule) (regions : List Region) (n : ℕ) (x : Region) (scan more : Scan) → IsJoined rule n x scan more → IsScanTo rule regions n scan → (i : ℕ) (d : Region) → i < n → TakesPart rule regions d i → start_at rule regions d i ≤ (span_of rule n x).start
joined_starts rule regions n x scan more joined before i d h t =
    elim joined.apart [
      | inl far ↦
          let a = before.ends i d h t in
          let o = span_ordered rule i (get_or regions i d) in
          omega arith
      | inr near ↦
          let a = before.starts i d h t in
          let b = near.0 in
          omega arith
    ]

joined_first : (rule : Rule) (regions : List Region) (n : ℕ) (x : Region) (scan more : Scan) → IsJoined rule n x scan more → IsScanTo rule regions n scan → (i : ℕ) (d : Region) → i < n → i < more.first → TakesPart rule regions d i → end_at rule regions d i ≤ (span_of rule n x).start
joined_first rule regions n x scan more joined before i d h f t =
    elim joined.apart [
      | inl far ↦
          let a = before.ends i d h t in
          omega arith
      | inr near ↦
          let l = before.latest i d h t in
          let within = l.1 in
          let low = near.1 in
          let first = joined.first in
          let a = before.stand.before i scan.item d (omega arith) within (omega arith) t l.2 in
          let b = before.starts scan.item d within l.2 in
          let c = near.0 in
          omega arith
    ]

joined_last : (rule : Rule) (regions : List Region) (n : ℕ) (x : Region) (scan more : Scan) → IsJoined rule n x scan more → IsScanTo rule regions n scan → (i : ℕ) (d : Region) → i < n → more.last < n → TakesPart rule regions d i → end_at rule regions d i ≤ (span_of rule n x).start
joined_last rule regions n x scan more joined before i d h f t =
    elim joined.apart [
      | inl far ↦
          let a = before.ends i d h t in
          omega arith
      | inr near ↦
          let e = near.2 in
          absurd (omega arith)
    ]

scan_joined : (rule : Rule) (regions : List Region) (n : ℕ) (x : Region) (scan more : Scan) → n < length regions → x ≡ get_or regions n x → takes_part rule x ≡ true → IsJoined rule n x scan more → IsScanTo rule regions n scan → IsScanTo rule regions (n + 1) more
scan_joined rule regions n x scan more within is part joined before =
    let same : (k : ℕ) (d : Region) → k ≡ n → x ≡ get_or regions k d = λ k d e. is ∙ get_or_default regions n x d within ∙ ap (λ k. get_or regions k d) (sym e) in
    let starts : (k : ℕ) (d : Region) → k ≡ n → (span_of rule n x).start ≡ start_at rule regions d k = λ k d e. ap (λ j. (span_of rule j x).start) (sym e) ∙ ap (λ y. (span_of rule k y).start) (same k d e) in
    let ends : (k : ℕ) (d : Region) → k ≡ n → (span_of rule n x).end ≡ end_at rule regions d k = λ k d e. ap (λ j. (span_of rule j x).end) (sym e) ∙ ap (λ y. (span_of rule k y).end) (same k d e) in
    record {
      stand = record {
        rising = λ i j d h k t u. elim (cases_eq j n) [
          | inl e ↦
              let s = starts j d e in
              let a = joined_starts rule regions n x scan more joined before i d (omega arith) t in
              omega arith
          | inr m ↦ before.stand.rising i j d h (omega arith) t u
        ];
        before = λ i j d h k f t u. elim (cases_eq j n) [
          | inl e ↦
              let s = starts j d e in
              let a = joined_first rule regions n x scan more joined before i d (omega arith) f t in
              omega arith
          | inr m ↦
              let g = joined.first in
              before.stand.before i j d h (omega arith) (omega arith) t u
        ];
        behind = λ i j d h k f t u. elim (cases_eq j n) [
          | inl e ↦
              let s = starts j d e in
              let a = joined_last rule regions n x scan more joined before i d (omega arith) (omega arith) t in
              omega arith
          | inr m ↦ elim joined.last [
            | inl g ↦ before.stand.behind i j d h (omega arith) (omega arith) t u
            | inr g ↦ absurd (omega arith)
          ]
        ];
      };
      starts = λ i d h t. elim (cases_eq i n) [
        | inl e ↦
            let s = starts i d e in
            let g = joined.start in
            omega arith
        | inr m ↦
            let a = joined_starts rule regions n x scan more joined before i d (omega arith) t in
            let g = joined.start in
            omega arith
      ];
      ends = λ i d h t. elim (cases_eq i n) [
        | inl e ↦
            let s = ends i d e in
            let g = joined.own in
            omega arith
        | inr m ↦
            let a = before.ends i d (omega arith) t in
            let g = joined.grows in
            omega arith
      ];
      latest = λ i d h t.
          let g = joined.latest in
          (omega arith, omega arith, subst (λ y. takes_part rule y ≡ true) (same more.item d g) part);
    }

pub scan_more : (rule : Rule) (regions : List Region) (n : ℕ) (x : Region) (scan more : Scan) → n < length regions → x ≡ get_or regions n x → IsScanMore rule n x scan more → IsScanTo rule regions n scan → IsScanTo rule regions (n + 1) more
scan_more rule regions n x scan more within is joins before =
    elim (cases_Bool (takes_part rule x)) [
      | inl t ↦ scan_joined rule regions n x scan more within is t (joins.0 t) before
      | inr f ↦ subst (λ r. IsScanTo rule regions (n + 1) r) (sym (joins.1 f)) (scan_same rule regions n x scan within is f before)
    ]

-- at the end of all
pub scan_done : (rule : Rule) (regions : List Region) (n : ℕ) (scan : Scan) → length regions ≤ n → IsScanTo rule regions n scan → IsRisingTo rule regions (length regions) scan.first scan.last
scan_done rule regions n scan all is = record {
  rising = λ i j d h k t u. is.stand.rising i j d h (omega arith) t u;
  before = λ i j d h k f t u. is.stand.before i j d h (omega arith) f t u;
  behind = λ i j d h k f t u. is.stand.behind i j d h (omega arith) f t u;
}

-- a region that ends before those behind it begin breaks the rule with none of the cell
pub beside_early : (rule : Rule) (a : ℕ) (one : CellConfig) (r : ℕ) (d : Region) → is_within rule ≡ true → ((s : ℕ) → r < s → s < length one.memory_regions → TakesPart rule one.memory_regions d r → TakesPart rule one.memory_regions d s → end_at rule one.memory_regions d r ≤ start_at rule one.memory_regions d s) → beside rule (spot a one r (get_or one.memory_regions r d)) a one ≡ []
beside_early rule a one r d w early =
    let regions = one.memory_regions in
    let x = get_or regions r d in
    beside_none rule (spot a one r x) a one (λ s e within breaks.
    let y = get_or regions s e in
    let other = spot a one s y in
    let first = spot a one r x in
    let same : get_or regions s e ≡ get_or regions s d = get_or_default regions s e d within in
    let before : r < s = ltb-true r s (pair_order rule first other w breaks) in
    let second = subst (λ y. takes_part rule y ≡ true) same (pair_second rule first other w breaks) in
    let far = early s before within (pair_takes_part rule first other breaks) second in
    met_before (span_of rule r x) (span_of rule s y) (pair_meets rule first other breaks) (subst (λ y. (span_of rule r x).end ≤ (span_of rule s y).start) (sym same) far))

-- the regions before the stretch, and those from its last on, break the rule with none
pub beside_before : (rule : Rule) (a : ℕ) (one : CellConfig) (stretch : ItemRange) (r : ℕ) (d : Region) → is_within rule ≡ true → IsStretch rule one.memory_regions stretch → r < stretch.first → beside rule (spot a one r (get_or one.memory_regions r d)) a one ≡ []
beside_before rule a one stretch r d w is low = beside_early rule a one r d w (λ s h k t u. is.before r s d h k low t u)

pub beside_behind : (rule : Rule) (a : ℕ) (one : CellConfig) (stretch : ItemRange) (r : ℕ) (d : Region) → is_within rule ≡ true → IsStretch rule one.memory_regions stretch → stretch.last ≤ r → beside rule (spot a one r (get_or one.memory_regions r d)) a one ≡ []
beside_behind rule a one stretch r d w is high = beside_early rule a one r d w (λ s h k t u. is.behind r s d h k (omega arith) t u)

-- those that break the rule with a region have their numbers behind it, up to the last
pub scan_hits : (rule : Rule) (a : ℕ) (one : CellConfig) (stretch range : ItemRange) (r : ℕ) (d : Region) → is_within rule ≡ true → IsStretch rule one.memory_regions stretch → ((s : ℕ) → r < s → s < 2 ^ 64 → range.first ≤ s) → EndsBefore rule one.memory_regions r stretch.last (end_at rule one.memory_regions d r) range.last → HasHits rule (spot a one r (get_or one.memory_regions r d)) a one range
scan_hits rule a one stretch range r d w is begins stops = λ s e within small breaks.
    let regions = one.memory_regions in
    let x = get_or regions r d in
    let y = get_or regions s e in
    let first = spot a one r x in
    let other = spot a one s y in
    let same : get_or regions s e ≡ get_or regions s d = get_or_default regions s e d within in
    let before : r < s = ltb-true r s (pair_order rule first other w breaks) in
    let part = pair_takes_part rule first other breaks in
    let second : TakesPart rule regions d s = subst (λ y. takes_part rule y ≡ true) same (pair_second rule first other w breaks) in
    let near : end_at rule regions d r ≤ start_at rule regions d s → ⊥ = λ far. met_before (span_of rule r x) (span_of rule s y) (pair_meets rule first other breaks) (subst (λ y. (span_of rule r x).end ≤ (span_of rule s y).start) (sym same) far) in (
      begins s before small,
      elim (cases_lt range.last s) [
        | inr h ↦ h
        | inl h ↦ elim (cases_lt stretch.last s) [
          | inl k ↦ absurd (near (is.behind r s d before within k part second))
          | inr k ↦
              let stop = stops s h k d in
              let rise = is.rising range.last s d h within stop.2 second in
              let far = stop.3 in
              absurd (near (omega arith))
        ]
      ],
    )

-- what one of the items gives is all, where the others give nothing
single_from : {X : Type 0} (found : ℕ → X → List Finding) (n : ℕ) (xs : List X) (k : ℕ) (d : X) → k < length xs → ((i : ℕ) → i < length xs → (i ≡ k → ⊥) → found (n + i) (get_or xs i d) ≡ []) → found_from found n xs ≡ found (n + k) (get_or xs k d)
unfolding found_from
single_from found n [] k d h others = absurd (omega arith)
single_from found n (x ∷ xs) zero d h others =
    let rest : found_from found (n + 1) xs ≡ [] = found_none found (n + 1) xs d (λ i j. subst (λ m. found m (get_or xs i d) ≡ []) (let e : n + suc i ≡ (n + 1) + i = omega arith in e) (others (suc i) (omega arith) (λ e. omega arith))) in
    ap (λ ys. found n x ++ ys) rest ∙ append-nil (found n x) ∙ ap (λ m. found m x) (sym (add-zero n))
single_from found n (x ∷ xs) (suc k) d h others =
    let here : found n x ≡ [] = subst (λ m. found m x ≡ []) (add-zero n) (others 0 (omega arith) (λ e. omega arith)) in
    let place : n + suc k ≡ (n + 1) + k = omega arith in
    ap (λ ys. ys ++ found_from found (n + 1) xs) here
    ∙ single_from found (n + 1) xs k d (omega arith) (λ i j m. subst (λ p. found p (get_or xs i d) ≡ []) (let e : n + suc i ≡ (n + 1) + i = omega arith in e) (others (suc i) (omega arith) (λ e. m (omega arith))))
    ∙ ap (λ m. found m (get_or xs k d)) (sym place)

-- by a rule about one cell, only its own regions are found beside those of a cell
pub cell_in_itself : (rule : Rule) (all : List CellConfig) (a : ℕ) (one : CellConfig) → a < length all → is_within rule ≡ true → one ≡ get_or all a one → from_cell rule all a one ≡ between rule a one a one
unfolding from_cell
cell_in_itself rule all a one within w is =
    single_from (between rule a one) 0 all a one within (λ i h differ.
    subst (λ m. between rule a one m (get_or all i one) ≡ []) (let e : i ≡ 0 + i = omega arith in e) (
    elim (cases_Bool (joins rule a i)) [
      | inl j ↦ absurd (differ (sym (joins_same rule a i w j)))
      | inr j ↦ between_apart rule a one i (get_or all i one) j
    ]))
    ∙ ap (λ m. between rule a one m (get_or all a one)) (let e : 0 + a ≡ a = omega arith in e)
    ∙ ap (λ cell. between rule a one a cell) (sym is)
