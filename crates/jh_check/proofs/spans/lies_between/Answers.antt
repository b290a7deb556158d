-- As the spans stand apart, the last before it and the first behind it answer for all.
use Rattle.std.proofs.Common.{◌≡◌, ◌-◌, ◌≤◌, length, get_or, sym, subst, ◌∙◌, arith}
use Rattle.std.proofs.lemmas.Bool.{leb-true, eqb-true}
use Rattle.std.proofs.lemmas.List.{get_or_default}
use Rattle.jh_check.specs.declared.spans.Span.{Span}
use Rattle.jh_check.proofs.SpanLemmas.{between_none}
use Rattle.jh_check.proofs.spans.lies_between.Goals.{then-n-spans+then-n-eq0, then-n-spans+else-n-eq0, else-n-spans}
use Rattle.jh_check.proofs.spans.lies_between.Goals as goal

pub returns-else-n-spans-2 : goal.returns-else-n-spans-2
returns-else-n-spans-2 c = λ e.
    let spans = c.args.spans.now in
    let none : Span = record { start = 0; end = 0; item = 0 } in
    let n = c.args.n in
    let f = c.from-else-n-spans-2.ensures in
    let k = leb-true c.args.other.end c.from-else-n-spans-2.result e in
    let i = c.if-spans-n.true in
    let bound : n ≤ length spans = elim c.if-n-spans.branch [
      | then-n-spans+then-n-eq0 w ↦ w.if-n-spans.true
      | then-n-spans+else-n-eq0 w ↦ w.if-n-spans.true
      | else-n-spans w ↦ leb-true n (length spans) (sym w.value-is ∙ i)
    ] in
    between_none spans c.args.other n c.requires (λ h d. elim c.if-n-spans.branch [
      | then-n-spans+then-n-eq0 w ↦ let z = w.if-n-eq0.true in absurd (omega arith)
      | then-n-spans+else-n-eq0 w ↦
          let g = w.from.ensures in
          let t = leb-true (get_or spans (n - 1) none).end w.from.result (sym w.value-is ∙ i) in
          let a : (get_or spans (n - 1) none).end ≤ c.args.other.start = omega arith in
          subst (λ (s : Span). s.end ≤ c.args.other.start) (get_or_default spans (n - 1) none d (omega arith)) a
      | else-n-spans w ↦ let f = w.if-n-spans.false in absurd (omega arith)
    ]) (λ h d. subst (λ (s : Span). c.args.other.end ≤ s.start) (get_or_default spans n none d h) (omega arith)) bound

pub returns-then-n-spans-2 : goal.returns-then-n-spans-2
returns-then-n-spans-2 c = λ e.
    let spans = c.args.spans.now in
    let none : Span = record { start = 0; end = 0; item = 0 } in
    let n = c.args.n in
    let all : n ≡ length spans = eqb-true n (length spans) e in
    let i = c.if-spans-n.true in
    between_none spans c.args.other n c.requires (λ h d. elim c.if-n-spans.branch [
      | then-n-spans+then-n-eq0 w ↦ let z = w.if-n-eq0.true in absurd (omega arith)
      | then-n-spans+else-n-eq0 w ↦
          let g = w.from.ensures in
          let t = leb-true (get_or spans (n - 1) none).end w.from.result (sym w.value-is ∙ i) in
          let a : (get_or spans (n - 1) none).end ≤ c.args.other.start = omega arith in
          subst (λ (s : Span). s.end ≤ c.args.other.start) (get_or_default spans (n - 1) none d (omega arith)) a
      | else-n-spans w ↦ let f = w.if-n-spans.false in absurd (omega arith)
    ]) (λ h d. absurd (omega arith)) (omega arith)
