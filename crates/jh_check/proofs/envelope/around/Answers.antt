-- Each turn takes the lesser number for the first and the greater one for the last.
use Rattle.std.proofs.Common.{◌≡◌, ◌≤◌, get_or, inl, inr, sym, subst, arith}
use Rattle.std.proofs.lemmas.Bool.{cases_eq}
use Rattle.std.proofs.lemmas.List.{get_or_default}
use Rattle.jh_check.specs.declared.envelope.Envelope.{Envelope}
use Rattle.jh_check.proofs.envelope.around.Goals as goal

pub loop-envelope-preserved : goal.loop-envelope-preserved
loop-envelope-preserved c =
    let envelopes = c.args.envelopes.now in
    let i = c.loop-envelope.envelope-index in
    let none : Envelope = record { start = 0; end = 0; item = 0 } in
    let x = get_or envelopes i none in
    let low = c.min-first.ensures in
    let high = c.max-last.ensures in
    let same : (d : Envelope) → x ≡ get_or envelopes i d = λ d. get_or_default envelopes i none d c.loop-envelope-test.true in
    record {
      first = λ k d h. elim (cases_eq k i) [
        | inl e ↦ subst (λ j. c.min-first.result ≤ (get_or envelopes j d).item) (sym e) (subst (λ (r : Envelope). c.min-first.result ≤ r.item) (same d) (omega (arith, low)))
        | inr n ↦ let b = c.loop-envelope.invariant.first k d (omega arith) in omega (arith, low)
      ];
      last = λ k d h. elim (cases_eq k i) [
        | inl e ↦ subst (λ j. (get_or envelopes j d).item ≤ c.max-last.result) (sym e) (subst (λ (r : Envelope). r.item ≤ c.max-last.result) (same d) (omega (arith, high)))
        | inr n ↦ let b = c.loop-envelope.invariant.last k d (omega arith) in omega (arith, high)
      ];
    }

pub returns : goal.returns
returns c = λ x cx.
    let k = cx.0 in
    let within = cx.1 in
    let t = c.loop-envelope-test.false in
    let a = c.loop-envelope.invariant.first k x (omega arith) in
    let b = c.loop-envelope.invariant.last k x (omega arith) in
    (subst (λ (r : Envelope). c.loop-envelope.first ≤ r.item) cx.2 a, subst (λ (r : Envelope). r.item ≤ c.loop-envelope.last) cx.2 b)
