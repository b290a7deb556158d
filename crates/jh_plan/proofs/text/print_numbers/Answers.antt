-- One text more stands behind those so far.
use Rattle.std.proofs.Common.{◌++◌, get_or, string_bytes, decimal, sym, ap, ◌∙◌, append_assoc}
use Rattle.jh_plan.specs.SpecText.{comma}
use Rattle.jh_plan.proofs.TextLemmas.{listed}
use Rattle.jh_plan.proofs.text.print_numbers.Goals as goal

pub loop-number-preserved : goal.loop-number-preserved
loop-number-preserved c =
    let xs = c.args.numbers.now in
    let n = c.loop-number.number in
    let before = string_bytes c.loop-number.text in
    let x = decimal (get_or xs n 0) in
    c.in_ok-write.ensures.bytes
    ∙ ap (λ text. text ++ x) c.in_ok-push_comma.ensures
    ∙ append_assoc before (comma n) x
    ∙ ap (λ text. text ++ (comma n ++ x)) c.loop-number.invariant
    ∙ sym (listed decimal xs n 0 c.loop-number-test.true)
