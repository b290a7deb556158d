-- One text more stands behind those so far.
use Rattle.std.proofs.Common.{◌++◌, get_or, string_bytes, sym, ap, ◌∙◌, append_assoc}
use Rattle.jh_plan.specs.SpecText.{comma, region_text}
use Rattle.jh_plan.proofs.TextLemmas.{listed}
use Rattle.jh_plan.proofs.text.print_regions.Goals as goal

pub loop-number-preserved : goal.loop-number-preserved
loop-number-preserved c =
    let xs = c.args.regions.now in
    let n = c.loop-number.number in
    let before = string_bytes c.loop-number.text in
    let x = region_text (get_or xs n _) in
    c.in_ok-push_region.ensures
    ∙ ap (λ text. text ++ x) c.in_ok-push_comma.ensures
    ∙ append_assoc before (comma n) x
    ∙ ap (λ text. text ++ (comma n ++ x)) c.loop-number.invariant
    ∙ sym (listed region_text xs n _ c.loop-number-test.true)
