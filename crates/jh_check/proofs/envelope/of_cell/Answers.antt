-- What the envelopes tell of each span, or of each pair of spans that meet, they tell of the regions whose spans these are.
use Rattle.std.proofs.Common.{◌≡◌, ℕ, Bool, List, subst, sym, ◌∙◌}
use Rattle.std.proofs.lemmas.Result.{IfOk-weaker}
use Rattle.jh_cellcfg.specs.declared.region.Region.{Region}
use Rattle.jh_check.specs.declared.rule.Rule.{Rule}
use Rattle.jh_check.specs.declared.spans.Span.{Span}
use Rattle.jh_check.specs.Private.Envelopes.{HasOthers, CoversEach, CoversPairs, CoversOthers}
use Rattle.jh_check.proofs.EnvelopeLemmas.{others_each, others_pairs}
use Rattle.jh_check.proofs.envelope.of_cell.Goals as goal

-- what the spans of a list of regions tell of them, where that list and that of the spans stand for others
carried : (regions asked : List Region) (found spans : List Span) (rule : Rule) (pass : Bool) (b : ℕ) → asked ≡ regions → spans ≡ found → HasOthers rule pass b asked found → HasOthers rule pass b regions spans
carried regions asked found spans rule pass b same told has =
    subst (λ spans. HasOthers rule pass b regions spans) (sym told) (subst (λ regions. HasOthers rule pass b regions found) same has)

pub returns-then-is_within-clause-tells : goal.returns-then-is_within-clause-tells
returns-then-is_within-clause-tells c =
    let cell = c.args.cell.now in
    let spans = c.as_slice-spans.result.now in
    let within = sym c.is_within.ensures ∙ c.if-is_within.true in
    IfOk-weaker c.of_pairs.result (λ envelopes. CoversPairs spans envelopes.items) (λ envelopes. CoversOthers c.args.rule c.args.pass c.args.b cell envelopes.items) (λ envelopes tells. others_pairs c.args.rule c.args.pass c.args.b cell spans envelopes.items within (carried cell.memory_regions c.as_slice.result.now c.in_ok-sorted.sorted.items spans c.args.rule c.args.pass c.args.b c.as_slice.ensures.value c.as_slice-spans.ensures.value c.in_ok-sorted.ensures.each) tells) c.of_pairs.ensures.tells

pub returns-clause-tells : goal.returns-clause-tells
returns-clause-tells c =
    let cell = c.args.cell.now in
    let spans = c.as_slice-spans.result.now in
    IfOk-weaker c.of_each.result (λ envelopes. CoversEach spans envelopes.items) (λ envelopes. CoversOthers c.args.rule c.args.pass c.args.b cell envelopes.items) (λ envelopes tells. others_each c.args.rule c.args.pass c.args.b cell spans envelopes.items (carried cell.memory_regions c.as_slice.result.now c.in_ok-sorted.sorted.items spans c.args.rule c.args.pass c.args.b c.as_slice.ensures.value c.as_slice-spans.ensures.value c.in_ok-sorted.ensures.each) tells) c.of_each.ensures.tells
