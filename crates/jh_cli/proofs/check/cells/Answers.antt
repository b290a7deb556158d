-- Each file gives a cell, or stops the call.
use Rattle.std.proofs.Common.{◌+◌, [], ◌∷◌, length, ◌∙◌, ap, refl, arith}
use Rattle.std.specs.Prelude.{string_bytes}
use Rattle.std.proofs.lemmas.List.{length-append}
use Rattle.jh_outside.proofs.Public.{loop_more}
use Rattle.jh_outside.specs.Trail.{no_ask}
use Rattle.jh_cli.proofs.CellLemmas.{spell_next, stops_next}
use Rattle.jh_cli.proofs.check.cells.Goals as goal

pub returns-in-Err-clause-asked_until : goal.returns-in-Err-clause-asked_until
returns-in-Err-clause-asked_until g c =
    let stops = rw (c.loop-name.invariant.kept, c.as_str.ensures.value, c.name-item.is) at c.in-Err.ensures.err in
    let last = rw (c.as_str.ensures.value, c.name-item.is) at c.in-Err.ensures.asked_until in
    stops_next g.F.Files string_bytes (g.F.Files.contents c.args.files.now) c.args.names.now c.loop-name.name-index _ c.loop-name.cells c.args.files.now c.loop-name.files c.cell.new.files
    c.loop-name-test.true c.loop-name.invariant.spelled c.loop-name.invariant.asked c.in-Err.stop stops last

pub loop-name-preserved : goal.loop-name-preserved
loop-name-preserved g c =
    let contents = g.F.Files.contents c.args.files.now in
    let one = rw (c.loop-name.invariant.kept, c.as_str.ensures.value, c.name-item.is) at c.in-Ok.ensures.ok in
    let counted = c.loop-name.invariant.counted in
    let more = c.cell.ensures.never_falls in
    record {
      spelled = rw c.in_ok-push-in-Ok.ensures.ok (spell_next string_bytes contents c.args.names.now c.loop-name.name-index _ c.loop-name.cells c.in-Ok.cell c.loop-name-test.true c.loop-name.invariant.spelled one);
      few = ap length c.in_ok-push-in-Ok.ensures.ok ∙ length-append c.loop-name.cells (c.in-Ok.cell ∷ []) ∙ ap (λ n. n + 1) c.loop-name.invariant.few;
      kept = c.cell.ensures.kept ∙ c.loop-name.invariant.kept;
      asked = loop_more string_bytes g.F.Files c.args.files.now c.loop-name.files c.cell.new.files c.args.names.now c.loop-name.name-index c.name-item.result c.loop-name-test.true c.name-item.is c.loop-name.invariant.asked (rw c.as_str.ensures.value at c.in-Ok.ensures.asked);
      counted = omega arith;
    }

pub loop-name-init : goal.loop-name-init
loop-name-init g c = record {
  spelled = rw c.new-cells.ensures tt;
  few = rw c.new-cells.ensures refl;
  kept = refl;
  asked = no_ask c.args.files.now;
  counted = omega arith;
}
