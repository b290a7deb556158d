-- A program beside each later one.
use Rattle.std.proofs.Common.{◌+◌, ◌&&◌, not, drop, map, sym, ap, ◌∙◌}
use Rattle.std.specs.List.{list_any}
use Rattle.jh_image.specs.declared.board.ProgramFile.{ProgramFile}
use Rattle.jh_image.specs.Boards.{are_distinct, named_cpu_of, is_same_cpu}
use Rattle.jh_image.proofs.DistinctLemmas.{distinct_at, distinct_end, later_is}
use Rattle.jh_image.proofs.list.are_distinct.Goals as goal

pub returns-then-not-is_another : goal.returns-then-not-is_another
returns-then-not-is_another c =
    let files = c.args.files.now in
    let i = c.loop-i.i in
    let file = c.index-files-i.result in
    let test = sym c.if-not-is_another.true ∙ c.is_another.ensures ∙ ap (λ fs. not (list_any (λ (other : ProgramFile). is_same_cpu (named_cpu_of file) (named_cpu_of other)) fs)) (later_is files i c.loop-i-test.true) in
    ap (λ b. b && are_distinct (map named_cpu_of (drop (i + 1) files))) test ∙ sym (distinct_at files i file c.loop-i-test.true c.index-files-i.is) ∙ c.loop-i.invariant

pub loop-i-preserved : goal.loop-i-preserved
loop-i-preserved c =
    let files = c.args.files.now in
    let i = c.loop-i.i in
    let file = c.index-files-i.result in
    let test = sym c.if-not-is_another.false ∙ c.is_another.ensures ∙ ap (λ fs. not (list_any (λ (other : ProgramFile). is_same_cpu (named_cpu_of file) (named_cpu_of other)) fs)) (later_is files i c.loop-i-test.true) in
    ap (λ b. b && are_distinct (map named_cpu_of (drop (i + 1) files))) test ∙ sym (distinct_at files i file c.loop-i-test.true c.index-files-i.is) ∙ c.loop-i.invariant

pub returns : goal.returns
returns c = sym (distinct_end c.args.files.now c.loop-i.i c.loop-i-test.false) ∙ c.loop-i.invariant
