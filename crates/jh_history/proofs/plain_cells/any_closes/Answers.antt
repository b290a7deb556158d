-- One cell more.
use Rattle.std.proofs.Common.{◌≡◌, ◌<◌, Bool, true, false, List, length, get_or, ap, sym, ◌∙◌, arith}
use Rattle.std.specs.List.{list_any}
use Rattle.jh_cellcfg.specs.declared.live.Live.{Live}
use Rattle.jh_cellcfg.specs.declared.region.Region.{Region}
use Rattle.jh_shape.specs.Shapes.{takes}
use Rattle.jh_shape.specs.Lives.{with_marks}
use Rattle.jh_shape.proofs.Public.{length_joined, live_of}
use Rattle.jh_history.proofs.LoopLemmas.{any_found, any_next, any_end, closing, closed_by, joined_read}
use Rattle.jh_history.proofs.plain_cells.any_closes.Goals as goal

pub returns-then-any_takes : goal.returns-then-any_takes
returns-then-any_takes c =
    let lives = with_marks c.args.cells.now c.args.marks.now in
    let mark : Bool = get_or c.args.marks.now c.loop-i.i false in
    let live : Live = live_of c.index-cells-i.result mark in
    let within : c.loop-i.i < length lives = (let e = length_joined c.args.cells.now c.args.marks.now c.requires in omega arith) in
    let passes : closing c.args.place live ≡ true =
    ap (λ (rs : List Region). list_any (λ (region : Region). takes mark region c.args.place) rs) (sym c.as_slice.ensures.value) ∙ sym c.any_takes.ensures ∙ c.if-any_takes.true in
    sym (closed_by lives c.args.place ∙ any_found (closing c.args.place) lives c.loop-i.i live within (joined_read c.loop-i.i c.args.cells.now c.args.marks.now c.index-cells-i.result false c.requires c.loop-i-test.true c.index-cells-i.is) passes)

pub loop-i-preserved : goal.loop-i-preserved
loop-i-preserved c =
    let lives = with_marks c.args.cells.now c.args.marks.now in
    let mark : Bool = get_or c.args.marks.now c.loop-i.i false in
    let live : Live = live_of c.index-cells-i.result mark in
    let within : c.loop-i.i < length lives = (let e = length_joined c.args.cells.now c.args.marks.now c.requires in omega arith) in
    let fails : closing c.args.place live ≡ false =
    ap (λ (rs : List Region). list_any (λ (region : Region). takes mark region c.args.place) rs) (sym c.as_slice.ensures.value) ∙ sym c.any_takes.ensures ∙ c.if-any_takes.false in
    any_next (closing c.args.place) lives c.loop-i.i live within (joined_read c.loop-i.i c.args.cells.now c.args.marks.now c.index-cells-i.result false c.requires c.loop-i-test.true c.index-cells-i.is) c.loop-i.invariant fails

pub returns : goal.returns
returns c =
    let lives = with_marks c.args.cells.now c.args.marks.now in
    sym (closed_by lives c.args.place ∙ any_end (closing c.args.place) lives c.loop-i.i (let e = length_joined c.args.cells.now c.args.marks.now c.requires in omega arith) c.loop-i.invariant)
