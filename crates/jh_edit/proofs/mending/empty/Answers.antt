-- The words of the table are written, and translations go.
use Rattle.std.proofs.Common.{◌≡◌, ◌+◌, suc, Some, subst, arith}
use Rattle.jh_shape.specs.Claims.{claims_of}
use Rattle.jh_shape.specs.Shapes.{want_of}
use Rattle.jh_edit.specs.declared.writing.Writing.TheVariants.{Empty}
use Rattle.jh_edit.specs.Trees.{staying}
use Rattle.jh_edit.specs.Private.Slots.{IsTableStart}
use Rattle.jh_edit.proofs.StepLemmas.{changed_by, emptied_deed, reached_own, written_of}
use Rattle.jh_edit.proofs.mending.empty.Goals as goal

pub write_table-requires-clause-start : goal.write_table-requires-clause-start
write_table-requires-clause-start c =
    let one : suc c.args.node.below ≡ c.args.node.below + 1 = omega arith in
    subst (λ n. IsTableStart n c.args.node.start) one c.requires.node.is.begins

pub write_table-requires-clause-own : goal.write_table-requires-clause-own
write_table-requires-clause-own c =
    let want = want_of (claims_of c.args.t.now) in
    reached_own c.args.f.now c.args.table c.requires.tables (staying want) (Some 0) (suc c.args.node.below) (Some c.args.node.start) c.args.node.page c.requires.node.reached

pub returns : goal.returns
returns c = λ p.
    let claims = claims_of c.args.t.now in
    let node = c.args.node in
    let w = c.write_table.ensures in
    let changed = changed_by node.page c.args.f.now c.write_table.new.f w.base w.size w.guest w.below w.above in
    let one : node.below + 1 ≡ suc node.below = omega arith in
    let written = written_of Empty (want_of claims) node.below (node.below + 1) node.page node.start c.args.f.now c.write_table.new.f one changed w.words in
    emptied_deed c.args.tag (want_of claims) c.args.table node c.args.f.now c.write_table.new.f p c.args.c.now c.flush.new.self c.requires.node changed written c.flush.ensures
