-- The words of the table are written, each leaf that is wanted can be read from its word.
use Rattle.std.proofs.Common.{◌≡◌, ◌+◌, suc, Some, subst, arith}
use Rattle.jh_shape.specs.Claims.{claims_of}
use Rattle.jh_shape.specs.Shapes.{want_of}
use Rattle.jh_edit.specs.declared.writing.Writing.TheVariants.{Fill}
use Rattle.jh_edit.specs.Trees.{staying}
use Rattle.jh_edit.specs.Private.Slots.{IsTableStart}
use Rattle.jh_edit.proofs.StepLemmas.{changed_by, filled_deed, reached_own, read_back, written_of}
use Rattle.jh_edit.proofs.mending.fill.Goals as goal

pub write_table-requires-clause-start : goal.write_table-requires-clause-start
write_table-requires-clause-start c =
    let one : suc c.args.node.below ≡ c.args.node.below + 1 = omega arith in
    subst (λ n. IsTableStart n c.args.node.start) one c.requires.node.is.begins

pub write_table-requires-clause-own : goal.write_table-requires-clause-own
write_table-requires-clause-own c =
    let want = want_of (claims_of c.args.t.now) in
    reached_own c.args.f.now c.args.table c.requires.tables (staying want) (Some 0) (suc c.args.node.below) (Some c.args.node.start) c.args.node.page c.requires.node.reached

pub returns : goal.returns
returns c = λ tag p cache.
    let claims = claims_of c.args.t.now in
    let node = c.args.node in
    let w = c.write_table.ensures in
    let changed = changed_by node.page c.args.f.now c.write_table.new.f w.base w.size w.guest w.below w.above in
    let one : node.below + 1 ≡ suc node.below = omega arith in
    let written = written_of Fill (want_of claims) node.below (node.below + 1) node.page node.start c.args.f.now c.write_table.new.f one changed w.words in
    let few = c.requires.node.is.few in
    let begins = subst (λ n. IsTableStart n node.start) (let up : suc node.below ≡ node.below + 1 = omega arith in up) c.requires.node.is.begins in
    let back = read_back claims node.below (node.below + 1) node.start one (omega arith) begins c.what_is_written_is_read.ensures.read
    (λ level start out rights device slot leaf. c.a_wanted_leaf_may_be_written.ensures claims level start out rights device c.requires.sound slot leaf) in
    filled_deed tag (want_of claims) c.args.table node c.args.f.now c.write_table.new.f p cache c.requires.node back changed written
