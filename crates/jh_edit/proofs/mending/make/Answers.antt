-- A page that was free is made for the slot.
use Rattle.std.proofs.Common.{◌≡◌, ◌+◌, ◌-◌, ◌*◌, suc, ap, subst, arith}
use Rattle.jh_shape.specs.Claims.{claims_of}
use Rattle.jh_shape.specs.Shapes.{want_of}
use Rattle.jh_edit.specs.declared.writing.Writing.TheVariants.{Make}
use Rattle.jh_edit.specs.Tables.{words}
use Rattle.jh_edit.specs.Private.Slots.{IsTableStart}
use Rattle.jh_edit.proofs.FindingLemmas.{starts}
use Rattle.jh_edit.proofs.StepLemmas.{changed_by, free_apart, made_deed, read_back, taken_from, written_of}
use Rattle.jh_edit.proofs.mending.make.Goals as goal

pub overflow_mul-start : goal.overflow_mul-start
overflow_mul-start c = let small = (starts c.args.node c.args.slot c.slot_size.result c.requires.gap.is c.requires.gap.within c.slot_size.ensures).product in omega arith

pub overflow_add-start : goal.overflow_add-start
overflow_add-start c = let small = (starts c.args.node c.args.slot c.slot_size.result c.requires.gap.is c.requires.gap.within c.slot_size.ensures).sum in omega arith

pub write_table-requires-clause-start : goal.write_table-requires-clause-start
write_table-requires-clause-start c =
    let start = c.args.node.start + c.args.slot * c.slot_size.result in
    let one : suc c.args.node.below - 1 ≡ c.args.node.below = omega arith in
    subst (λ n. IsTableStart n start) one (starts c.args.node c.args.slot c.slot_size.result c.requires.gap.is c.requires.gap.within c.slot_size.ensures).next

pub returns : goal.returns
returns c = λ tag cache.
    let claims = claims_of c.args.t.now in
    let node = c.args.node in
    let page = c.in_ok-page.page in
    let start = node.start + c.args.slot * c.slot_size.result in
    let w = c.write_table.ensures in
    let k = c.in_ok-page.ensures in
    let some = c.requires.gap.some in
    let few = c.requires.gap.is.few in
    let changed = changed_by page c.args.f.now c.write_table.new.f w.base w.size w.guest w.below w.above in
    let one : node.below ≡ suc (node.below - 1) = omega arith in
    let up : suc node.below - 1 ≡ node.below = omega arith in
    let begins = subst (λ n. IsTableStart n start) up (starts node c.args.slot c.slot_size.result c.requires.gap.is c.requires.gap.within c.slot_size.ensures).next in
    let written = written_of Make (want_of claims) (node.below - 1) node.below page start c.args.f.now c.write_table.new.f one changed w.words in
    let taken = taken_from page c.args.p.now c.take.new.self k.base k.size k.page k.was_free k.taken.taken k.others k.used in
    let back = read_back claims (node.below - 1) node.below start one (omega arith) begins c.what_is_written_is_read.ensures.read
    (λ level from out rights device slot leaf. c.a_wanted_leaf_may_be_written.ensures claims level from out rights device c.requires.sound slot leaf) in
    made_deed tag (want_of claims) c.args.table node c.args.slot page start c.args.f.now c.write_table.new.f c.args.p.now c.take.new.self cache c.requires.gap taken (free_apart (words c.args.f.now) c.args.table page c.args.p.now c.requires.taken k.was_free)
    (ap (λ size. node.start + c.args.slot * size) c.slot_size.ensures) back changed written
