-- The first page that is taken is root's first table, and names no other yet.
use Rattle.std.proofs.Common.{◌≡◌, ◌<◌, arith, refl}
use Rattle.jh_pool.specs.Pages.{used_of}
use Rattle.jh_shape.specs.Claims.{claims_of}
use Rattle.jh_shape.specs.Pages.{tables_of}
use Rattle.jh_shape.specs.Shapes.{want_of}
use Rattle.jh_shape.specs.Wanted.{tables_under}
use Rattle.jh_edit.proofs.BlankLemmas.{begun_alone}
use Rattle.jh_edit.proofs.SumLemmas.{under_some}
use Rattle.jh_edit.proofs.standing.root_table.Goals as goal

pub finish-requires-clause-alone : goal.finish-requires-clause-alone
finish-requires-clause-alone c =
    let want = want_of (claims_of c.args.root.now) in
    let take = c.in-Some.ensures in
    let begun = c.new-edit.ensures in
    let under = c.tables_are_counted_from_the_top.ensures (claims_of c.args.root.now) in
    let enough = c.requires.enough in
    begun_alone want c.new-edit.result c.in-Some.table c.args.f.now c.args.p.now c.take.new.self c.args.c.now c.requires.blank
    (record { table = begun.table; aim = begun.aim; ahead = begun.ahead; plan = begun.plan; taken = take.taken; others = take.others; base = take.base; size = take.size; used = take.used; enough = omega arith })

pub unreachable-requires : goal.unreachable-requires
unreachable-requires c =
    let full : used_of c.args.p.now ≡ c.args.p.now.size = c.in-None.ensures.none.0 refl in
    let none = c.requires.blank.used in
    let under : tables_of (claims_of c.args.root.now) ≡ tables_under (want_of (claims_of c.args.root.now)) 4 0 = c.tables_are_counted_from_the_top.ensures (claims_of c.args.root.now) in
    let some : 0 < tables_under (want_of (claims_of c.args.root.now)) 4 0 = under_some (want_of (claims_of c.args.root.now)) 3 0 in
    let enough = c.requires.enough in
    omega arith
