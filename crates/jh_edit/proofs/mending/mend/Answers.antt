-- What is to be done is done, by its kind.
use Rattle.std.proofs.Common.{suc, Some, subst, arith}
use Rattle.jh_shape.specs.Claims.{claims_of}
use Rattle.jh_shape.specs.Shapes.{want_of}
use Rattle.jh_walk.specs.Walks.{levels}
use Rattle.jh_edit.specs.Trees.{staying}
use Rattle.jh_edit.specs.Tables.{words}
use Rattle.jh_edit.specs.Private.Finding.{IsTodo}
use Rattle.jh_edit.specs.Private.Steps.{gap_of, root_of}
use Rattle.jh_edit.proofs.MoveSlotLemmas.{slot_lacks}
use Rattle.jh_edit.proofs.StepLemmas.{empty_slot, pruned_deed, reached_next, reached_own}
use Rattle.jh_edit.proofs.mending.mend.Goals as goal

pub prune-requires-clause-own : goal.prune-requires-clause-own
prune-requires-clause-own c =
    let want = want_of (claims_of c.args.t.now) in
    let link = c.in-Prune.link in
    let is = subst (IsTodo want (words c.args.f.now) (root_of c.args.table)) c.in-Prune.is c.requires.todo in
    reached_own c.args.f.now c.args.table c.requires.tables (staying want) (Some 0) (suc link.below) is.there link.parent is.reached

pub prune-requires-clause-link : goal.prune-requires-clause-link
prune-requires-clause-link c =
    let is = subst (IsTodo (want_of (claims_of c.args.t.now)) (words c.args.f.now) (root_of c.args.table)) c.in-Prune.is c.requires.todo in is.is

pub prune-requires-clause-last : goal.prune-requires-clause-last
prune-requires-clause-last c =
    let is = subst (IsTodo (want_of (claims_of c.args.t.now)) (words c.args.f.now) (root_of c.args.table)) c.in-Prune.is c.requires.todo in is.last

pub prune-requires-clause-taken : goal.prune-requires-clause-taken
prune-requires-clause-taken c =
    let want = want_of (claims_of c.args.t.now) in
    let link = c.in-Prune.link in
    let is = subst (IsTodo want (words c.args.f.now) (root_of c.args.table)) c.in-Prune.is c.requires.todo in
    c.requires.taken link.page (reached_next (staying want) (words c.args.f.now) levels (Some 0) c.args.table link.below is.there link.parent link.slot link.page is.reached is.is.names is.is.some)

pub empty-requires-clause-node : goal.empty-requires-clause-node
empty-requires-clause-node c = subst (IsTodo (want_of (claims_of c.args.t.now)) (words c.args.f.now) (root_of c.args.table)) c.in-Empty.is c.requires.todo

pub fill-requires-clause-node : goal.fill-requires-clause-node
fill-requires-clause-node c = subst (IsTodo (want_of (claims_of c.args.t.now)) (words c.args.f.now) (root_of c.args.table)) c.in-Fill.is c.requires.todo

pub make-requires-clause-gap : goal.make-requires-clause-gap
make-requires-clause-gap c = subst (IsTodo (want_of (claims_of c.args.t.now)) (words c.args.f.now) (root_of c.args.table)) c.in-Make.is c.requires.todo

pub make-requires-clause-room : goal.make-requires-clause-room
make-requires-clause-room c =
    let want = want_of (claims_of c.args.t.now) in
    let word = words c.args.f.now in
    let is = subst (IsTodo want word (root_of c.args.table)) c.in-Make.is c.requires.todo in
    let lacks = slot_lacks want word c.args.table (gap_of c.in-Make.node c.in-Make.slot) (empty_slot want word c.args.table c.in-Make.node c.in-Make.slot is) in
    let room = c.requires.room in omega arith

pub returns-in-Prune : goal.returns-in-Prune
returns-in-Prune c =
    let want = want_of (claims_of c.args.t.now) in
    let is = subst (IsTodo want (words c.args.f.now) (root_of c.args.table)) c.in-Prune.is c.requires.todo in
    pruned_deed c.args.tag want c.args.table c.in-Prune.link c.args.f.now c.prune.new.f c.args.p.now c.prune.new.p c.args.c.now c.prune.new.c is c.prune.ensures.cleared c.prune.ensures.memory c.prune.ensures.pool c.prune.ensures.cache

pub returns-in-Empty : goal.returns-in-Empty
returns-in-Empty c = c.empty.ensures c.args.p.now

pub returns-in-Fill : goal.returns-in-Fill
returns-in-Fill c = c.fill.ensures c.args.tag c.args.p.now c.args.c.now

pub returns-in-Make : goal.returns-in-Make
returns-in-Make c = c.make.ensures c.args.tag c.args.c.now
