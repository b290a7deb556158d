-- A removal takes a link away, a page ahead is linked, and else what is found is done.
use Rattle.std.proofs.Common.{◌≡◌, ℕ, ◌+◌, ◌<◌, ◌≤◌, sym, ◌∙◌, ap, subst, arith, refl, true, false, Some, None}
use Rattle.jh_desc.specs.declared.descriptor.Descriptor.TheVariants.{Table}
use Rattle.jh_pool.specs.Pages.{used_of, IsTakenPage}
use Rattle.jh_shape.specs.Claims.{claims_of}
use Rattle.jh_shape.specs.Shapes.{want_of}
use Rattle.jh_walk.specs.Pages.{times}
use Rattle.jh_walk.specs.Walks.{levels}
use Rattle.jh_edit.specs.Trees.{lack_of}
use Rattle.jh_edit.specs.Plans.{EditView, IsDoneBelow, ahead_count}
use Rattle.jh_edit.specs.Turns.{turns_of}
use Rattle.jh_edit.specs.Tables.{AreTables, words}
use Rattle.jh_edit.specs.Moves.{Move}
use Rattle.jh_edit.specs.Private.Steps.{root_of, IsDeed, IsStep}
use Rattle.jh_edit.proofs.DeedLemmas.{ahead_below, ahead_is, ahead_own, first_node, first_place, is_begun, none_of, reach_taken, step_away, step_linked, step_mended}
use Rattle.jh_edit.proofs.edit.Edit.step.Goals as goal

pub take_away-requires-clause-place : goal.take_away-requires-clause-place
take_away-requires-clause-place c =
    first_place c.args.f.now c.self.inside.table (subst (λ (e : EditView). AreTables c.args.f.now e.table) (sym c.self.view_is) c.requires.tables) c.holds.ensures.whole

pub take_away-requires-clause-tables : goal.take_away-requires-clause-tables
take_away-requires-clause-tables c = subst (λ (e : EditView). AreTables c.args.f.now e.table) (sym c.self.view_is) c.requires.tables

pub take_away-requires-clause-taken : goal.take_away-requires-clause-taken
take_away-requires-clause-taken c =
    let P : EditView → Type 0 = λ e. (page : ℕ) → 0 < times (words c.args.f.now) levels e.table page → IsTakenPage c.args.p.now page in
    subst P (sym c.self.view_is) (reach_taken c.args.self.now (words c.args.f.now) c.args.p.now c.requires.left c.requires.taken)

pub returns-then-self : goal.returns-then-self
returns-then-self c =
    let want = want_of (claims_of c.args.t.now) in
    let removing : c.args.self.now.removing ≡ true = ap (λ (e : EditView). e.removing) (sym c.self.view_is) ∙ c.if-self.true in
    let table : c.self.inside.table ≡ c.args.self.now.table = ap (λ (e : EditView). e.table) c.self.view_is in
    let D : ℕ → Type 0 = λ t. (move : Move) × IsDeed c.args.tag want t true None None c.args.f.now c.take_away.new.f c.args.p.now c.take_away.new.p c.args.c.now c.take_away.new.c move in
    step_away c.args.tag want c.args.self.now c.args.f.now c.take_away.new.f c.args.p.now c.take_away.new.p c.args.c.now c.take_away.new.c removing (c.requires.plan.removal removing).ahead (subst D table (c.take_away.ensures want))

pub overflow_add-ahead : goal.overflow_add-ahead
overflow_add-ahead c =
    let some : c.args.self.now.ahead ≡ Some c.in-Some.ahead = ap (λ (e : EditView). e.ahead) (sym c.self.view_is) ∙ c.in-Some.is in
    let below = ahead_below c.args.self.now (words c.args.f.now) c.in-Some.ahead c.args.f.now c.args.p.now c.requires.left some c.requires.taken c.requires.pool in omega arith

pub set_word-requires : goal.set_word-requires
set_word-requires c =
    let want = want_of (claims_of c.args.t.now) in
    let aims : c.args.self.now.removing ≡ false = ap (λ (e : EditView). e.removing) (sym c.self.view_is) ∙ c.if-self.false in
    let some : c.args.self.now.ahead ≡ Some c.in-Some.ahead = ap (λ (e : EditView). e.ahead) (sym c.self.view_is) ∙ c.in-Some.is in
    ahead_own want c.args.f.now c.args.self.now.table c.in-Some.ahead c.requires.tables (ahead_is want (words c.args.f.now) c.args.self.now c.in-Some.ahead c.requires.plan aims some)

pub returns-in-Some : goal.returns-in-Some
returns-in-Some c =
    let want = want_of (claims_of c.args.t.now) in
    let aims : c.args.self.now.removing ≡ false = ap (λ (e : EditView). e.removing) (sym c.self.view_is) ∙ c.if-self.false in
    let some : c.args.self.now.ahead ≡ Some c.in-Some.ahead = ap (λ (e : EditView). e.ahead) (sym c.self.view_is) ∙ c.in-Some.is in
    let put = c.set_word.ensures in
    let P : EditView → Type 0 = λ e. (move : Move) × IsStep c.args.tag want c.args.self.now (record { table = e.table; left = e.left; removing = e.removing; ahead = None; cursor = e.cursor }) c.args.f.now c.set_word.new.self c.args.p.now c.args.p.now c.args.c.now c.args.c.now move in
    subst P (sym c.self.view_is) (step_linked c.args.tag want c.args.self.now c.in-Some.ahead c.args.f.now c.set_word.new.self c.args.p.now c.args.c.now c.requires.tables c.requires.plan aims some
    (ahead_below c.args.self.now (words c.args.f.now) c.in-Some.ahead c.args.f.now c.args.p.now c.requires.left some c.requires.taken c.requires.pool)
    (λ page level up aligned below. c.what_is_written_is_read.ensures.read (Table page) level (omega arith) (up, aligned, below))
    (record {
      base = put.base;
      size = put.size;
      guest = put.guest;
      here = put.at;
      below = put.below;
      above = put.above;
      words_below = put.words_below;
      words_above = put.words_above;
    }))

pub find-requires-clause-sound : goal.find-requires-clause-sound
find-requires-clause-sound c = c.requires.sound (ap (λ (e : EditView). e.removing) (sym c.self.view_is) ∙ c.if-self.false)

pub find-requires-clause-node : goal.find-requires-clause-node
find-requires-clause-node c =
    first_node c.self.inside.table (first_place c.args.f.now c.self.inside.table (subst (λ (e : EditView). AreTables c.args.f.now e.table) (sym c.self.view_is) c.requires.tables) c.holds.ensures.whole)

pub find-requires-clause-done : goal.find-requires-clause-done
find-requires-clause-done c =
    let want = want_of (claims_of c.args.t.now) in
    let aims = ap (λ (e : EditView). e.removing) (sym c.self.view_is) ∙ c.if-self.false in
    let P : EditView → Type 0 = λ e. IsDoneBelow want (words c.args.f.now) e.cursor levels e.table 0 in
    subst P (sym c.self.view_is) (c.requires.plan.target aims).cursor

pub begin_of-self-inside-requires : goal.begin_of-self-inside-requires
begin_of-self-inside-requires c = is_begun (want_of (claims_of c.args.t.now)) (words c.args.f.now) (root_of c.self.inside.table) c.in-Some-find.todo c.in-Some-find.ensures.found.is

pub mend-self-inside-requires-clause-sound : goal.mend-self-inside-requires-clause-sound
mend-self-inside-requires-clause-sound c = c.requires.sound (ap (λ (e : EditView). e.removing) (sym c.self.view_is) ∙ c.if-self.false)

pub mend-self-inside-requires-clause-tables : goal.mend-self-inside-requires-clause-tables
mend-self-inside-requires-clause-tables c = subst (λ (e : EditView). AreTables c.args.f.now e.table) (sym c.self.view_is) c.requires.tables

pub mend-self-inside-requires-clause-end : goal.mend-self-inside-requires-clause-end
mend-self-inside-requires-clause-end c = c.holds.ensures.whole.below

pub mend-self-inside-requires-clause-todo : goal.mend-self-inside-requires-clause-todo
mend-self-inside-requires-clause-todo c = c.in-Some-find.ensures.found.is

pub mend-self-inside-requires-clause-taken : goal.mend-self-inside-requires-clause-taken
mend-self-inside-requires-clause-taken c =
    let P : EditView → Type 0 = λ e. (page : ℕ) → 0 < times (words c.args.f.now) levels e.table page → IsTakenPage c.args.p.now page in
    subst P (sym c.self.view_is) (reach_taken c.args.self.now (words c.args.f.now) c.args.p.now c.requires.left c.requires.taken)

pub mend-self-inside-requires-clause-room : goal.mend-self-inside-requires-clause-room
mend-self-inside-requires-clause-room c =
    let want = want_of (claims_of c.args.t.now) in
    let aims : c.args.self.now.removing ≡ false = ap (λ (e : EditView). e.removing) (sym c.self.view_is) ∙ c.if-self.false in
    let none : c.args.self.now.ahead ≡ None = ap (λ (e : EditView). e.ahead) (sym c.self.view_is) ∙ none_of c.self.inside.ahead c.in_default.not-Some in
    let count : ahead_count c.args.self.now.ahead ≡ 0 = ap ahead_count none in
    let enough = c.requires.enough aims in
    let P : EditView → Type 0 = λ e. lack_of want (words c.args.f.now) levels e.table 0 + used_of c.args.p.now ≤ c.args.p.now.size in
    let here : P c.args.self.now = omega arith in
    subst P (sym c.self.view_is) here

pub returns-in-Some-find : goal.returns-in-Some-find
returns-in-Some-find c =
    let want = want_of (claims_of c.args.t.now) in
    let aims : c.args.self.now.removing ≡ false = ap (λ (e : EditView). e.removing) (sym c.self.view_is) ∙ c.if-self.false in
    let V : EditView = record { table = c.self.inside.table; left = c.self.inside.left; removing = c.self.inside.removing; ahead = c.self.inside.ahead; cursor = c.self.inside.cursor } in
    let P : EditView → Type 0 = λ e. (move : Move) × IsStep c.args.tag want e (record { table = V.table; left = V.left; removing = V.removing; ahead = c.mend-self-inside.result; cursor = c.begin_of-self-inside.result }) c.args.f.now c.mend-self-inside.new.f c.args.p.now c.mend-self-inside.new.p c.args.c.now c.mend-self-inside.new.c move in
    let done = subst (λ cursor. IsDoneBelow want (words c.args.f.now) cursor levels c.self.inside.table 0) (sym c.begin_of-self-inside.ensures) c.in-Some-find.ensures.found.done in
    subst P c.self.view_is (step_mended c.args.tag want V c.mend-self-inside.result c.begin_of-self-inside.result c.args.f.now c.mend-self-inside.new.f c.args.p.now c.mend-self-inside.new.p c.args.c.now c.mend-self-inside.new.c c.if-self.false (none_of c.self.inside.ahead c.in_default.not-Some) done c.mend-self-inside.ensures)

pub returns-in_default-find : goal.returns-in_default-find
returns-in_default-find c =
    let want = want_of (claims_of c.args.t.now) in
    let edit = c.args.self.now in
    let aims : edit.removing ≡ false = ap (λ (e : EditView). e.removing) (sym c.self.view_is) ∙ c.if-self.false in
    let P : EditView → Type 0 = λ e. turns_of want (words c.args.f.now) levels e.table 0 ≡ 0 in
    let none : P edit = subst P c.self.view_is (c.where_nothing_is_left_tables_stand.ensures.left want (words c.args.f.now) levels c.self.inside.table 0 (c.in_default-find.ensures.stands refl)) in
    let turns = (c.requires.plan.target aims).turns in
    let left = c.requires.left in
    absurd (let no : ⊥ = omega arith in no)
