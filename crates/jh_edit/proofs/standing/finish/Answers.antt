-- After a turn the edit's pages alone are taken again; where none is left, the tables stand.
use Rattle.std.proofs.Common.{◌≡◌, ◌*◌, ◌&&◌, false, nat_eq, inr, ⊎_elim, ap, ◌∙◌, sym, subst, arith, length}
use Rattle.std.proofs.lemmas.Bool.{false≢true}
use Rattle.std.proofs.lemmas.List.{length-map}
use Rattle.jh_cache.specs.Translations.{flushed, translations_of}
use Rattle.jh_shape.specs.Claims.{claims_of}
use Rattle.jh_shape.specs.Shapes.{want_of}
use Rattle.jh_walk.specs.Walks.{levels}
use Rattle.jh_edit.specs.Tables.{is_over, words}
use Rattle.jh_edit.specs.Trees.{Stands, lack_of}
use Rattle.jh_edit.proofs.StandingLemmas.{flushed_none}
use Rattle.jh_edit.proofs.standing.finish.Goals as goal

pub loop-edit-preserved : goal.loop-edit-preserved
loop-edit-preserved c =
    let want = want_of (claims_of c.args.t.now) in
    let alone = c.loop-edit.invariant.0 in
    let turn = c.turn.ensures in
    let over : is_over c.turn.new.self ≡ false = ap (λ b. b && nat_eq c.turn.new.self.left 0) (turn.aim ∙ alone.aim) in
    let table : lack_of want (words c.turn.new.f) levels c.turn.new.self.table 0 ≡ lack_of want (words c.turn.new.f) levels c.loop-edit.edit.table 0 = ap (λ t. lack_of want (words c.turn.new.f) levels t 0) turn.table in
    let room = turn.room alone.aim in
    let enough = alone.enough in
    let before : 4096 * c.loop-edit.p.size ≡ length c.loop-edit.f.own.bytes = alone.pool.size in
    let after : 4096 * c.turn.new.p.size ≡ length c.turn.new.f.own.bytes = turn.pool.size in
    let size : length c.turn.new.f.own.bytes ≡ length c.loop-edit.f.own.bytes = turn.size in (
      record {
        aim = turn.aim ∙ alone.aim;
        plan = turn.plan over;
        tables = turn.tables;
        pool = turn.pool;
        taken = λ page. (
          λ taken. ⊎_elim (λ h. absurd (false≢true (sym h.1 ∙ (alone.taken page).0 h.0))) (λ mine. mine) ((turn.pages page).0 taken),
          λ mine. (turn.pages page).1 (inr mine),
        );
        enough = omega arith;
        empty = λ cpu. ⊎_elim
            (λ gone. ap (λ lists. translations_of lists cpu) gone ∙ flushed_none c.args.tag c.loop-edit.c alone.empty cpu)
            (λ kept. ap (λ lists. translations_of lists cpu) kept.0 ∙ alone.empty cpu)
            turn.cache;
      },
      turn.table ∙ c.loop-edit.invariant.1,
      turn.base ∙ c.loop-edit.invariant.2,
      turn.size ∙ c.loop-edit.invariant.3,
      ⊎_elim (λ gone. ap length gone ∙ length-map c.loop-edit.c (flushed c.args.tag)) (λ kept. ap length kept.0) turn.cache ∙ c.loop-edit.invariant.4,
      turn.guests ∙ c.loop-edit.invariant.5,
    )

pub returns-clause-stands : goal.returns-clause-stands
returns-clause-stands c =
    let want = want_of (claims_of c.args.t.now) in
    let alone = c.loop-edit.invariant.0 in
    let left = c.left.ensures in
    let no = c.loop-edit-test.false in
    let none : c.loop-edit.edit.left ≡ 0 = omega arith in
    subst (λ table. Stands want (words c.loop-edit.f) levels table 0) c.loop-edit.invariant.1
    (c.a_finished_edit_stands.ensures.stands c.loop-edit.edit want (words c.loop-edit.f) (c.claims_want_pages_at_the_end.ensures (claims_of c.args.t.now)) alone.aim alone.plan none)
