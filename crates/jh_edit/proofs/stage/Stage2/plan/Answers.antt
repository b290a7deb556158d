-- Root's tables are those of its seat, and the pool has the pages that lack.
use Rattle.std.proofs.Common.{◌≡◌, arith, sym, ap, ◌∙◌}
use Rattle.std.proofs.lemmas.Option.{none-some, same_Some}
use Rattle.jh_shape.specs.Claims.{claims_of}
use Rattle.jh_edit.specs.declared.stage.Tree.{Tree}
use Rattle.jh_edit.specs.Planned.{pages_planned}
use Rattle.jh_edit.specs.Seats.{root_tree}
use Rattle.jh_edit.proofs.PlanningLemmas.{not_built, planned_enough, root_is, root_place}
use Rattle.jh_edit.proofs.stage.Stage2.plan.Goals as goal

pub new-rooted-requires-clause-aligned : goal.new-rooted-requires-clause-aligned
new-rooted-requires-clause-aligned c =
    let rootward = claims_of c.args.root.now in
    let coming = c.requires.may.0 in
    let may = c.requires.may.1 in
    let same : may.root.tree ≡ c.in-Some.tree =
    same_Some may.root.tree c.in-Some.tree (sym (root_is rootward coming c.args.self.now c.args.cell may) ∙ (ap root_tree (sym c.as_slice.ensures.value) ∙ (sym c.root_tree.ensures ∙ c.in-Some.is))) in
    (root_place rootward coming c.args.self.now c.args.cell may c.holds.ensures.whole c.in-Some.tree same).aligned

pub new-rooted-requires-clause-place : goal.new-rooted-requires-clause-place
new-rooted-requires-clause-place c =
    let rootward = claims_of c.args.root.now in
    let coming = c.requires.may.0 in
    let may = c.requires.may.1 in
    let same : may.root.tree ≡ c.in-Some.tree =
    same_Some may.root.tree c.in-Some.tree (sym (root_is rootward coming c.args.self.now c.args.cell may) ∙ (ap root_tree (sym c.as_slice.ensures.value) ∙ (sym c.root_tree.ensures ∙ c.in-Some.is))) in
    (root_place rootward coming c.args.self.now c.args.cell may c.holds.ensures.whole c.in-Some.tree same).below

pub unreachable-requires : goal.unreachable-requires
unreachable-requires c =
    let may = c.requires.may.1 in
    none-some may.root.tree (sym c.in-None.is ∙ (c.root_tree.ensures ∙ (ap root_tree c.as_slice.ensures.value ∙ root_is (claims_of c.args.root.now) c.requires.may.0 c.args.self.now c.args.cell may)))

pub returns-clause-edit : goal.returns-clause-edit
returns-clause-edit c = λ coming may.
    let rootward = claims_of c.args.root.now in
    let e = c.new-rooted.ensures in
    let same : may.root.tree ≡ c.in-Some.tree =
    same_Some may.root.tree c.in-Some.tree (sym (root_is rootward coming c.args.self.now c.args.cell may) ∙ (ap root_tree (sym c.as_slice.ensures.value) ∙ (sym c.root_tree.ensures ∙ c.in-Some.is))) in
    let table : c.new-rooted.result.table ≡ may.root.tree.table = e.table ∙ sym (ap (λ (t : Tree). t.table) same) in
    record {
      lack = pages_planned coming c.args.cell;
      root = record {
        seat = may.root.seat;
        root = may.root.root;
        of = record { tree = may.root.tree; sits = may.root.sits; has = may.root.has; table = table };
        aim = e.aim;
        plan = e.plan;
        sound = may.sound;
        kept = may.kept;
      };
      cell = c.planned_part.ensures.part rootward coming may;
      enough = planned_enough rootward coming c.args.self.now c.args.cell may c.new-rooted.result (sym table);
    }

pub returns-clause-just : goal.returns-clause-just
returns-clause-just c = record {
  bare = c.new-rooted.ensures.ahead;
  unmade = not_built c.args.cell c.planned_part.result c.planned_part.ensures.kind;
  going = λ id is. let some = c.planned_part.ensures.going id is in omega arith;
}
