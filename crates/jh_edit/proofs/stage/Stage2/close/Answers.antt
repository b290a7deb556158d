-- The seat of the cell that went is filtered out.
use Rattle.std.proofs.Common.{◌≡◌, Some, refl, rules, sym, ap, ◌∙◌, not, nat_eq, arith}
use Rattle.std.specs.Prelude.{filter, vec_capacity}
use Rattle.std.proofs.lemmas.Fn.{filter_same}
use Rattle.std.proofs.lemmas.Option.{same_Some}
use Rattle.jh_edit.specs.declared.stage.Editing.{Editing}
use Rattle.jh_edit.specs.declared.stage.Seat.{Seat}
use Rattle.jh_edit.specs.Planned.{removed_id}
use Rattle.jh_edit.proofs.PlanningLemmas.{one_left}
use Rattle.jh_edit.proofs.stage.Stage2.close.Goals as goal

pub returns-in-Some-removed_id-clause-closed : goal.returns-in-Some-removed_id-clause-closed
returns-in-Some-removed_id-clause-closed c = λ editing was.
    let same : c.in-Some.editing ≡ editing = same_Some c.in-Some.editing editing (sym c.in-Some.is ∙ (c.take.ensures.value ∙ was)) in
    let id : removed_id editing.cell ≡ Some c.in-Some-removed_id.id = ap (λ (e : Editing). removed_id e.cell) (sym same) ∙ (sym c.removed_id.ensures ∙ c.in-Some-removed_id.is) in
    let left : c.retain.new.self.items ≡ filter (λ (seat : Seat). not (nat_eq seat.id c.in-Some-removed_id.id)) c.args.self.now.seats.items = filter_same _ _ _ (λ x b f' k. search rules) _ _ c.retain.ensures.filtered in
    let kept : vec_capacity c.retain.new.self ≡ vec_capacity c.args.self.now.seats = c.retain.ensures.capacity in
    record {
      frames = refl;
      pool = refl;
      cache = refl;
      seats = left ∙ one_left editing.cell c.args.self.now.seats.items c.in-Some-removed_id.id id;
      room = omega arith;
      still = c.take.ensures.after;
    }
