-- What the edit keeps, and what it leaves of seats.
use Rattle.std.proofs.Common.{sym, subst, ◌∙◌}
use Rattle.jh_shape.specs.Claims.{claims_of}
use Rattle.jh_edit.specs.declared.stage.Stage2.{Stage2}
use Rattle.jh_edit.specs.Planned.{MayPlan}
use Rattle.jh_board.specs.Private.Editing.{claims_planned}
use Rattle.jh_board.proofs.EditLemmas.{edit_bytes, edit_come, edit_comms, edit_held, edit_ids}
use Rattle.jh_board.proofs.memory.Memory.edit.Goals as goal

pub invariant_of-self : goal.invariant_of-self
invariant_of-self c =
    let sound = c.self.invariant in
    record {
      start = sound.start ∙ sym c.edit_tables.ensures.cells.base;
      claims = claims_planned (claims_of c.args.root.now) (claims_of c.args.cell.now) c.args.planned sound.claims;
      forest = c.edit_tables.ensures.forest sound.claims sound.forest;
      still = c.edit_tables.ensures.still;
    }

pub returns-clause-bytes : goal.returns-clause-bytes
returns-clause-bytes c = rw (← c.self.view_is) (edit_bytes c.self.inside.stage c.edit_tables.new.stage c.args.planned c.edit_tables.ensures.cells c.edit_tables.ensures.seats)

pub returns-clause-held : goal.returns-clause-held
returns-clause-held c = rw (← c.self.view_is) (edit_held c.self.inside.stage c.edit_tables.new.stage c.args.planned c.edit_tables.ensures.cells c.edit_tables.ensures.seats)

pub returns-clause-forest : goal.returns-clause-forest
returns-clause-forest c = rw (← c.self.view_is) c.edit_tables.ensures.forest

pub returns-clause-ids : goal.returns-clause-ids
returns-clause-ids c = rw (← c.self.view_is) (edit_ids c.self.inside.stage c.edit_tables.new.stage c.args.planned c.edit_tables.ensures.seats)

pub returns-clause-comms : goal.returns-clause-comms
returns-clause-comms c =
    let rootward = claims_of c.args.root.now in
    let coming = claims_of c.args.cell.now in
    let P : Stage2 → Type 0 = λ s. MayPlan rootward coming s c.args.planned in
    let may = subst P (sym c.self.view_is) c.requires.may in
    rw (← c.self.view_is) (λ id. edit_comms rootward coming c.self.inside.stage c.edit_tables.new.stage c.args.planned id may c.edit_tables.ensures.seats)

pub returns-clause-come : goal.returns-clause-come
returns-clause-come c =
    let rootward = claims_of c.args.root.now in
    let coming = claims_of c.args.cell.now in
    let P : Stage2 → Type 0 = λ s. MayPlan rootward coming s c.args.planned in
    let may = subst P (sym c.self.view_is) c.requires.may in
    edit_come rootward coming c.self.inside.stage c.edit_tables.new.stage c.args.planned may c.edit_tables.ensures.seats
