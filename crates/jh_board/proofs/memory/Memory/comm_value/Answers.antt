-- The bytes are those of the cell's page, if it has one.
use Rattle.std.proofs.Common.{◌≡◌, Some, None, ap, sym, ◌∙◌}
use Rattle.jh_num.specs.Memory.{spelled}
use Rattle.jh_num.proofs.Public.{zero_fits}
use Rattle.jh_edit.specs.declared.stage.Stage2.{Stage2}
use Rattle.jh_board.specs.Seats.{comm_of}
use Rattle.jh_board.proofs.PieceLemmas.{zeros_spell_nothing}
use Rattle.jh_board.proofs.RowLemmas.{row_of_comm, row_of_none}
use Rattle.jh_board.proofs.memory.Memory.comm_value.Goals as goal

pub returns-in-Some-clause-value : goal.returns-in-Some-clause-value
returns-in-Some-clause-value c =
    let memory : Stage2 = c.self.inside.stage in
    let piece = c.args.piece in
    let own : comm_of memory piece.cell ≡ Some c.in-Some.page = ap (comm_of memory) (sym c.from.ensures) ∙ ap (λ (s : Stage2). comm_of s c.from.result) c.self.view_is ∙ sym c.comm.ensures.page ∙ c.in-Some.is in
    rw (← c.self.view_is) (c.value.ensures.value ∙ ap spelled (sym (row_of_comm memory piece.cell c.in-Some.page piece.offset piece.count own c.requires.within)))

pub returns-in-None-clause-value : goal.returns-in-None-clause-value
returns-in-None-clause-value c =
    let memory : Stage2 = c.self.inside.stage in
    let piece = c.args.piece in
    let none : comm_of memory piece.cell ≡ None = ap (comm_of memory) (sym c.from.ensures) ∙ ap (λ (s : Stage2). comm_of s c.from.result) c.self.view_is ∙ sym c.comm.ensures.page ∙ c.in-None.is in
    rw (← c.self.view_is) (sym (ap spelled (row_of_none memory piece.cell piece.offset piece.count none) ∙ zeros_spell_nothing piece.offset piece.count))

pub returns-in-None-clause-fits : goal.returns-in-None-clause-fits
returns-in-None-clause-fits c = zero_fits c.args.piece.count
