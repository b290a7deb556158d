-- The bytes of a piece, of memory beside the hypervisor's or of a communication page, are those of its places.
use Rattle.std.proofs.Common.{ℕ, ap, sym, subst, ◌∙◌}
use Rattle.jh_num.specs.Memory.{spelled}
use Rattle.jh_history.specs.declared.place.Place.TheVariants.{Physical, Page}
use Rattle.jh_edit.specs.declared.stage.Stage2.{Stage2}
use Rattle.jh_board.proofs.PieceLemmas.{IsBeside, row_of_memory, fits_in_row}
use Rattle.jh_board.proofs.memory.Memory.value.Goals as goal

pub returns-then-is_beside-clause-value : goal.returns-then-is_beside-clause-value
returns-then-is_beside-clause-value c =
    let memory : Stage2 = c.self.inside.stage in
    let piece = c.in-Some.piece in
    let P : ℕ → Type 0 = IsBeside memory.frames.own piece.at in
    let S : Stage2 → Type 0 = λ s. IsBeside s.frames.own piece.at c.from.result in
    let beside = subst P c.from.ensures (subst S (sym c.self.view_is) (c.is_beside.ensures c.if-is_beside.true)) in
    rw (c.in-Some.ensures.places, ← c.self.view_is) (c.value.ensures.value ∙ ap spelled (sym (row_of_memory memory piece.at piece.count beside)))

pub returns-then-is_beside-clause-fits : goal.returns-then-is_beside-clause-fits
returns-then-is_beside-clause-fits c =
    let piece = c.in-Some.piece in
    fits_in_row c.value.result piece.count (Physical piece.at) c.args.places.now c.in-Some.ensures.places c.value.ensures.fits

pub returns-in-Some-piece_of_page-clause-value : goal.returns-in-Some-piece_of_page-clause-value
returns-in-Some-piece_of_page-clause-value c = rw c.in-Some-piece_of_page.ensures.places c.comm_value.ensures.value

pub returns-in-Some-piece_of_page-clause-fits : goal.returns-in-Some-piece_of_page-clause-fits
returns-in-Some-piece_of_page-clause-fits c =
    let piece = c.in-Some-piece_of_page.piece in
    fits_in_row c.comm_value.result piece.count (Page piece.cell piece.offset) c.args.places.now c.in-Some-piece_of_page.ensures.places c.comm_value.ensures.fits
