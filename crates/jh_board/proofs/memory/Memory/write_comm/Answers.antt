-- One byte of the cell's page.
use Rattle.std.proofs.Common.{◌≡◌, ◌<◌, Some, sym, refl, subst, ap, ◌∙◌, arith}
use Rattle.jh_history.specs.declared.place.Place.TheVariants.{Page}
use Rattle.jh_edit.specs.declared.stage.Stage2.{Stage2}
use Rattle.jh_edit.specs.Forest.{with_frames}
use Rattle.jh_board.specs.Pages.{HoldsPlace}
use Rattle.jh_board.specs.Seats.{comm_of}
use Rattle.jh_board.proofs.PlaceLemmas.{comm_put}
use Rattle.jh_board.proofs.SoundLemmas.{page_aligned, page_apart, page_inside, sound_kept}
use Rattle.jh_board.proofs.TablesLemmas.{tables_put, writes_comm}
use Rattle.jh_board.proofs.memory.Memory.write_comm.Goals as goal

pub invariant_of-self : goal.invariant_of-self
invariant_of-self c =
    let old : Stage2 = c.self.inside.stage in
    let base = c.self.inside.base in
    let P : Stage2 → Type 0 = λ m. HoldsPlace m (Page c.args.cell c.args.offset) in
    let may = subst P (sym c.self.view_is) c.requires in
    let own : comm_of old c.args.cell ≡ Some c.in-Some.page = ap (comm_of old) (sym c.from.ensures) ∙ ap (λ (s : Stage2). comm_of s c.from.result) c.self.view_is ∙ sym c.comm.ensures.page ∙ c.in-Some.is in
    let lt : c.args.offset < 4096 = may.1 in
    sound_kept c.a_write_outside_tables_keeps_the_forest.ensures.forest base old (with_frames old c.set.new.self)
    (tables_put old c.set.new.self (writes_comm old c.set.new.self c.args.cell c.in-Some.page c.self.invariant.still own (page_aligned base old c.self.invariant c.args.cell c.in-Some.page own) c.set.ensures.base c.set.ensures.size
    (λ q other. c.set.ensures.others q (λ e. other (omega arith) (omega arith))))) c.self.invariant

pub returns-clause-bytes : goal.returns-clause-bytes
returns-clause-bytes c =
    let old : Stage2 = c.self.inside.stage in
    let base = c.self.inside.base in
    let new : Stage2 = with_frames old c.set.new.self in
    let P : Stage2 → Type 0 = λ m. HoldsPlace m (Page c.args.cell c.args.offset) in
    let may = subst P (sym c.self.view_is) c.requires in
    let own : comm_of old c.args.cell ≡ Some c.in-Some.page = ap (comm_of old) (sym c.from.ensures) ∙ ap (λ (s : Stage2). comm_of s c.from.result) c.self.view_is ∙ sym c.comm.ensures.page ∙ c.in-Some.is in
    rw (← c.self.view_is)
    (comm_put old new c.args.cell c.in-Some.page c.args.offset c.args.byte (record { base = c.set.ensures.base; size = c.set.ensures.size; seats = refl }) own (page_inside base old c.self.invariant c.args.cell c.in-Some.page own) may.1
    (λ id other differ there. page_apart base old c.self.invariant c.args.cell id c.in-Some.page other differ own there) c.set.ensures.at c.set.ensures.others)

pub returns-clause-tables : goal.returns-clause-tables
returns-clause-tables c =
    let old : Stage2 = c.self.inside.stage in
    let base = c.self.inside.base in
    let P : Stage2 → Type 0 = λ m. HoldsPlace m (Page c.args.cell c.args.offset) in
    let may = subst P (sym c.self.view_is) c.requires in
    let own : comm_of old c.args.cell ≡ Some c.in-Some.page = ap (comm_of old) (sym c.from.ensures) ∙ ap (λ (s : Stage2). comm_of s c.from.result) c.self.view_is ∙ sym c.comm.ensures.page ∙ c.in-Some.is in
    let lt : c.args.offset < 4096 = may.1 in
    rw (← c.self.view_is) (tables_put old c.set.new.self (writes_comm old c.set.new.self c.args.cell c.in-Some.page c.self.invariant.still own (page_aligned base old c.self.invariant c.args.cell c.in-Some.page own) c.set.ensures.base c.set.ensures.size
    (λ q other. c.set.ensures.others q (λ e. other (omega arith) (omega arith)))))
