-- Root's programs were found once, and another cell's is sought.
use Rattle.std.proofs.Common.{◌≡◌, ◌∙◌, ℕ, List, Some, None, length, ap, sym, subst}
use Rattle.std.specs.Prelude.{find, slice_get, option_copied}
use Rattle.jh_cellcfg.specs.Cells.{name_of}
use Rattle.jh_script.specs.declared.image.Program.{Program}
use Rattle.jh_history.specs.Lives.{is_program_of, live_in}
use Rattle.jh_board.proofs.IndexLemmas.{root_found, cell_found, none_found}
use Rattle.jh_board.proofs.indexed.IndexedImage.find_program.Goals as goal

pub returns-then-id-self : goal.returns-then-id-self
returns-then-id-self c =
    rw (← c.self.view_is, c.from.ensures) (root_found c.self.inside.image c.args.cells.now.lives c.self.inside.programs c.args.id c.args.cpu c.self.invariant.programs c.requires c.if-id-self.true)

pub returns-in-Some : goal.returns-in-Some
returns-in-Some c =
    let lives = c.args.cells.now.lives in
    let cell = c.in-Some.cell.now in
    let is : live_in lives c.args.id ≡ Some cell = ap (live_in lives) (sym c.from-2.ensures) ∙ sym c.live.ensures ∙ ap option_copied c.in-Some.is in
    let P : List ℕ → Type 0 = λ name. find (is_program_of name c.args.cpu) c.as_slice-programs.result.now ≡ slice_get c.as_slice-programs.result.now c.index_of_program.result in
    let Q : List Program → Type 0 = λ programs. find (is_program_of (name_of cell) c.args.cpu) programs ≡ slice_get programs c.index_of_program.result in
    rw (← c.self.view_is)
    (cell_found c.self.inside.image lives c.args.id c.args.cpu c.index_of_program.result cell c.if-id-self.false is
    (subst Q c.as_slice-programs.ensures.value (subst P c.name.ensures c.index_of_program.ensures)))

pub returns-in-None : goal.returns-in-None
returns-in-None c =
    let lives = c.args.cells.now.lives in
    let is : live_in lives c.args.id ≡ None = ap (live_in lives) (sym c.from-2.ensures) ∙ sym c.live.ensures ∙ ap option_copied c.in-None.is in
    rw (← c.self.view_is)
    (none_found c.self.inside.image lives c.args.id c.args.cpu (length c.as_slice-programs.result.now) c.if-id-self.false is
    (ap (λ (programs : List Program). length programs) c.as_slice-programs.ensures.value))
