-- The cell is the one whose devices the call changes.
use Rattle.std.proofs.Common.{◌≡◌, ◌∙◌, List, [], Option, Some, None, sym, ap, subst}
use Rattle.std.specs.Prelude.{IfSome}
use Rattle.std.specs.Option.{option_map_or}
use Rattle.jh_cellcfg.specs.declared.config.CellConfig.{CellConfig}
use Rattle.jh_cellcfg.specs.declared.live.Live.{Live}
use Rattle.jh_history.specs.declared.call.OpenCall.{OpenCall}
use Rattle.jh_history.specs.Devices.{specs_of}
use Rattle.jh_history.specs.Endpoints.{changing_by, with_words}
use Rattle.jh_shape.specs.Lives.{configs_of}
use Rattle.jh_board.specs.Pages.{byte_of}
use Rattle.jh_board.specs.Private.Steps.{MayCommitDevices}
use Rattle.jh_board.proofs.steps.make_commit.Goals as goal

pub change_devices-requires-clause-held : goal.change_devices-requires-clause-held
change_devices-requires-clause-held c =
    let held = c.args.held.now in
    let act = c.args.act.now in
    let is : Some c.in-Some.config.now ≡ changing_by held.cells.lives held.call act =
    c.in-Some.ensures held.cells.lives (sym c.list.ensures.value) ∙ ap (λ (k : Option OpenCall). changing_by held.cells.lives k act) c.as_ref-2.ensures.value in
    let P : Option CellConfig → Type 0 = λ o. IfSome o (MayCommitDevices held) in
    (subst P (sym is) c.requires).words

pub returns-in_default-clause-bytes : goal.returns-in_default-clause-bytes
returns-in_default-clause-bytes c = λ f cells call q.
    let act = c.args.act.now in
    let none : None ≡ changing_by f.cells f.call act =
    c.in_default.ensures f.cells (ap (λ (lives : List Live). configs_of lives) cells ∙ sym c.list.ensures.value) ∙ ap (λ (k : Option OpenCall). changing_by f.cells k act) (c.as_ref-2.ensures.value ∙ sym call) in
    ap (λ (o : Option CellConfig). with_words (option_map_or specs_of o []) (byte_of c.args.held.now.memory) q) none
