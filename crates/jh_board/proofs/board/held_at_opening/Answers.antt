-- What is held at opening stands for no entry.
use Rattle.std.proofs.Common.{◌≡◌, ℕ, [], refl, ap, ◌∙◌}
use Rattle.jh_history.specs.declared.device_change.DeviceChange.TheVariants.{Join}
use Rattle.jh_history.specs.declared.place.Place.{Place}
use Rattle.jh_history.specs.Bytes.{loaded_byte}
use Rattle.jh_history.specs.Devices.{specs_of}
use Rattle.jh_history.specs.Endpoints.{endpoints_changed, with_words}
use Rattle.jh_history.proofs.Public.{same_function}
use Rattle.jh_num.proofs.Public.{Contains_head}
use Rattle.jh_shape.specs.Lives.{configs_of}
use Rattle.jh_history.specs.declared.place.Place.TheVariants.{Physical}
use Rattle.jh_history.specs.Facts.{Facts}
use Rattle.jh_history.specs.History.{start}
use Rattle.jh_board.specs.Pages.{byte_of}
use Rattle.jh_board.specs.Pages.{KeepsTables}
use Rattle.jh_board.proofs.TablesLemmas.{stage_kept, tables_both}
use Rattle.jh_board.proofs.WrittenLemmas.{may_hold_words}
use Rattle.jh_board.proofs.KeptLemmas.{words_kept}
use Rattle.jh_board.proofs.MeansLemmas.{Means_opened}
use Rattle.jh_board.proofs.board.held_at_opening.Goals as goal

pub prepare_devices-requires-clause-beside : goal.prepare_devices-requires-clause-beside
prepare_devices-requires-clause-beside c =
    let image = c.args.image.now in
    let opened : Facts = start image c.args.form in
    let sound = c.legal_journals_are_sound.ensures.start image c.args.form c.requires in
    may_hold_words image c.in_ok-memory.memory opened.cells (specs_of image.system.root) c.in_ok-memory.ensures.stage.inside (λ spec k there lt.
    c.endpoint_words_are_of_the_board.ensures.live image opened image.system.root spec k sound (Contains_head image.system.root (configs_of opened.cells)) there lt)

pub returns : goal.returns
returns c =
    let image = c.args.image.now in
    let specs = specs_of image.system.root in
    let ready = c.prepare_devices.new.memory in
    let joined = c.change_devices.new.memory in
    let tables : KeepsTables c.in_ok-memory.memory joined = tables_both _ _ _ c.prepare_devices.ensures.tables c.change_devices.ensures.tables in
    let before : byte_of ready ≡ loaded_byte image = same_function (byte_of ready) (loaded_byte image) (λ q. c.prepare_devices.ensures.bytes q ∙ c.in_ok-memory.ensures.bytes q) in
    Means_opened image c.args.form _ c.new-2.result refl (λ q. c.change_devices.ensures.bytes q ∙ ap (λ (byte : Place → ℕ). with_words specs byte q) before) refl (λ i. c.new-2.ensures) c.in_ok-cells.ensures.system c.in_ok-cells.ensures.alone c.opening_programs.ensures
    (c.change_devices.ensures.list ∙ ap (endpoints_changed Join specs) (c.prepare_devices.ensures.list ∙ c.new-endpoints.ensures))
    (words_kept ready joined specs (λ a. c.change_devices.ensures.held (Physical a)) c.in_ok-prepare_devices.ensures.held) refl
    (stage_kept c.a_write_outside_tables_keeps_the_forest.ensures.forest image [] c.in_ok-memory.memory joined tables c.in_ok-memory.ensures.stage)
