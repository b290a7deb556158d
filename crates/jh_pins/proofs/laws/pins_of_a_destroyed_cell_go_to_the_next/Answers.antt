-- The destroyed cell is dropped from the table.
use Rattle.std.proofs.Common.{◌∷◌, ap, ◌∙◌}
use Rattle.jh_history.specs.History.{facts}
use Rattle.jh_shape.specs.Lives.{configs_of}
use Rattle.jh_pins.specs.TableView.{TableView}
use Rattle.jh_pins.specs.Holders.{holder}
use Rattle.jh_pins.specs.After.{table_before}
use Rattle.jh_pins.proofs.LawLemmas.{next_holds, others_stay}
use Rattle.jh_pins.proofs.EditLemmas.{dropped, own_ids}
use Rattle.jh_pins.proofs.laws.pins_of_a_destroyed_cell_go_to_the_next.Goals as goal

pub returns-clause-next : goal.returns-clause-next
returns-clause-next c = λ m before behind own pin call act split held.
    let differ = c.the_check_holds_of_live_cells.ensures.differ (record { image = m.image; form = m.form; entries = m.before; admitted = m.admitted; legal = c.beginnings_are_legal.ensures m.image m.form m.before (m.entry ∷ m.rest) m.legal }) in
    let ids = own_ids m.image.system.root (configs_of (facts m.image m.form m.before).cells) differ in
    ap (λ (t : TableView). holder t pin) (dropped m.image m.form m.before m.entry own.id (c.cells_live_from_commit_to_commit.ensures.destroy m own.id call act))
    ∙ next_holds (table_before m) before behind own pin ids split held

pub returns-clause-others : goal.returns-clause-others
returns-clause-others c = λ m id other pin call act held ne.
    ap (λ (t : TableView). holder t pin) (dropped m.image m.form m.before m.entry id (c.cells_live_from_commit_to_commit.ensures.destroy m id call act))
    ∙ others_stay (table_before m) id other pin held ne
