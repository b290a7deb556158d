-- Room, the regions of the cell that comes, and pages that are held change nothing that the facts tell.
use Rattle.std.proofs.Common.{Some, ap, refl}
use Rattle.jh_history.specs.declared.place.Place.TheVariants.{Physical}
use Rattle.jh_board.specs.declared.held.Held.{Held}
use Rattle.jh_board.proofs.KeptLemmas.{Means_kept}
use Rattle.jh_board.proofs.TablesLemmas.{tables_same}
use Rattle.jh_board.proofs.steps.make_ready.Goals as goal

pub returns-in_err-regions-clause-means : goal.returns-in_err-regions-clause-means
returns-in_err-regions-clause-means c = λ i f free means.
    let old = c.args.held.now in
    let new : Held = record { memory = old.memory; cpus = old.cpus; cells = c.prepare.new.self; programs = old.programs; endpoints = old.endpoints; call = old.call; coming_regions = old.coming_regions; alloc = old.alloc; form = old.form } in
    Means_kept c.a_write_outside_tables_keeps_the_forest.ensures.forest i old new f refl (λ q. refl) (λ a h. h) (tables_same old.memory) refl c.prepare.ensures.system c.prepare.ensures.lives refl refl refl (free new) means

pub returns-in_err-prepare_devices-clause-means : goal.returns-in_err-prepare_devices-clause-means
returns-in_err-prepare_devices-clause-means c = λ i f free means.
    let old = c.args.held.now in
    let new : Held = record { memory = c.prepare_devices.new.memory; cpus = old.cpus; cells = c.prepare.new.self; programs = old.programs; endpoints = c.prepare_devices.new.endpoints; call = old.call; coming_regions = old.coming_regions; alloc = old.alloc; form = old.form } in
    Means_kept c.a_write_outside_tables_keeps_the_forest.ensures.forest i old new f refl c.prepare_devices.ensures.bytes (λ a h. c.prepare_devices.ensures.others (Physical a) h) c.prepare_devices.ensures.tables refl c.prepare.ensures.system c.prepare.ensures.lives refl
    c.prepare_devices.ensures.list refl (free new) means

pub returns-clause-ready : goal.returns-clause-ready
returns-clause-ready c = record {
  regions = ap Some c.in_ok-regions.ensures.regions;
  spare_cells = c.in_ok-regions.ensures.spare_cells;
  spare_regions = c.in_ok-regions.ensures.spare_regions;
  endpoints = c.in_ok-prepare_devices.ensures.room;
  words = c.in_ok-prepare_devices.ensures.held;
}

pub returns-clause-means : goal.returns-clause-means
returns-clause-means c = λ i f free means.
    let old = c.args.held.now in
    let new : Held = record { memory = c.prepare_devices.new.memory; cpus = old.cpus; cells = c.prepare.new.self; programs = old.programs; endpoints = c.prepare_devices.new.endpoints; call = old.call; coming_regions = Some c.in_ok-regions.regions; alloc = old.alloc; form = old.form } in
    Means_kept c.a_write_outside_tables_keeps_the_forest.ensures.forest i old new f refl c.prepare_devices.ensures.bytes (λ a h. c.prepare_devices.ensures.others (Physical a) h) c.prepare_devices.ensures.tables refl c.prepare.ensures.system c.prepare.ensures.lives refl
    c.prepare_devices.ensures.list refl (free new) means
