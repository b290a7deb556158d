-- One device after another.
use Rattle.std.proofs.Common.{◌≡◌, ◌+◌, ◌<◌, ◌≤◌, length, List, ◌∙◌, sym, ap, subst, arith}
use Rattle.std.specs.Prelude.{All}
use Rattle.std.proofs.lemmas.List.{length-append}
use Rattle.jh_ivshmem.specs.declared.endpoint.Endpoint.{Endpoint}
use Rattle.jh_ivshmem.specs.declared.spec.EndpointSpec.{EndpointSpec}
use Rattle.jh_ivshmem.specs.Specs.{IsInItsLimits}
use Rattle.jh_history.specs.declared.device_change.DeviceChange.{DeviceChange}
use Rattle.jh_history.specs.declared.device_change.DeviceChange.TheVariants.{Join}
use Rattle.jh_history.specs.declared.place.Place.TheVariants.{Physical}
use Rattle.jh_history.specs.Devices.{specs_at}
use Rattle.jh_history.specs.Endpoints.{endpoints_changed, with_words, MayJoinThem, MayChange}
use Rattle.jh_board.specs.Pages.{byte_of, HoldsWordOf}
use Rattle.jh_board.proofs.DevicesLemmas.{specs_before, specs_more, specs_all, specs_count, all_at, may_join_next, changed_more, words_more}
use Rattle.jh_board.proofs.KeptLemmas.{words_kept}
use Rattle.jh_board.proofs.TablesLemmas.{tables_both}
use Rattle.jh_board.proofs.devices.change_devices.Goals as goal

pub change_device-requires-clause-within : goal.change_device-requires-clause-within
change_device-requires-clause-within c =
    let lt : c.loop-number.number < length c.args.config.now.pci_devices = omega arith in all_at IsInItsLimits c.args.config.now c.loop-number.number lt c.requires.may.within

pub change_device-requires-clause-new : goal.change_device-requires-clause-new
change_device-requires-clause-new c = λ joins.
    let config = c.args.config.now in
    let n = c.loop-number.number in
    let lt : n < length config.pci_devices = omega arith in
    let old = c.args.endpoints.now.list in
    let P : List Endpoint → Type 0 = λ list. All (MayJoinThem list) (specs_at config n) in
    let Q : DeviceChange → Type 0 = λ change. MayChange change old config in
    let list : c.loop-number.endpoints.list ≡ endpoints_changed Join (specs_before config n) old = c.loop-number.invariant.list ∙ ap (λ (change : DeviceChange). endpoints_changed change (specs_before config n) old) joins in
    subst P (sym list) (may_join_next config old n (subst Q joins c.requires.may) lt)

pub change_device-requires-clause-room : goal.change_device-requires-clause-room
change_device-requires-clause-room c = λ joins.
    let config = c.args.config.now in
    let n = c.loop-number.number in
    let lt : n < length config.pci_devices = omega arith in
    let count = specs_count config n lt in
    let room = c.requires.room joins in
    let spare = c.loop-number.invariant.spare in omega arith

pub change_device-requires-clause-held : goal.change_device-requires-clause-held
change_device-requires-clause-held c =
    let config = c.args.config.now in
    let n = c.loop-number.number in
    let lt : n < length config.pci_devices = omega arith in
    let old = c.args.memory.now in
    words_kept old c.loop-number.memory (specs_at config n) (λ a. c.loop-number.invariant.held (Physical a)) (all_at (HoldsWordOf old) config n lt c.requires.held)

pub loop-number-preserved : goal.loop-number-preserved
loop-number-preserved c =
    let config = c.args.config.now in
    let change = c.args.change in
    let n = c.loop-number.number in
    let lt : n < length config.pci_devices = omega arith in
    let known = c.loop-number.invariant in
    let before = specs_before config n in
    let here = specs_at config n in
    let more = specs_more config n lt in
    let old = c.args.memory.now in
    let list = c.args.endpoints.now.list in
    let count : length (specs_before config (n + 1)) ≡ length before + length here = ap (λ (specs : List EndpointSpec). length specs) more ∙ length-append before here in
    let left = c.change_device.ensures.spare in
    let spare = known.spare in record {
      bytes = λ q. words_more before here (byte_of old) (byte_of c.loop-number.memory) (byte_of c.change_device.new.memory) known.bytes c.change_device.ensures.bytes q ∙ ap (λ (specs : List EndpointSpec). with_words specs (byte_of old) q) (sym more);
      list = changed_more change before here list c.loop-number.endpoints.list c.change_device.new.endpoints.list known.list c.change_device.ensures.list ∙ ap (λ (specs : List EndpointSpec). endpoints_changed change specs list) (sym more);
      spare = omega arith;
      held = λ q h. c.change_device.ensures.held q (known.held q h);
      tables = tables_both c.args.memory.now c.loop-number.memory c.change_device.new.memory known.tables c.change_device.ensures.tables;
    }

pub returns-clause-bytes : goal.returns-clause-bytes
returns-clause-bytes c = λ q.
    let config = c.args.config.now in
    let all : length config.pci_devices ≤ c.loop-number.number = omega arith in
    c.loop-number.invariant.bytes q ∙ ap (λ (specs : List EndpointSpec). with_words specs (byte_of c.args.memory.now) q) (specs_all config c.loop-number.number all)

pub returns-clause-list : goal.returns-clause-list
returns-clause-list c =
    let config = c.args.config.now in
    let all : length config.pci_devices ≤ c.loop-number.number = omega arith in
    c.loop-number.invariant.list ∙ ap (λ (specs : List EndpointSpec). endpoints_changed c.args.change specs c.args.endpoints.now.list) (specs_all config c.loop-number.number all)
