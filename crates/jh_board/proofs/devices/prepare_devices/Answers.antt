-- One device after another.
use Rattle.std.proofs.Common.{◌<◌, ◌≤◌, length, List, ◌∙◌, sym, subst, arith}
use Rattle.std.specs.Prelude.{All}
use Rattle.std.proofs.lemmas.List.Elements.{All-append}
use Rattle.jh_ivshmem.specs.declared.spec.EndpointSpec.{EndpointSpec}
use Rattle.jh_ivshmem.specs.Specs.{IsInItsLimits}
use Rattle.jh_history.specs.Devices.{specs_at}
use Rattle.jh_board.specs.Pages.{HoldsWordOf}
use Rattle.jh_board.proofs.DevicesLemmas.{specs_before, specs_more, specs_all, specs_few, all_at}
use Rattle.jh_history.specs.declared.place.Place.TheVariants.{Physical}
use Rattle.jh_board.specs.Private.Pages.{MayHoldWordOf}
use Rattle.jh_board.proofs.KeptLemmas.{may_words_same, words_kept}
use Rattle.jh_board.proofs.TablesLemmas.{tables_both}
use Rattle.jh_board.proofs.devices.prepare_devices.Goals as goal

pub hold_device-requires-clause-within : goal.hold_device-requires-clause-within
hold_device-requires-clause-within c =
    let lt : c.loop-number.number < length c.args.config.now.pci_devices = omega arith in all_at IsInItsLimits c.args.config.now c.loop-number.number lt c.requires.within

pub hold_device-requires-clause-beside : goal.hold_device-requires-clause-beside
hold_device-requires-clause-beside c =
    let lt : c.loop-number.number < length c.args.config.now.pci_devices = omega arith in
    let old = c.args.memory.now in
    may_words_same old c.loop-number.memory (specs_at c.args.config.now c.loop-number.number) c.loop-number.invariant.tables (all_at (MayHoldWordOf old) c.args.config.now c.loop-number.number lt c.requires.beside)

pub loop-number-preserved : goal.loop-number-preserved
loop-number-preserved c =
    let config = c.args.config.now in
    let n = c.loop-number.number in
    let lt : n < length config.pci_devices = omega arith in
    let mid = c.loop-number.memory in
    let new = c.hold_device.new.memory in
    let P : List EndpointSpec → Type 0 = All (HoldsWordOf new) in
    let known = c.loop-number.invariant in record {
      bytes = λ q. c.hold_device.ensures.bytes q ∙ known.bytes q;
      held = subst P (sym (specs_more config n lt))
          (All-append (HoldsWordOf new) (specs_before config n) (specs_at config n) (words_kept mid new (specs_before config n) (λ a. c.hold_device.ensures.others (Physical a)) known.held) c.in_ok-hold_device.ensures.held);
      others = λ q h. c.hold_device.ensures.others q (known.others q h);
      tables = tables_both c.args.memory.now c.loop-number.memory c.hold_device.new.memory known.tables c.hold_device.ensures.tables;
    }

pub returns-clause-room : goal.returns-clause-room
returns-clause-room c =
    let few = specs_few c.args.config.now in
    let room = c.in_ok-reserve.ensures.ok in omega arith

pub returns-clause-held : goal.returns-clause-held
returns-clause-held c =
    let config = c.args.config.now in
    let P : List EndpointSpec → Type 0 = All (HoldsWordOf c.loop-number.memory) in
    let all : length config.pci_devices ≤ c.loop-number.number = omega arith in
    subst P (specs_all config c.loop-number.number all) c.loop-number.invariant.held
