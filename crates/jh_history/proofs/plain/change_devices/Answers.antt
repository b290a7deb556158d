-- One device more.
use Rattle.std.proofs.Common.{◌<◌, ◌≤◌, List, length, sym, ap, ◌∙◌, arith}
use Rattle.jh_ivshmem.specs.declared.spec.EndpointSpec.{EndpointSpec}
use Rattle.jh_ivshmem.specs.Specs.{IsInItsLimits}
use Rattle.jh_history.specs.Endpoints.{endpoints_changed, with_words, MayJoinThem}
use Rattle.jh_history.specs.Private.PlainView.{last_byte}
use Rattle.jh_history.proofs.DeviceLoopLemmas.{left_all, left_end, endpoints_next, words_next, may_begin, All_next, may_next}
use Rattle.jh_history.proofs.plain.change_devices.Goals as goal

pub loop-number-init : goal.loop-number-init
loop-number-init c = record {
  bytes = λ image q. ap (λ (specs : List EndpointSpec). with_words specs (last_byte image c.args.bytes.now.items) q) (left_all c.args.config.now);
  endpoints = ap (λ (specs : List EndpointSpec). endpoints_changed c.args.change specs c.args.endpoints.now.list) (left_all c.args.config.now);
  may = may_begin c.args.change c.args.endpoints.now.list c.args.config.now c.requires;
}

pub loop-number-preserved : goal.loop-number-preserved
loop-number-preserved c =
    let config = c.args.config.now in
    let i = c.loop-number.number in
    let lt : i < length config.pci_devices = omega arith in
    record {
      bytes = λ image q.
          words_next config i (last_byte image c.loop-number.bytes.items) (last_byte image c.change_device.new.bytes.items) q lt (c.in_ok-change_device.ensures.bytes image)
          ∙ c.loop-number.invariant.bytes image q;
      endpoints =
          endpoints_next c.args.change config i c.loop-number.endpoints.list c.change_device.new.endpoints.list lt c.in_ok-change_device.ensures.endpoints
          ∙ c.loop-number.invariant.endpoints;
      may = may_next c.args.change config i c.loop-number.endpoints.list c.change_device.new.endpoints.list lt c.loop-number.invariant.may c.in_ok-change_device.ensures.endpoints;
    }

pub change_device-requires-clause-within : goal.change_device-requires-clause-within
change_device-requires-clause-within c =
    let lt : c.loop-number.number < length c.args.config.now.pci_devices = omega arith in
    All_next IsInItsLimits c.args.config.now c.loop-number.number lt c.loop-number.invariant.may.within

pub change_device-requires-clause-new : goal.change_device-requires-clause-new
change_device-requires-clause-new c = λ join.
    let lt : c.loop-number.number < length c.args.config.now.pci_devices = omega arith in
    All_next (MayJoinThem c.loop-number.endpoints.list) c.args.config.now c.loop-number.number lt (c.loop-number.invariant.may.new join)

pub returns : goal.returns
returns c =
    let le : length c.args.config.now.pci_devices ≤ c.loop-number.number = omega arith in
    let none = left_end c.args.config.now c.loop-number.number le in
    record {
      bytes = λ image q. ap (λ (specs : List EndpointSpec). with_words specs (last_byte image c.loop-number.bytes.items) q) (sym none) ∙ c.loop-number.invariant.bytes image q;
      endpoints = ap (λ (specs : List EndpointSpec). endpoints_changed c.args.change specs c.loop-number.endpoints.list) (sym none) ∙ c.loop-number.invariant.endpoints;
    }
