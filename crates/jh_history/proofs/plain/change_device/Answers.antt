-- An ivshmem device, or another.
use Rattle.std.proofs.Common.{List, sym, ap, ◌∙◌}
use Rattle.jh_ivshmem.specs.declared.spec.EndpointSpec.{EndpointSpec}
use Rattle.jh_ivshmem.specs.declared.spec.EndpointWord.{EndpointWord}
use Rattle.jh_ivshmem.specs.Specs.{IsInItsLimits}
use Rattle.jh_history.specs.Access.{with_endpoint_word}
use Rattle.jh_history.specs.Devices.{specs_at}
use Rattle.jh_history.specs.Endpoints.{endpoints_changed, with_words, MayJoinThem}
use Rattle.jh_history.specs.Private.PlainView.{last_byte}
use Rattle.jh_history.proofs.DeviceLoopLemmas.{at_some, at_none, first, word_ends}
use Rattle.jh_history.proofs.plain.change_device.Goals as goal

pub apply-requires-clause-new : goal.apply-requires-clause-new
apply-requires-clause-new c = λ join.
    let one = at_some c.args.config.now c.as_slice.result.now c.args.number _ c.endpoint_of.result c.in-Some.spec c.as_slice.ensures.value c.requires.number c.endpoint_of.ensures c.in-Some.is in
    first (MayJoinThem c.args.endpoints.now.list) (specs_at c.args.config.now c.args.number) c.in-Some.spec one (c.requires.new join)

pub write_endpoint_word-requires : goal.write_endpoint_word-requires
write_endpoint_word-requires c =
    let one = at_some c.args.config.now c.as_slice.result.now c.args.number _ c.endpoint_of.result c.in-Some.spec c.as_slice.ensures.value c.requires.number c.endpoint_of.ensures c.in-Some.is in
    word_ends c.in-Some.spec c.in_ok-word-in-Some.word (first IsInItsLimits (specs_at c.args.config.now c.args.number) c.in-Some.spec one c.requires.within) c.in_ok-word-in-Some.ensures.word

pub returns-in_ok-write_endpoint_word-in-Some-clause-bytes : goal.returns-in_ok-write_endpoint_word-in-Some-clause-bytes
returns-in_ok-write_endpoint_word-in-Some-clause-bytes c = λ image q.
    let one = at_some c.args.config.now c.as_slice.result.now c.args.number _ c.endpoint_of.result c.in-Some.spec c.as_slice.ensures.value c.requires.number c.endpoint_of.ensures c.in-Some.is in
    c.in_ok-write_endpoint_word-in-Some.ensures image q
    ∙ ap (λ (s : EndpointWord). with_endpoint_word s (last_byte image c.args.bytes.now.items) q) c.in_ok-word-in-Some.ensures.word
    ∙ ap (λ (specs : List EndpointSpec). with_words specs (last_byte image c.args.bytes.now.items) q) (sym one)

pub returns-in_ok-write_endpoint_word-in-Some-clause-endpoints : goal.returns-in_ok-write_endpoint_word-in-Some-clause-endpoints
returns-in_ok-write_endpoint_word-in-Some-clause-endpoints c =
    let one = at_some c.args.config.now c.as_slice.result.now c.args.number _ c.endpoint_of.result c.in-Some.spec c.as_slice.ensures.value c.requires.number c.endpoint_of.ensures c.in-Some.is in
    c.in_ok-word-in-Some.ensures.ok ∙ ap (λ (specs : List EndpointSpec). endpoints_changed c.args.change specs c.args.endpoints.now.list) (sym one)

pub returns-in-None-clause-bytes : goal.returns-in-None-clause-bytes
returns-in-None-clause-bytes c = λ image q.
    let none = at_none c.args.config.now c.as_slice.result.now c.args.number _ c.endpoint_of.result c.as_slice.ensures.value c.requires.number c.endpoint_of.ensures c.in-None.is in
    ap (λ (specs : List EndpointSpec). with_words specs (last_byte image c.args.bytes.now.items) q) (sym none)

pub returns-in-None-clause-endpoints : goal.returns-in-None-clause-endpoints
returns-in-None-clause-endpoints c =
    let none = at_none c.args.config.now c.as_slice.result.now c.args.number _ c.endpoint_of.result c.as_slice.ensures.value c.requires.number c.endpoint_of.ensures c.in-None.is in
    ap (λ (specs : List EndpointSpec). endpoints_changed c.args.change specs c.args.endpoints.now.list) (sym none)
