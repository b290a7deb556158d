-- A write that reaches a device.
use Rattle.std.proofs.Common.{◌+◌, ◌^◌, ◌<◌, ℕ, Option, sym, ap, subst, ◌∙◌}
use Rattle.std.specs.Prelude.{IfSome}
use Rattle.jh_ivshmem.specs.declared.spec.EndpointWord.{EndpointWord}
use Rattle.jh_history.specs.declared.place.Place.{Place}
use Rattle.jh_history.specs.Access.{with_endpoint_word_if, endpoint_word_of_reach}
use Rattle.jh_history.specs.Devices.{Devices}
use Rattle.jh_history.specs.Endpoints.{endpoints_put}
use Rattle.jh_history.specs.Grants.{devices_of}
use Rattle.jh_history.specs.Private.PlainView.{PlainView, last_byte}
use Rattle.jh_history.proofs.FactsLemmas.{same_function}
use Rattle.jh_history.proofs.KeptLemmas.{devices_kept}
use Rattle.jh_history.proofs.plain.Plain.write_device.Goals as goal

pub write_endpoint_word_if-requires : goal.write_endpoint_word_if-requires
write_endpoint_word_if-requires c =
    let p = c.args.self.now in
    let devices = devices_kept p.image c.self.inside.image.now p.cells c.self.inside.cells p.endpoints c.self.inside.endpoints.list c.args.cell c.list_in-list.result.now
    (ap (λ (v : PlainView). v.image) c.self.view_is) (ap (λ (v : PlainView). v.cells) c.self.view_is) (ap (λ (v : PlainView). v.endpoints) c.self.view_is)
    (c.list_in-list.ensures c.self.inside.cells (sym c.configs.ensures)) in
    subst (λ (o : Option EndpointWord). IfSome o (λ (s : EndpointWord). s.place + 4 < 2 ^ 64))
    (sym (c.write_device-word.ensures.word ∙ ap (λ (d : Devices). endpoint_word_of_reach d c.args.reach.now c.args.value) devices))
    (c.requires c.args.cell c.args.value c.args.reach.now)

pub returns-clause-bytes : goal.returns-clause-bytes
returns-clause-bytes c = λ i f h q.
    let devices = devices_kept i c.self.inside.image.now f.cells c.self.inside.cells f.endpoints c.self.inside.endpoints.list c.args.cell c.list_in-list.result.now
    (ap (λ (v : PlainView). v.image) c.self.view_is ∙ sym h.same) (ap (λ (v : PlainView). v.cells) c.self.view_is ∙ sym h.cells) (ap (λ (v : PlainView). v.endpoints) c.self.view_is ∙ sym h.endpoints)
    (c.list_in-list.ensures c.self.inside.cells (sym c.configs.ensures)) in
    c.in_ok-write_endpoint_word_if.ensures i q
    ∙ ap (λ (o : Option EndpointWord). with_endpoint_word_if o (last_byte i c.self.inside.bytes.items) q) (c.write_device-word.ensures.word ∙ ap (λ (d : Devices). endpoint_word_of_reach d c.args.reach.now c.args.value) devices)
    ∙ ap (λ (byte : Place → ℕ). with_endpoint_word_if (endpoint_word_of_reach (devices_of i f c.args.cell) c.args.reach.now c.args.value) byte q)
    (same_function (last_byte i c.self.inside.bytes.items) f.byte (λ p. ap (λ (v : PlainView). last_byte i v.bytes p) c.self.view_is ∙ sym (h.bytes p)))

pub returns-clause-endpoints : goal.returns-clause-endpoints
returns-clause-endpoints c = λ i f h.
    let devices = devices_kept i c.self.inside.image.now f.cells c.self.inside.cells f.endpoints c.self.inside.endpoints.list c.args.cell c.list_in-list.result.now
    (ap (λ (v : PlainView). v.image) c.self.view_is ∙ sym h.same) (ap (λ (v : PlainView). v.cells) c.self.view_is ∙ sym h.cells) (ap (λ (v : PlainView). v.endpoints) c.self.view_is ∙ sym h.endpoints)
    (c.list_in-list.ensures c.self.inside.cells (sym c.configs.ensures)) in
    c.write_device-word.ensures.list ∙ ap (λ (d : Devices). endpoints_put d c.args.reach.now c.args.value) devices
