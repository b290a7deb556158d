-- The devices of the cell that a Commit is about.
use Rattle.std.proofs.Common.{◌≡◌, List, Option, Some, None, sym, ap, subst, ◌∙◌}
use Rattle.std.specs.Prelude.{IfSome}
use Rattle.std.specs.Option.{option_copied}
use Rattle.jh_cellcfg.specs.declared.config.CellConfig.{CellConfig}
use Rattle.jh_ivshmem.specs.declared.spec.EndpointSpec.{EndpointSpec}
use Rattle.jh_history.specs.declared.device_change.DeviceChange.{DeviceChange}
use Rattle.jh_history.specs.Devices.{specs_of}
use Rattle.jh_history.specs.Endpoints.{change_by, changing_by, endpoints_changed, with_words, MayChange}
use Rattle.jh_history.specs.Private.PlainView.{PlainView, last_byte}
use Rattle.jh_history.proofs.FollowLemmas.{changing_seen, specs_changing_holds}
use Rattle.jh_history.proofs.plain.Plain.commit_devices.Goals as goal

pub change_devices-requires : goal.change_devices-requires
change_devices-requires c =
    let p = c.args.self.now in
    let act = c.args.act.now in
    let call : option_copied c.as_ref.result ≡ p.call = c.as_ref.ensures.value ∙ ap (λ (v : PlainView). v.call) c.self.view_is in
    let is : changing_by p.cells p.call act ≡ Some c.in-Some.config.now =
    changing_seen p (option_copied c.as_ref-2.result) act (option_copied c.changing_cell.result) c.self.view_is c.as_ref-2.ensures.value (c.changing_cell.ensures c.self.inside.cells (sym c.configs.ensures))
    ∙ ap option_copied c.in-Some.is in
    let may : MayChange (change_by p.call) p.endpoints c.in-Some.config.now = subst (λ (o : Option CellConfig). IfSome o (MayChange (change_by p.call) p.endpoints)) is c.requires in
    subst (λ (v : PlainView). MayChange c.by-change.result v.endpoints c.in-Some.config.now) (sym c.self.view_is)
    (subst (λ (k : DeviceChange). MayChange k p.endpoints c.in-Some.config.now) (sym (c.by-change.ensures ∙ ap change_by call)) may)

pub returns-in_ok-change_devices-in-Some-clause-bytes : goal.returns-in_ok-change_devices-in-Some-clause-bytes
returns-in_ok-change_devices-in-Some-clause-bytes c = λ i f alive opened q.
    let p = c.args.self.now in
    let act = c.args.act.now in
    let is : changing_by p.cells p.call act ≡ Some c.in-Some.config.now =
    changing_seen p (option_copied c.as_ref-2.result) act (option_copied c.changing_cell.result) c.self.view_is c.as_ref-2.ensures.value (c.changing_cell.ensures c.self.inside.cells (sym c.configs.ensures))
    ∙ ap option_copied c.in-Some.is in
    c.in_ok-change_devices-in-Some.ensures.bytes i q
    ∙ ap (λ (v : PlainView). with_words (specs_of c.in-Some.config.now) (last_byte i v.bytes) q) c.self.view_is
    ∙ ap (λ (specs : List EndpointSpec). with_words specs (last_byte i p.bytes) q) (specs_changing_holds f p.cells p.call act (Some c.in-Some.config.now) alive opened is)

pub returns-in_ok-change_devices-in-Some-clause-endpoints : goal.returns-in_ok-change_devices-in-Some-clause-endpoints
returns-in_ok-change_devices-in-Some-clause-endpoints c = λ f alive opened.
    let p = c.args.self.now in
    let act = c.args.act.now in
    let call : option_copied c.as_ref.result ≡ p.call = c.as_ref.ensures.value ∙ ap (λ (v : PlainView). v.call) c.self.view_is in
    let is : changing_by p.cells p.call act ≡ Some c.in-Some.config.now =
    changing_seen p (option_copied c.as_ref-2.result) act (option_copied c.changing_cell.result) c.self.view_is c.as_ref-2.ensures.value (c.changing_cell.ensures c.self.inside.cells (sym c.configs.ensures))
    ∙ ap option_copied c.in-Some.is in
    c.in_ok-change_devices-in-Some.ensures.endpoints
    ∙ ap (λ (v : PlainView). endpoints_changed c.by-change.result (specs_of c.in-Some.config.now) v.endpoints) c.self.view_is
    ∙ ap (λ (k : DeviceChange). endpoints_changed k (specs_of c.in-Some.config.now) p.endpoints) (c.by-change.ensures ∙ ap change_by (call ∙ sym opened))
    ∙ ap (λ (specs : List EndpointSpec). endpoints_changed (change_by f.call) specs p.endpoints) (specs_changing_holds f p.cells p.call act (Some c.in-Some.config.now) alive opened is)

pub returns-in-None-clause-bytes : goal.returns-in-None-clause-bytes
returns-in-None-clause-bytes c = λ i f alive opened q.
    let p = c.args.self.now in
    let act = c.args.act.now in
    let is : changing_by p.cells p.call act ≡ None =
    changing_seen p (option_copied c.as_ref-2.result) act (option_copied c.changing_cell.result) c.self.view_is c.as_ref-2.ensures.value (c.changing_cell.ensures c.self.inside.cells (sym c.configs.ensures))
    ∙ ap option_copied c.in-None.is in
    ap (λ (specs : List EndpointSpec). with_words specs (last_byte i p.bytes) q) (specs_changing_holds f p.cells p.call act None alive opened is)

pub returns-in-None-clause-endpoints : goal.returns-in-None-clause-endpoints
returns-in-None-clause-endpoints c = λ f alive opened.
    let p = c.args.self.now in
    let act = c.args.act.now in
    let is : changing_by p.cells p.call act ≡ None =
    changing_seen p (option_copied c.as_ref-2.result) act (option_copied c.changing_cell.result) c.self.view_is c.as_ref-2.ensures.value (c.changing_cell.ensures c.self.inside.cells (sym c.configs.ensures))
    ∙ ap option_copied c.in-None.is in
    ap (λ (specs : List EndpointSpec). endpoints_changed (change_by f.call) specs p.endpoints) (specs_changing_holds f p.cells p.call act None alive opened is)
