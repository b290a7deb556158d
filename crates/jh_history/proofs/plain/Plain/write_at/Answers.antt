-- A write where it reaches memory or a subpage region, or a device, and where it writes nothing.
use Rattle.std.proofs.Common.{◌≡◌, true, false, inl, inr, ◌∙◌, ap, sym, ⊎_elim}
use Rattle.jh_history.specs.declared.access.Reach.{Reach}
use Rattle.jh_history.specs.declared.access.Reach.TheVariants.{Memory, Subpage}
use Rattle.jh_history.specs.Access.{write_of}
use Rattle.jh_history.specs.Endpoints.{endpoints_put}
use Rattle.jh_history.specs.Grants.{devices_of}
use Rattle.jh_history.specs.Private.PlainView.{PlainView, last_byte}
use Rattle.jh_history.specs.Places.{overlaid}
use Rattle.jh_history.proofs.KeptLemmas.{kept_write, kept_write_subpage, reach_seen, is_device, device_write, others_put}
use Rattle.jh_history.proofs.plain.Plain.write_at.Goals as goal

pub returns-in_ok-write_places-in-Memory-clause-bytes : goal.returns-in_ok-write_places-in-Memory-clause-bytes
returns-in_ok-write_places-in-Memory-clause-bytes c = λ i f h q.
    let wanted = c.args.wanted.now in
    let found = reach_seen c.args.self.now c.grants.result i f c.args.cell wanted c.reach_in-reach.result c.self.view_is c.grants.ensures h c.reach_in-reach.ensures in
    c.in_ok-write_places-in-Memory.ensures i q
    ∙ ap (λ (p : PlainView). overlaid c.in-Memory.places c.args.value q (last_byte i p.bytes q)) c.self.view_is
    ∙ ⊎_elim
    (λ (is : c.reach_in-reach.result ≡ Memory c.in-Memory.places). kept_write i f c.args.cell wanted c.reach_in-reach.result c.in-Memory.places c.args.value q c.args.self.now h found is)
    (λ (is : c.reach_in-reach.result ≡ Subpage c.in-Memory.places). kept_write_subpage i f c.args.cell wanted c.reach_in-reach.result c.in-Memory.places c.args.value q c.args.self.now h found is)
    c.in-Memory.is

pub returns-in_ok-write_places-in-Memory-clause-endpoints : goal.returns-in_ok-write_places-in-Memory-clause-endpoints
returns-in_ok-write_places-in-Memory-clause-endpoints c = λ i f h.
    let wanted = c.args.wanted.now in
    let found = reach_seen c.args.self.now c.grants.result i f c.args.cell wanted c.reach_in-reach.result c.self.view_is c.grants.ensures h c.reach_in-reach.ensures in
    let other : is_device c.reach_in-reach.result ≡ false = ⊎_elim
    (λ (is : c.reach_in-reach.result ≡ Memory c.in-Memory.places). ap is_device is)
    (λ (is : c.reach_in-reach.result ≡ Subpage c.in-Memory.places). ap is_device is)
    c.in-Memory.is in
    ap (λ (p : PlainView). p.endpoints) c.self.view_is ∙ sym h.endpoints ∙ others_put i f c.args.cell wanted c.reach_in-reach.result c.args.value found other

pub returns-in_ok-write_device-in-Config-clause-bytes : goal.returns-in_ok-write_device-in-Config-clause-bytes
returns-in_ok-write_device-in-Config-clause-bytes c = λ i f h q.
    let wanted = c.args.wanted.now in
    let found = reach_seen c.args.self.now c.grants.result i f c.args.cell wanted c.reach_in-reach.result c.self.view_is c.grants.ensures h c.reach_in-reach.ensures in
    let device : is_device c.reach_in-reach.result ≡ true = elim c.in-Config.is [
      | inl is ↦ ap is_device is.1
      | inr is ↦ ap is_device is.1
    ] in
    c.in_ok-write_device-in-Config.ensures.bytes i f h q
    ∙ device_write f.byte (devices_of i f c.args.cell) c.reach_in-reach.result c.args.value q device
    ∙ ap (λ (r : Reach). write_of f.byte (devices_of i f c.args.cell) r c.args.value q) found

pub returns-in_ok-write_device-in-Config-clause-endpoints : goal.returns-in_ok-write_device-in-Config-clause-endpoints
returns-in_ok-write_device-in-Config-clause-endpoints c = λ i f h.
    let wanted = c.args.wanted.now in
    let found = reach_seen c.args.self.now c.grants.result i f c.args.cell wanted c.reach_in-reach.result c.self.view_is c.grants.ensures h c.reach_in-reach.ensures in
    c.in_ok-write_device-in-Config.ensures.endpoints i f h ∙ ap (λ (r : Reach). endpoints_put (devices_of i f c.args.cell) r c.args.value) found

pub returns-in-Nothing-clause-bytes : goal.returns-in-Nothing-clause-bytes
returns-in-Nothing-clause-bytes c = λ i f h q.
    let wanted = c.args.wanted.now in
    let found = reach_seen c.args.self.now c.grants.result i f c.args.cell wanted c.reach_in-reach.result c.self.view_is c.grants.ensures h c.reach_in-reach.ensures in
    sym (h.bytes q) ∙ ap (λ (r : Reach). write_of f.byte (devices_of i f c.args.cell) r c.args.value q) (sym c.in-Nothing.is ∙ found)

pub returns-in-Nothing-clause-endpoints : goal.returns-in-Nothing-clause-endpoints
returns-in-Nothing-clause-endpoints c = λ i f h.
    let wanted = c.args.wanted.now in
    let found = reach_seen c.args.self.now c.grants.result i f c.args.cell wanted c.reach_in-reach.result c.self.view_is c.grants.ensures h c.reach_in-reach.ensures in
    sym h.endpoints ∙ others_put i f c.args.cell wanted c.reach_in-reach.result c.args.value found (ap is_device c.in-Nothing.is)
