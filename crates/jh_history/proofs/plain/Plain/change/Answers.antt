-- CPUs, endpoints and bytes, one entry further.
use Rattle.std.proofs.Common.{◌≡◌, ℕ, List, Option, Some, ap, sym, subst, ◌∙◌}
use Rattle.std.specs.Prelude.{slice_get}
use Rattle.std.specs.Option.{option_copied}
use Rattle.jh_cellcfg.specs.declared.live.Live.{Live}
use Rattle.jh_cpu.specs.declared.cpu.Cpu.{Cpu}
use Rattle.jh_ivshmem.specs.declared.endpoint.Endpoint.{Endpoint}
use Rattle.jh_script.specs.declared.image.Image.{Image}
use Rattle.jh_history.specs.declared.place.Place.{Place}
use Rattle.jh_history.specs.declared.comm.PageWrite.{PageWrite}
use Rattle.jh_history.specs.Bytes.{byte_written}
use Rattle.jh_history.specs.Cpus.{cpu_after}
use Rattle.jh_history.specs.Endpoints.{change_by, endpoints_changed, specs_changing, with_words, IsNextOf}
use Rattle.jh_history.specs.Pages.{page_write_by, with_page_write}
use Rattle.jh_shape.specs.Lives.{configs_of}
use Rattle.jh_history.specs.Private.PlainView.{PlainView, last_byte}
use Rattle.jh_history.proofs.FactsLemmas.{same_function}
use Rattle.jh_history.proofs.FollowLemmas.{may_commit}
use Rattle.jh_history.proofs.plain.Plain.change.Goals as goal

pub commit_devices-requires : goal.commit_devices-requires
commit_devices-requires c = may_commit c.args.self.now c.write.new.self c.args.entry.now.act c.requires.may.commit c.in_ok-write.ensures.others c.in_ok-write.ensures.commit

pub returns-clause-cpus : goal.returns-clause-cpus
returns-clause-cpus c = λ i f h k lt.
    let written = c.in_ok-write.ensures.others in
    let done = c.in_ok-commit_devices.ensures.others in
    let image : c.self.inside.image.now ≡ i = ap (λ (p : PlainView). p.image) c.self.view_is ∙ done.image ∙ written.image ∙ sym h.same in
    let form : f.form ≡ c.self.inside.form = h.form ∙ sym (ap (λ (p : PlainView). p.form) c.self.view_is ∙ done.form ∙ written.form) in
    let cpus : c.self.inside.cpus ≡ c.args.self.now.cpus = ap (λ (p : PlainView). p.cpus) c.self.view_is ∙ done.cpus ∙ written.cpus in
    let call : f.call ≡ option_copied c.as_ref.result = h.call ∙ sym (c.as_ref.ensures.value ∙ ap (λ (p : PlainView). p.call) c.self.view_is ∙ done.call ∙ written.call) in
    subst (λ (x : Image). slice_get c.cpus_after.new.cpus k ≡ Some (cpu_after x f c.args.entry.now k)) image
    (c.cpus_after.ensures f form call (λ n below. ap (λ (states : List Cpu). slice_get states n) cpus ∙ h.cpus n below) k lt)

pub returns-clause-bytes : goal.returns-clause-bytes
returns-clause-bytes c = λ i f h q.
    let entry = c.args.entry.now in
    let written = c.in_ok-write.ensures.others in
    let done = c.in_ok-commit_devices.ensures.others in
    let image : c.self.inside.image.now ≡ i = ap (λ (p : PlainView). p.image) c.self.view_is ∙ done.image ∙ written.image ∙ sym h.same in
    let form : f.form ≡ c.self.inside.form = h.form ∙ sym (ap (λ (p : PlainView). p.form) c.self.view_is ∙ done.form ∙ written.form) in
    let cpus : c.self.inside.cpus ≡ c.args.self.now.cpus = ap (λ (p : PlainView). p.cpus) c.self.view_is ∙ done.cpus ∙ written.cpus in
    let kept = ap (λ (p : PlainView). p.call) c.self.view_is ∙ done.call ∙ written.call in
    let call : f.call ≡ option_copied c.as_ref.result = h.call ∙ sym (c.as_ref.ensures.value ∙ kept) in
    let call_too : f.call ≡ option_copied c.as_ref-2.result = h.call ∙ sym (c.as_ref-2.ensures.value ∙ kept) in
    let cells : configs_of f.cells ≡ c.configs.result.now =
    sym (c.configs.ensures ∙ ap (λ (lives : List Live). configs_of lives) (ap (λ (p : PlainView). p.cells) c.self.view_is ∙ done.cells ∙ written.cells ∙ sym h.cells)) in
    let page : c.page_write-write.result ≡ page_write_by i f entry entry.act =
    c.page_write-write.ensures f cells call_too (c.cpus_after.ensures f form call (λ n below. ap (λ (states : List Cpu). slice_get states n) cpus ∙ h.cpus n below))
    ∙ ap (λ (x : Image). page_write_by x f entry entry.act) image in
    let byte : Place → ℕ = byte_written i f entry.cell entry.act in
    let bytes : (p : Place) → last_byte i c.self.inside.bytes.items p ≡ with_words (specs_changing f entry.act) byte p =
    λ p. ap (λ (v : PlainView). last_byte i v.bytes p) c.self.view_is
    ∙ c.in_ok-commit_devices.ensures.bytes i f (h.cells ∙ sym written.cells) (h.call ∙ sym written.call) p
    ∙ ap (λ (b : Place → ℕ). with_words (specs_changing f entry.act) b p) (same_function (last_byte i c.write.new.self.bytes) byte (c.in_ok-write.ensures.bytes i f h)) in
    c.in_ok-write_page_if.ensures i q
    ∙ ap (λ (w : Option PageWrite). with_page_write w (last_byte i c.self.inside.bytes.items) q) page
    ∙ ap (λ (b : Place → ℕ). with_page_write (page_write_by i f entry entry.act) b q) (same_function (last_byte i c.self.inside.bytes.items) (with_words (specs_changing f entry.act) byte) bytes)

pub returns-clause-endpoints : goal.returns-clause-endpoints
returns-clause-endpoints c = λ i f h.
    let entry = c.args.entry.now in
    let written = c.in_ok-write.ensures.others in
    let next : IsNextOf entry.cell f.endpoints entry.act = subst (λ (es : List Endpoint). IsNextOf entry.cell es entry.act) (sym h.endpoints) c.requires.may.next in
    ap (λ (v : PlainView). v.endpoints) c.self.view_is
    ∙ c.in_ok-commit_devices.ensures.endpoints f (h.cells ∙ sym written.cells) (h.call ∙ sym written.call)
    ∙ ap (λ (es : List Endpoint). endpoints_changed (change_by f.call) (specs_changing f entry.act) es) (c.in_ok-write.ensures.endpoints i f h next)
