-- The call and the cells, one entry further.
use Rattle.std.proofs.Common.{◌≡◌, List, Option, ap, sym, subst, ◌∙◌}
use Rattle.std.specs.Prelude.{option_map, All}
use Rattle.jh_check.specs.Clean.{IsSoundBitmap, IsSoundCpuSet}
use Rattle.jh_script.specs.declared.image.Image.{Image}
use Rattle.jh_history.specs.History.{after}
use Rattle.jh_history.specs.Sound.{IsSound}
use Rattle.jh_cellcfg.specs.declared.config.CellConfig.{CellConfig}
use Rattle.jh_cellcfg.specs.declared.live.Live.{Live}
use Rattle.jh_history.specs.declared.call.OpenCall.{OpenCall}
use Rattle.jh_history.specs.Calls.{call_by}
use Rattle.jh_history.specs.Commits.{cells_by}
use Rattle.jh_shape.specs.Lives.{configs_of}
use Rattle.jh_history.specs.Private.PlainView.{PlainView, HasSoundCells}
use Rattle.jh_history.proofs.PlainStepLemmas.{fit_after}
use Rattle.jh_history.proofs.plain.Plain.move_on.Goals as goal

pub returns-clause-cells : goal.returns-clause-cells
returns-clause-cells c =
    let act = c.args.entry.now.act in
    let call : c.replace-call.result ≡ c.args.self.now.call = c.replace-call.ensures.value ∙ ap (λ (p : PlainView). p.call) c.self.view_is in
    let cells : c.self.inside.cells ≡ c.args.self.now.cells = ap (λ (p : PlainView). p.cells) c.self.view_is in
    c.in_ok-cells_after.ensures.ok c.replace-call.result
    (c.begun_call-begun.ensures ∙ ap (option_map (λ (o : OpenCall). o.call)) c.as_ref.ensures.value) c.call_after-called.ensures.created
    ∙ ap (λ (k : Option OpenCall). cells_by k c.self.inside.cells act) call
    ∙ ap (λ (lives : List Live). cells_by c.args.self.now.call lives act) cells

pub returns-clause-call : goal.returns-clause-call
returns-clause-call c =
    let entry = c.args.entry.now in
    let call : c.replace-call.result ≡ c.args.self.now.call = c.replace-call.ensures.value ∙ ap (λ (p : PlainView). p.call) c.self.view_is in
    let cells : c.self.inside.cells ≡ c.args.self.now.cells = ap (λ (p : PlainView). p.cells) c.self.view_is in
    c.call_after-called.ensures.call c.args.self.now.cells (sym (c.configs.ensures ∙ ap (λ (lives : List Live). configs_of lives) cells))
    ∙ ap (λ (k : Option OpenCall). call_by c.args.self.now.cells c.args.coming k entry entry.act) call

pub invariant_of-self : goal.invariant_of-self
invariant_of-self c = subst (λ (lives : List Live). HasSoundCells c.self.inside.image.now lives) (sym c.in_err-cells_after.ensures.err) c.self.invariant

pub invariant_of-self-2 : goal.invariant_of-self-2
invariant_of-self-2 c =
    let entry = c.args.entry.now in
    let f = c.requires.facts in
    let image : c.args.self.now.image ≡ c.self.inside.image.now = sym (ap (λ (p : PlainView). p.image) c.self.view_is) in
    let call : c.replace-call.result ≡ f.call = c.replace-call.ensures.value ∙ ap (λ (p : PlainView). p.call) c.self.view_is ∙ sym c.requires.call in
    let cells : f.cells ≡ c.self.inside.cells = c.requires.cells ∙ sym (ap (λ (p : PlainView). p.cells) c.self.view_is) in
    let is : c.cells_after.new.cells ≡ cells_by f.call f.cells entry.act =
    c.in_ok-cells_after.ensures.ok c.replace-call.result
    (c.begun_call-begun.ensures ∙ ap (option_map (λ (o : OpenCall). o.call)) c.as_ref.ensures.value) c.call_after-called.ensures.created
    ∙ ap (λ (k : Option OpenCall). cells_by k c.self.inside.cells entry.act) call
    ∙ ap (λ (lives : List Live). cells_by f.call lives entry.act) (sym cells) in
    let sound : IsSound c.self.inside.image.now (after c.self.inside.image.now f entry) =
    subst (λ (x : Image). IsSound x (after x f entry)) image (c.legal_journals_are_sound.ensures.after c.args.self.now.image f entry (record { sound = c.requires.sound; due = c.requires.due })) in
    let names : All (λ (x : CellConfig). IsSoundBitmap x.cpu_set → IsSoundCpuSet x.cpu_set) (configs_of c.cells_after.new.cells) =
    subst (λ (configs : List CellConfig). All (λ (x : CellConfig). IsSoundBitmap x.cpu_set → IsSoundCpuSet x.cpu_set) configs) c.configs-2.ensures c.sets_name_cpus.ensures in
    fit_after c.self.inside.image.now f entry c.self.inside.cells c.cells_after.new.cells c.self.invariant cells sound is names
