-- By the rule, whose findings that name the new cell are those of the cell's own search.
use Rattle.std.proofs.Common.{◌≡◌, ◌<◌, [], ◌∷◌, ◌++◌, ◌∙◌, Bool, ap, subst, arith}
use Rattle.std.specs.Prelude.{IfOk}
use Rattle.jh_check.specs.Private.Cells.{cells_of}
use Rattle.jh_check.specs.Devices.{cpus_break}
use Rattle.jh_check.specs.Lists.{is_any}
use Rattle.jh_check.specs.Findings.{in_cell}
use Rattle.jh_check.proofs.VerdictLemmas.{own_within, own_taken, own_crossing, own_devices, own_cpus, own_region}
use Rattle.jh_check.proofs.verdict.breaks.Goals as goal

pub returns-in-VirtOverlap : goal.returns-in-VirtOverlap
returns-in-VirtOverlap c =
    subst (λ (found : Bool). IfOk c.any_within.result (λ breaks. breaks ≡ found))
    (own_within c.args.rule c.args.setup.now.hypervisor.now (cells_of c.args.setup.now) c.args.new.now c.args.number c.requires.number c.in-VirtOverlap.is) c.any_within.ensures

pub returns-in-SubpageTaken : goal.returns-in-SubpageTaken
returns-in-SubpageTaken c =
    c.any_between.ensures ∙ own_taken c.args.rule c.args.setup.now.hypervisor.now c.args.setup.now.root.now c.args.setup.now.cells.now c.args.new.now c.args.number c.requires.number c.in-SubpageTaken.is

pub returns-in-CellsOverlap : goal.returns-in-CellsOverlap
returns-in-CellsOverlap c =
    own_crossing c.args.rule c.args.setup.now.hypervisor.now ((cells_of c.args.setup.now) ++ c.args.new.now ∷ []) c.args.number c.in-CellsOverlap.is

pub returns-in-Shmem : goal.returns-in-Shmem
returns-in-Shmem c =
    let some : 0 < c.args.number = let e = c.requires.number in omega arith in
    c.any_device.ensures ∙ own_devices c.args.rule c.args.setup.now.hypervisor.now (cells_of c.args.setup.now) c.args.new.now c.args.number some c.requires.number c.in-Shmem.is

pub returns-in-NoCpu : goal.returns-in-NoCpu
returns-in-NoCpu c =
    let some : 0 < c.args.number = let e = c.requires.number in omega arith in
    c.cpus_break.ensures ∙ ap cpus_break c.as_slice.ensures.value ∙ own_cpus c.args.rule c.args.setup.now.hypervisor.now (cells_of c.args.setup.now) c.args.new.now c.args.number some c.requires.number c.in-NoCpu.is

pub returns-in_default : goal.returns-in_default
returns-in_default c =
    let some : 0 < c.args.number = let e = c.requires.number in omega arith in
    let few : c.args.number < 16 = let e = c.requires.number in let f = c.requires.count in omega arith in
    c.any_region.ensures
    ∙ ap (λ regions. is_any (in_cell c.args.rule c.args.setup.now.hypervisor.now c.args.number regions)) c.as_slice-in_default.ensures.value
    ∙ own_region c.args.rule c.args.setup.now.hypervisor.now (cells_of c.args.setup.now) c.args.new.now c.args.number some few c.requires.number c.in_default.not-VirtOverlap c.in_default.not-PhysOverlap c.in_default.not-SubpageTaken c.in_default.not-CellsOverlap c.in_default.not-Shmem c.in_default.not-NoCpu
