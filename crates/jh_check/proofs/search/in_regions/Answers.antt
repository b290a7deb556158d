-- What is known of a cell's soundness is known of its regions, whose findings come in order.
use Rattle.std.proofs.Common.{◌≡◌, ◌<◌, ◌++◌, length, get_or, refl, sym, subst, arith}
use Rattle.jh_cellcfg.specs.declared.config.CellConfig.{CellConfig}
use Rattle.jh_check.specs.Private.Cells.{cells_of}
use Rattle.jh_check.specs.Lists.{capped}
use Rattle.jh_check.specs.Private.Sound.{AreSound}
use Rattle.jh_check.specs.Findings.{in_regions, in_regions_at}
use Rattle.jh_check.proofs.ListLemmas.{found_step, found_done}
use Rattle.jh_check.proofs.search.in_regions.Goals as goal

pub loop-a-init : goal.loop-a-init
unfolding in_regions
loop-a-init c = refl

pub loop-a-preserved : goal.loop-a-preserved
loop-a-preserved c =
    let found = in_regions_at c.args.rule c.args.setup.now.hypervisor.now in
    let all = cells_of c.args.setup.now in
    let v = c.cell.ensures in
    let i = c.as_slice-regions.ensures.value in
    let h : c.loop-a.a < length all = omega arith in
    let a = c.in_ok-in_cell.ensures in
    let e : capped c.in_cell.new.found ≡ capped (c.loop-a.found ++ found c.loop-a.a (get_or all c.loop-a.a c.cell.result.now)) = cc in
    found_step found all c.loop-a.a c.cell.result.now c.loop-a.found c.in_cell.new.found _ h e c.loop-a.invariant

pub returns : goal.returns
returns c =
    found_done (in_regions_at c.args.rule c.args.setup.now.hypervisor.now) (cells_of c.args.setup.now) c.loop-a.a c.loop-a.found _ (omega arith) c.loop-a.invariant

pub in_cell-requires : goal.in_cell-requires
in_cell-requires c = λ t.
    let h = c.args.setup.now.hypervisor.now in
    let a = c.loop-a.a in
    let within : a < length (cells_of c.args.setup.now) = omega arith in
    let sound = c.requires.sound a c.cell.result.now within t in
    subst (λ regions. AreSound h a regions) (sym c.as_slice-regions.ensures.value) (subst (λ (cell : CellConfig). AreSound h a cell.memory_regions) (sym c.cell.ensures) sound)
