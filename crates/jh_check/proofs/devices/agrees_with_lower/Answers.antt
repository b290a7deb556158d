-- The next lower cell's answer decides or leaves it to the others; without a doubt, all agree.
use Rattle.std.proofs.Common.{◌≡◌, ◌+◌, false, true, ◌&&◌, take, drop, sym, ap, ◌∙◌}
use Rattle.std.specs.List.{list_all}
use Rattle.jh_cellcfg.specs.declared.config.CellConfig.{CellConfig}
use Rattle.jh_cellcfg.specs.declared.config.PciDevice.{PciDevice}
use Rattle.jh_check.specs.Private.Cells.{cells_of}
use Rattle.jh_check.specs.Devices.{agrees_with}
use Rattle.jh_check.proofs.ListLemmas.{all_drop_take}
use Rattle.jh_check.proofs.devices.agrees_with_lower.Goals as goal

pub returns-then-not-agrees_with_cell : goal.returns-then-not-agrees_with_cell
returns-then-not-agrees_with_cell c =
    let p = λ (cell : CellConfig). list_all (λ (other : PciDevice). agrees_with c.args.regions.now c.args.device.now cell.memory_regions other) cell.pci_devices in
    let lower = take c.args.number (cells_of c.args.setup.now) in
    let e = all_drop_take p (cells_of c.args.setup.now) c.args.number c.loop-lower.lower c.cell.result.now c.loop-lower-test.true c.requires.number c.cell.ensures in
    let r : p c.cell.result.now ≡ false = cc in
    sym (sym c.loop-lower.invariant ∙ e ∙ ap (λ b. b && list_all p (drop (c.loop-lower.lower + 1) lower)) r)

pub loop-lower-preserved : goal.loop-lower-preserved
loop-lower-preserved c =
    let p = λ (cell : CellConfig). list_all (λ (other : PciDevice). agrees_with c.args.regions.now c.args.device.now cell.memory_regions other) cell.pci_devices in
    let lower = take c.args.number (cells_of c.args.setup.now) in
    let e = all_drop_take p (cells_of c.args.setup.now) c.args.number c.loop-lower.lower c.cell.result.now c.loop-lower-test.true c.requires.number c.cell.ensures in
    let r : p c.cell.result.now ≡ true = cc in
    sym (e ∙ ap (λ b. b && list_all p (drop (c.loop-lower.lower + 1) lower)) r) ∙ c.loop-lower.invariant

pub returns-then-not-doubted : goal.returns-then-not-doubted
returns-then-not-doubted c = sym (c.requires.doubted c.if-not-doubted.true)
