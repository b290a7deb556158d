-- The state table of a good device is small.
use Rattle.std.proofs.Common.{◌≡◌, ◌≤◌, Option, Some, None, refl, arith}
use Rattle.jh_cellcfg.specs.declared.config.CellConfig.{CellConfig}
use Rattle.jh_cellcfg.specs.declared.config.PciDevice.{PciDevice}
use Rattle.jh_cellcfg.specs.declared.region.Region.{Region}
use Rattle.jh_check.specs.Clean.{IsGoodDevice}
use Rattle.jh_history.specs.Devices.{section_at, size_of}
use Rattle.jh_history.proofs.device_specs.function_of.Goals as goal

small_by : (config : CellConfig) (device : PciDevice) (o : Option Region) → IsGoodDevice config device → section_at config device 0 ≡ o → size_of o ≤ 65536
small_by config device None good e = omega arith
small_by config device (Some r) good e = (good.table r (record { number = omega arith; item = e })).few

small_table : (config : CellConfig) (device : PciDevice) → IsGoodDevice config device → size_of (section_at config device 0) ≤ 65536
small_table config device good = small_by config device (section_at config device 0) good refl

pub overflow_cast-result-2 : goal.overflow_cast-result-2
overflow_cast-result-2 c =
    let few : c.size_of.result ≤ 65536 = rw (c.size_of.ensures, c.section.ensures) (small_table c.args.config.now c.args.device.now c.requires) in
    omega arith
