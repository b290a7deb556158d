-- What a configuration says of a device.
use Rattle.std.specs.Prelude.{Bool, ◌==◌}
use Rattle.jh_cellcfg.specs.declared.config.PciDevice.{PciDevice}

-- the device is an ivshmem device: its kind is 3
abbrev pub is_shmem : PciDevice → Bool
is_shmem device = device.kind == 3
