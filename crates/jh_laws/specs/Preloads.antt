-- What the preloads of an image put, and where the words of root's devices are.
use Rattle.std.specs.Prelude.{◌≡◌, ◌<◌, ◌+◌, ◌*◌, ◌^◌, ℕ, length, Contains, Some, slice_get, slice_index}
use Rattle.jh_cellcfg.specs.declared.config.PciDevice.{PciDevice}
use Rattle.jh_cellcfg.specs.declared.region.Region.{Region}
use Rattle.jh_check.specs.Clean.{IsShmem}
use Rattle.jh_script.specs.declared.image.Image.{Image}
use Rattle.jh_script.specs.declared.image.Preload.{Preload}

-- a preload of the image puts the byte at the place of physical memory
pub record IsPreloaded (image : Image) (place byte : ℕ) : Type 0 where
  pub preload : Preload
  pub index : ℕ
  pub among : Contains image.preloads preload
  pub within : index < length preload.bytes
  pub there : place ≡ preload.at + index
  pub byte_is : byte ≡ slice_index preload.bytes index

-- the place is in the word that an ivshmem device of root has in its state table: the table is the region of root with
-- the number that the device says, and the word is the four bytes from 4 times the device's own number among its peers
-- on
pub record IsInStateWord (image : Image) (place : ℕ) : Type 0 where
  pub number : ℕ
  pub device : PciDevice
  pub item : slice_get image.system.root.pci_devices number ≡ Some device
  pub kind : IsShmem device
  -- the number of a device has 32 bits
  pub small : number < 2 ^ 32
  pub table : Region
  pub section : slice_get image.system.root.memory_regions device.shmem_regions_start ≡ Some table
  pub index : ℕ
  pub within : index < 4
  pub there : place ≡ table.phys_start + 4 * device.shmem_dev_id + index
