-- The bytes of a system's configuration, from its fields. Numbers have their lowest byte first.
use Rattle.std.specs.Prelude.{◌≡◌, ℕ, ◌<◌, ◌^◌, List, ◌++◌, length, codes}
use Rattle.jh_cellcfg.specs.declared.config.Platform.{Platform}
use Rattle.jh_cellcfg.specs.declared.config.SystemConfig.{SystemConfig}
use Rattle.jh_cellcfg.specs.Spelling.{u8_bytes, u16_bytes, u32_bytes, u64_bytes, region_bytes, console_bytes, body_bytes}
use Rattle.jh_cellcfg.specs.Typed.{IsRegion, IsConsole, IsCell}
use Rattle.jh_cellcfg.specs.Limits.{IsWithinLimits}

-- the 88 bytes between the revision and root's name
abbrev pub platform_bytes : Platform → List ℕ
platform_bytes p =
    u32_bytes p.flags ++ (region_bytes p.hypervisor_memory ++ (console_bytes p.debug_console ++ (u64_bytes p.pci_mmconfig_base
    ++ (u8_bytes p.pci_mmconfig_end_bus ++ (u8_bytes p.pci_is_virtual ++ (u16_bytes p.pci_domain ++ p.root_head))))))

-- the one spelling of a system's configuration
abbrev pub system_spelling : SystemConfig → List ℕ
system_spelling s = codes "JHSYST" ++ (u16_bytes 13 ++ (platform_bytes s.platform ++ body_bytes s.root))

-- the fields of a platform have the values of their types; those of the bytes of root's head are left open
pub record IsPlatform (p : Platform) : Type 0 where
  pub flags : p.flags < 2 ^ 32
  pub hypervisor_memory : IsRegion p.hypervisor_memory
  pub debug_console : IsConsole p.debug_console
  pub pci_mmconfig_base : p.pci_mmconfig_base < 2 ^ 64
  pub pci_mmconfig_end_bus : p.pci_mmconfig_end_bus < 2 ^ 8
  pub pci_is_virtual : p.pci_is_virtual < 2 ^ 8
  pub pci_domain : p.pci_domain < 2 ^ 16
  pub root_head : length p.root_head ≡ 8

-- the fields of the system's configuration have the values of their types
pub record IsSystem (s : SystemConfig) : Type 0 where
  pub platform : IsPlatform s.platform
  pub root : IsCell s.root

-- what a system may have is what root may have; the size is counted from root's head on
pub record IsSystemWithinLimits (s : SystemConfig) : Type 0 where
  pub root : IsWithinLimits s.root
