-- Each field is its member's number.
use Rattle.std.proofs.Common.{◌≡◌, ℕ, ◌^◌, ◌<◌, Bool, true, false, ◌==◌, cond, if◌then◌else◌, nat_lt, List, ◌∷◌, length, codes, Option, Some, None, Result, Ok, Err, replicate, inl, inr, refl, sym, ap, subst, option_and_then}
use Rattle.std.proofs.lemmas.Bool.{ltb-true, eqb-true}
use Rattle.std.proofs.lemmas.Option.{same_Some, none-some}
use Rattle.serde_json.specs.Data.{Data}
use Rattle.serde_json.specs.Find.{get}
use Rattle.jh_cellcfg.specs.declared.config.CellConfig.{CellConfig}
use Rattle.jh_cellcfg.specs.declared.config.SystemConfig.{SystemConfig}
use Rattle.jh_cellcfg.specs.declared.config.Irqchip.{Irqchip}
use Rattle.jh_cellcfg.specs.declared.config.PciDevice.{PciDevice}
use Rattle.jh_cellcfg.specs.declared.config.Console.{Console}
use Rattle.jh_cellcfg.specs.declared.region.Region.{Region}
use Rattle.jh_cellcfg.specs.Spelling.{console_bytes}
use Rattle.jh_cellcfg.specs.declared.config.Platform.{Platform}
use Rattle.jh_spec.specs.declared.fault.JsonFault.{JsonFault}
use Rattle.jh_spec.specs.declared.cell.Identity.{Identity}
use Rattle.jh_spec.specs.declared.cell.Lists.{Lists}
use Rattle.jh_spec.specs.declared.cell.Settings.{Settings}
use Rattle.jh_spec.specs.Faults.{told_and_then, ◌>>=◌, member_told, all_listed}
use Rattle.jh_spec.specs.Json.{told_or, number_told, number_below, list_told, has_only}
use Rattle.jh_spec.specs.Fields.{u8_at, u16_at, u32_at, u64_at, u32_told, words_at, words_told, region_names, irqchip_names, device_names, console_names, region_members, irqchip_members, device_members, console_members, region_told, irqchip_told, device_told, console_told}
use Rattle.jh_spec.specs.Cells.{cell_name, cpu_set_size, cpu_set_in, regions_in, irqchips_in, devices_in, console_at, region_at, cell_names, system_names, identity_told, lists_told, settings_told, cell_made_of, cell_told, root_of, root_in, root_told, platform_told, system_told}
use Rattle.jh_spec.specs.Laws.{IsNumberOf, AreWordsOf, IsRegionOf, IsIrqchipOf, IsDeviceOf, IsConsoleOf, IsCellOf, IsPlatformOf, IsSystemOf}

-- ---- one number

below_by : (limit n : ℕ) (b : Bool) → nat_lt n limit ≡ b → (m : ℕ) → cond b (Some n) None ≡ Some m → (n ≡ m) × (n < limit)
below_by limit n true is m h = (same_Some n m h, ltb-true n limit is)
below_by limit n false is m h = absurd (none-some m h)

below_told : (limit : ℕ) (o : Option ℕ) (m : ℕ) → option_and_then (λ n. if nat_lt n limit then Some n else None) o ≡ Some m → (o ≡ Some m) × (m < limit)
below_told limit None m h = absurd (none-some m h)
below_told limit (Some n) m h =
    let is = below_by limit n (nat_lt n limit) refl m h in
    (ap (λ k. Some k) is.0, subst (λ k. k < limit) is.0 is.1)

number_by : (bits : ℕ) (name : List ℕ) (d : Data) (o : Option Data) → get name d ≡ o → (n : ℕ) → told_or (number_below (2 ^ bits)) 0 o ≡ Some n → IsNumberOf bits name d n
number_by bits name d None is n h = inl (is, sym (same_Some 0 n h))
number_by bits name d (Some value) is n h =
    let told = below_told (2 ^ bits) (number_told value) n h in
    inr (value, is, told.0, told.1)

-- the number of a member that tells one
number_is : (bits : ℕ) (name : List ℕ) (d : Data) (n : ℕ) → told_or (number_below (2 ^ bits)) 0 (get name d) ≡ Some n → IsNumberOf bits name d n
number_is bits name d n h = number_by bits name d (get name d) refl n h

-- ---- a list of words

count_by : (count : ℕ) (ws : List ℕ) (b : Bool) → (length ws == count) ≡ b → (vs : List ℕ) → cond b (Some ws) None ≡ Some vs → (ws ≡ vs) × (length ws ≡ count)
count_by count ws true is vs h = (same_Some ws vs h, eqb-true (length ws) count is)
count_by count ws false is vs h = absurd (none-some vs h)

words_told_by : (count : ℕ) (o : Option (List ℕ)) (vs : List ℕ) → option_and_then (λ words. if length words == count then Some words else None) o ≡ Some vs → (o ≡ Some vs) × (length vs ≡ count)
words_told_by count None vs h = absurd (none-some vs h)
words_told_by count (Some ws) vs h =
    let is = count_by count ws (length ws == count) refl vs h in
    (ap (λ l. Some l) is.0, subst (λ (l : List ℕ). length l ≡ count) is.0 is.1)

words_by : (count : ℕ) (name : List ℕ) (d : Data) (o : Option Data) → get name d ≡ o → (ws : List ℕ) → told_or (words_told count) (replicate count 0) o ≡ Some ws → AreWordsOf count name d ws
words_by count name d None is ws h = inl (is, sym (same_Some (replicate count 0) ws h))
words_by count name d (Some value) is ws h =
    let told = words_told_by count (list_told u32_told value) ws h in
    inr (value, is, told.0, told.1)

-- the words of a member that tells them
words_are : (count : ℕ) (name : List ℕ) (d : Data) (ws : List ℕ) → words_at count name d ≡ Some ws → AreWordsOf count name d ws
words_are count name d ws h = words_by count name d (get name d) refl ws h

-- ---- records

-- what stands where the test held
listed : {X : Type 0} (test : Bool) (o : Option X) (x : X) → cond test o None ≡ Some x → o ≡ Some x
listed true o x h = h
listed false o x h = absurd (none-some x h)

-- the parts of a chain of members that all told something
members : {X Y : Type 0} (o : Option X) (next : X → Option Y) (y : Y) → option_and_then next o ≡ Some y → (x : X) × (o ≡ Some x) × (next x ≡ Some y)
members None next y h = absurd (none-some y h)
members (Some x) next y h = (x, refl, h)

pub region_fields : (d : Data) (told : Region) → region_told d ≡ Some told → IsRegionOf d told
region_fields d told h =
    let s0 = listed (has_only region_names d) (region_members d) told h in
    let s1 = members (u64_at (codes "phys") d) _ told s0 in
    let s2 = members (u64_at (codes "virt") d) _ told s1.2 in
    let s3 = members (u64_at (codes "size") d) _ told s2.2 in
    let s4 = members (u64_at (codes "flags") d) _ told s3.2 in
    subst (IsRegionOf d) (same_Some _ told s4.2) (record {
      phys_start = number_is 64 (codes "phys") d s1.0 s1.1;
      virt_start = number_is 64 (codes "virt") d s2.0 s2.1;
      size = number_is 64 (codes "size") d s3.0 s3.1;
      flags = number_is 64 (codes "flags") d s4.0 s4.1;
    })

pub irqchip_fields : (d : Data) (told : Irqchip) → irqchip_told d ≡ Some told → IsIrqchipOf d told
irqchip_fields d told h =
    let s0 = listed (has_only irqchip_names d) (irqchip_members d) told h in
    let s1 = members (u64_at (codes "address") d) _ told s0 in
    let s2 = members (u32_at (codes "id") d) _ told s1.2 in
    let s3 = members (u32_at (codes "pin_base") d) _ told s2.2 in
    let s4 = members (words_at 4 (codes "bitmap") d) _ told s3.2 in
    subst (IsIrqchipOf d) (same_Some _ told s4.2) (record {
      address = number_is 64 (codes "address") d s1.0 s1.1;
      id = number_is 32 (codes "id") d s2.0 s2.1;
      pin_base = number_is 32 (codes "pin_base") d s3.0 s3.1;
      pin_bitmap = words_are 4 (codes "bitmap") d s4.0 s4.1;
    })

pub device_fields : (d : Data) (told : PciDevice) → device_told d ≡ Some told → IsDeviceOf d told
device_fields d told h =
    let s0 = listed (has_only device_names d) (device_members d) told h in
    let s1 = members (u8_at (codes "kind") d) _ told s0 in
    let s2 = members (u8_at (codes "iommu") d) _ told s1.2 in
    let s3 = members (u16_at (codes "domain") d) _ told s2.2 in
    let s4 = members (u16_at (codes "bdf") d) _ told s3.2 in
    let s5 = members (words_at 6 (codes "bar_mask") d) _ told s4.2 in
    let s6 = members (u16_at (codes "caps_start") d) _ told s5.2 in
    let s7 = members (u16_at (codes "num_caps") d) _ told s6.2 in
    let s8 = members (u8_at (codes "num_msi_vectors") d) _ told s7.2 in
    let s9 = members (u8_at (codes "msi_bits") d) _ told s8.2 in
    let s10 = members (u16_at (codes "num_msix_vectors") d) _ told s9.2 in
    let s11 = members (u16_at (codes "msix_region_size") d) _ told s10.2 in
    let s12 = members (u64_at (codes "msix_address") d) _ told s11.2 in
    let s13 = members (u32_at (codes "shmem_regions_start") d) _ told s12.2 in
    let s14 = members (u8_at (codes "shmem_dev_id") d) _ told s13.2 in
    let s15 = members (u8_at (codes "shmem_peers") d) _ told s14.2 in
    let s16 = members (u16_at (codes "shmem_protocol") d) _ told s15.2 in
    subst (IsDeviceOf d) (same_Some _ told s16.2) (record {
      kind = number_is 8 (codes "kind") d s1.0 s1.1;
      iommu = number_is 8 (codes "iommu") d s2.0 s2.1;
      domain = number_is 16 (codes "domain") d s3.0 s3.1;
      bdf = number_is 16 (codes "bdf") d s4.0 s4.1;
      bar_mask = words_are 6 (codes "bar_mask") d s5.0 s5.1;
      caps_start = number_is 16 (codes "caps_start") d s6.0 s6.1;
      num_caps = number_is 16 (codes "num_caps") d s7.0 s7.1;
      num_msi_vectors = number_is 8 (codes "num_msi_vectors") d s8.0 s8.1;
      msi_bits = number_is 8 (codes "msi_bits") d s9.0 s9.1;
      num_msix_vectors = number_is 16 (codes "num_msix_vectors") d s10.0 s10.1;
      msix_region_size = number_is 16 (codes "msix_region_size") d s11.0 s11.1;
      msix_address = number_is 64 (codes "msix_address") d s12.0 s12.1;
      shmem_regions_start = number_is 32 (codes "shmem_regions_start") d s13.0 s13.1;
      shmem_dev_id = number_is 8 (codes "shmem_dev_id") d s14.0 s14.1;
      shmem_peers = number_is 8 (codes "shmem_peers") d s15.0 s15.1;
      shmem_protocol = number_is 16 (codes "shmem_protocol") d s16.0 s16.1;
    })

pub console_fields : (d : Data) (told : Console) → console_told d ≡ Some told → IsConsoleOf d told
console_fields d told h =
    let s0 = listed (has_only console_names d) (console_members d) told h in
    let s1 = members (u64_at (codes "address") d) _ told s0 in
    let s2 = members (u32_at (codes "size") d) _ told s1.2 in
    let s3 = members (u16_at (codes "kind") d) _ told s2.2 in
    let s4 = members (u16_at (codes "flags") d) _ told s3.2 in
    let s5 = members (u32_at (codes "divider") d) _ told s4.2 in
    let s6 = members (u32_at (codes "gate_nr") d) _ told s5.2 in
    let s7 = members (u64_at (codes "clock_reg") d) _ told s6.2 in
    subst (IsConsoleOf d) (same_Some _ told s7.2) (record {
      address = number_is 64 (codes "address") d s1.0 s1.1;
      size = number_is 32 (codes "size") d s2.0 s2.1;
      kind = number_is 16 (codes "kind") d s3.0 s3.1;
      flags = number_is 16 (codes "flags") d s4.0 s4.1;
      divider = number_is 32 (codes "divider") d s5.0 s5.1;
      gate_nr = number_is 32 (codes "gate_nr") d s6.0 s6.1;
      clock_reg = number_is 64 (codes "clock_reg") d s7.0 s7.1;
    })

-- ---- cells and systems

-- the parts of a chain of steps that found no fault
steps : {X Y : Type 0} (r : Result X JsonFault) (next : X → Result Y JsonFault) (y : Y) → (r >>= next) ≡ Ok y → (x : X) × (r ≡ Ok x) × (next x ≡ Ok y)
unfolding told_and_then
steps (Ok x) next y h = (x, refl, h)
steps (Err fault) next y h = cc

abbrev fine : {X : Type 0} → X → Result X JsonFault
fine x = Ok x

same_Ok : {X : Type 0} (x y : X) → fine x ≡ fine y → x ≡ y
same_Ok x y h = cc

told_member : {X : Type 0} (name : List ℕ) (o : Option X) (x : X) → member_told name o ≡ Ok x → o ≡ Some x
told_member name None x h = cc
told_member name (Some y) x h = ap (λ z. Some z) (same_Ok y x h)

record IdentityOf (d : Data) (x : Identity) : Type 0 where
  name : cell_name d ≡ Some x.name
  id : IsNumberOf 32 (codes "id") d x.id
  flags : IsNumberOf 32 (codes "flags") d x.flags
  cpu_set : (bytes : ℕ) × (cpu_set_size d ≡ Some bytes) × (cpu_set_in bytes d ≡ Some x.cpu_set)

identity_fields : (d : Data) (x : Identity) → identity_told d ≡ Ok x → IdentityOf d x
unfolding identity_told
identity_fields d x h =
    let s1 = steps (member_told (codes "name") (cell_name d)) _ x h in
    let s2 = steps (member_told (codes "id") (u32_at (codes "id") d)) _ x s1.2 in
    let s3 = steps (member_told (codes "flags") (u32_at (codes "flags") d)) _ x s2.2 in
    let s4 = steps (member_told (codes "cpu_set_size") (cpu_set_size d)) _ x s3.2 in
    let s5 = steps (member_told (codes "cpus") (cpu_set_in s4.0 d)) _ x s4.2 in
    subst (IdentityOf d) (same_Ok _ x s5.2) (record {
      name = told_member (codes "name") (cell_name d) s1.0 s1.1;
      id = number_is 32 (codes "id") d s2.0 (told_member (codes "id") (u32_at (codes "id") d) s2.0 s2.1);
      flags = number_is 32 (codes "flags") d s3.0 (told_member (codes "flags") (u32_at (codes "flags") d) s3.0 s3.1);
      cpu_set = (s4.0, told_member (codes "cpu_set_size") (cpu_set_size d) s4.0 s4.1, told_member (codes "cpus") (cpu_set_in s4.0 d) s5.0 s5.1);
    })

record ListsOf (d : Data) (x : Lists) : Type 0 where
  memory_regions : regions_in d ≡ Some x.memory_regions
  irqchips : irqchips_in d ≡ Some x.irqchips
  pci_devices : devices_in d ≡ Some x.pci_devices

lists_fields : (d : Data) (x : Lists) → lists_told d ≡ Ok x → ListsOf d x
unfolding lists_told
lists_fields d x h =
    let s1 = steps (member_told (codes "regions") (regions_in d)) _ x h in
    let s2 = steps (member_told (codes "irqchips") (irqchips_in d)) _ x s1.2 in
    let s3 = steps (member_told (codes "devices") (devices_in d)) _ x s2.2 in
    subst (ListsOf d) (same_Ok _ x s3.2) (record {
      memory_regions = told_member (codes "regions") (regions_in d) s1.0 s1.1;
      irqchips = told_member (codes "irqchips") (irqchips_in d) s2.0 s2.1;
      pci_devices = told_member (codes "devices") (devices_in d) s3.0 s3.1;
    })

record SettingsOf (d : Data) (x : Settings) : Type 0 where
  vpci_irq_base : IsNumberOf 32 (codes "vpci_irq_base") d x.vpci_irq_base
  cpu_reset_address : IsNumberOf 64 (codes "cpu_reset_address") d x.cpu_reset_address
  msg_reply_timeout : IsNumberOf 64 (codes "msg_reply_timeout") d x.msg_reply_timeout
  console : (console : Console) × (console_at (codes "console") d ≡ Some console) × (x.console ≡ console_bytes console)

settings_fields : (d : Data) (x : Settings) → settings_told d ≡ Ok x → SettingsOf d x
unfolding settings_told
settings_fields d x h =
    let s1 = steps (member_told (codes "vpci_irq_base") (u32_at (codes "vpci_irq_base") d)) _ x h in
    let s2 = steps (member_told (codes "cpu_reset_address") (u64_at (codes "cpu_reset_address") d)) _ x s1.2 in
    let s3 = steps (member_told (codes "msg_reply_timeout") (u64_at (codes "msg_reply_timeout") d)) _ x s2.2 in
    let s4 = steps (member_told (codes "console") (console_at (codes "console") d)) _ x s3.2 in
    subst (SettingsOf d) (same_Ok _ x s4.2) (record {
      vpci_irq_base = number_is 32 (codes "vpci_irq_base") d s1.0 (told_member (codes "vpci_irq_base") (u32_at (codes "vpci_irq_base") d) s1.0 s1.1);
      cpu_reset_address = number_is 64 (codes "cpu_reset_address") d s2.0 (told_member (codes "cpu_reset_address") (u64_at (codes "cpu_reset_address") d) s2.0 s2.1);
      msg_reply_timeout = number_is 64 (codes "msg_reply_timeout") d s3.0 (told_member (codes "msg_reply_timeout") (u64_at (codes "msg_reply_timeout") d) s3.0 s3.1);
      console = (s4.0, told_member (codes "console") (console_at (codes "console") d) s4.0 s4.1, refl);
    })

pub cell_fields : (names : List (List ℕ)) (d : Data) (x : CellConfig) → cell_told names d ≡ Ok x → IsCellOf d x
unfolding cell_told
cell_fields names d x h =
    let s1 = steps (identity_told d) _ x h in
    let s2 = steps (lists_told d) _ x s1.2 in
    let s3 = steps (settings_told d) _ x s2.2 in
    let s4 = steps (all_listed names d) _ x s3.2 in
    let identity = identity_fields d s1.0 s1.1 in
    let lists = lists_fields d s2.0 s2.1 in
    let settings = settings_fields d s3.0 s3.1 in
    subst (IsCellOf d) (same_Ok (cell_made_of s1.0 s2.0 s3.0) x s4.2) (record {
      name = identity.name;
      id = identity.id;
      flags = identity.flags;
      cpu_set = identity.cpu_set;
      memory_regions = lists.memory_regions;
      irqchips = lists.irqchips;
      pci_devices = lists.pci_devices;
      vpci_irq_base = settings.vpci_irq_base;
      cpu_reset_address = settings.cpu_reset_address;
      msg_reply_timeout = settings.msg_reply_timeout;
      console = settings.console;
      cache_regions = refl;
      pio_regions = refl;
      pci_caps = refl;
      stream_ids = refl;
    })

platform_fields : (d : Data) (x : Platform) → platform_told d ≡ Ok x → IsPlatformOf d x
unfolding platform_told
platform_fields d x h =
    let s1 = steps (member_told (codes "flags") (u32_at (codes "flags") d)) _ x h in
    let s2 = steps (member_told (codes "hypervisor") (region_at (codes "hypervisor") d)) _ x s1.2 in
    let s3 = steps (member_told (codes "debug_console") (console_at (codes "debug_console") d)) _ x s2.2 in
    let s4 = steps (member_told (codes "mmconfig_base") (u64_at (codes "mmconfig_base") d)) _ x s3.2 in
    let s5 = steps (member_told (codes "end_bus") (u8_at (codes "end_bus") d)) _ x s4.2 in
    let s6 = steps (member_told (codes "is_virtual") (u8_at (codes "is_virtual") d)) _ x s5.2 in
    let s7 = steps (member_told (codes "domain") (u16_at (codes "domain") d)) _ x s6.2 in
    subst (IsPlatformOf d) (same_Ok _ x s7.2) (record {
      flags = number_is 32 (codes "flags") d s1.0 (told_member (codes "flags") (u32_at (codes "flags") d) s1.0 s1.1);
      hypervisor_memory = told_member (codes "hypervisor") (region_at (codes "hypervisor") d) s2.0 s2.1;
      debug_console = told_member (codes "debug_console") (console_at (codes "debug_console") d) s3.0 s3.1;
      pci_mmconfig_base = number_is 64 (codes "mmconfig_base") d s4.0 (told_member (codes "mmconfig_base") (u64_at (codes "mmconfig_base") d) s4.0 s4.1);
      pci_mmconfig_end_bus = number_is 8 (codes "end_bus") d s5.0 (told_member (codes "end_bus") (u8_at (codes "end_bus") d) s5.0 s5.1);
      pci_is_virtual = number_is 8 (codes "is_virtual") d s6.0 (told_member (codes "is_virtual") (u8_at (codes "is_virtual") d) s6.0 s6.1);
      pci_domain = number_is 16 (codes "domain") d s7.0 (told_member (codes "domain") (u16_at (codes "domain") d) s7.0 s7.1);
      root_head = refl;
    })

root_ok : (r : Result CellConfig JsonFault) (x : CellConfig) → root_of r ≡ Ok x → r ≡ Ok x
root_ok (Ok y) x h = h
root_ok (Err fault) x h = cc

root_by : (d : Data) (o : Option Data) → get (codes "root") d ≡ o → (x : CellConfig) → root_in o ≡ Ok x → (root : Data) × (get (codes "root") d ≡ Some root) × IsCellOf root x
root_by d None is x h = cc
root_by d (Some root) is x h = (root, is, cell_fields cell_names root x (root_ok (cell_told cell_names root) x h))

pub system_fields : (d : Data) (x : SystemConfig) → system_told d ≡ Ok x → IsSystemOf d x
unfolding system_told
system_fields d x h =
    let s1 = steps (platform_told d) _ x h in
    let s2 = steps (root_told d) _ x s1.2 in
    let s3 = steps (all_listed (codes "kind" ∷ system_names) d) _ x s2.2 in
    subst (IsSystemOf d) (same_Ok _ x s3.2) (record {
      platform = platform_fields d s1.0 s1.1;
      root = root_by d (get (codes "root") d) refl s2.0 s2.1;
    })
