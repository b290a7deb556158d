-- A spelling tells its configuration: each field stands where it is looked for.
use Rattle.std.proofs.Common.{◌≡◌, ℕ, zero, suc, ◌+◌, ◌*◌, ◌<◌, ◌^◌, List, [], ◌∷◌, ◌++◌, length, get_or, take, drop, Result, Ok, Err, refl, sym, ap, ◌∙◌, append_assoc, arith}
use Rattle.std.specs.Prelude.{IfOk}
use Rattle.std.specs.Int.{w16, w32, w64, from_le_bytes}
use Rattle.std.specs.List.{flat_map, AllByRecursion}
use Rattle.std.proofs.lemmas.List.{take_at, drop_at, drop-drop, append-nil, get_or-drop}
use Rattle.std.proofs.lemmas.Nat.{from_le_bytes-to_le_bytes_2, from_le_bytes-to_le_bytes_4, from_le_bytes-to_le_bytes_8}
use Rattle.jh_cellcfg.specs.declared.config.CellConfig.{CellConfig}
use Rattle.jh_cellcfg.specs.declared.config.Irqchip.{Irqchip}
use Rattle.jh_cellcfg.specs.declared.config.PciDevice.{PciDevice}
use Rattle.jh_cellcfg.specs.declared.fault.ConfigFault.{ConfigFault}
use Rattle.jh_cellcfg.specs.Spelling.{u16_bytes, u32_bytes, u64_bytes, region_bytes, irqchip_bytes, device_bytes, counts_of, header_of, header_bytes, parts_bytes, body_bytes, spelling}
use Rattle.jh_cellcfg.specs.Typed.{IsRegion, IsIrqchip, IsDevice, IsCell}
use Rattle.jh_cellcfg.specs.Limits.{IsWithinLimits}
use Rattle.jh_cellcfg.specs.Reading.{records, word_of, same_bytes, region_of, irqchip_of, device_of, config_with, config_of_body, config_of}
use Rattle.jh_cellcfg.proofs.Headers.{behind_name, regrouped, header_name, header_counts}
use Rattle.jh_cellcfg.proofs.Faultless.{header_fits, length_flat_map_each, length_words, length_irqchip_bytes, length_device_bytes, length_header_bytes}
use Rattle.jh_cellcfg.proofs.Splits.{behind_mask}

-- a record that is read as it is spelled, from so many bytes
record Reads {X : Type 0} (read : List ℕ → X) (f : X → List ℕ) (Fits : X → Type 0) (size : ℕ) : Type 0 where
  len : (x : X) → Fits x → length (f x) ≡ size
  back : (x : X) → Fits x → read (f x) ≡ x

-- records one behind another
records_back : {X : Type 0} (read : List ℕ → X) (f : X → List ℕ) (Fits : X → Type 0) (size : ℕ) → Reads read f Fits size
    → (n : ℕ) (xs : List X) (rest : List ℕ) → AllByRecursion Fits xs → length xs ≡ n → records read size n (flat_map f xs ++ rest) ≡ xs
records_back read f Fits size one zero [] rest all count = refl
records_back read f Fits size one (suc n) [] rest all count = absurd (omega arith)
records_back read f Fits size one zero (x ∷ xs) rest all count = absurd (omega arith)
records_back read f Fits size one (suc n) (x ∷ xs) rest all count =
    let more = flat_map f xs ++ rest in
    let whole : flat_map f (x ∷ xs) ++ rest ≡ f x ++ more = append_assoc (f x) (flat_map f xs) rest in
    let len = one.len x all.0 in
    let here : read (take size (flat_map f (x ∷ xs) ++ rest)) ≡ x = ap (λ l. read (take size l)) whole ∙ ap read (take_at (f x) more size len) ∙ one.back x all.0 in
    let behind : drop size (flat_map f (x ∷ xs) ++ rest) ≡ more = ap (drop size) whole ∙ drop_at (f x) more size len in
    let others : records read size n (drop size (flat_map f (x ∷ xs) ++ rest)) ≡ xs = ap (records read size n) behind ∙ records_back read f Fits size one n xs rest all.1 (omega arith) in
    λ i. here i ∷ others i

-- what stands behind so many bytes
bytes_past : (front more : List ℕ) (len k size : ℕ) (value : List ℕ) → length front ≡ len → take size (drop k more) ≡ value → take size (drop (len + k) (front ++ more)) ≡ value
bytes_past front more len k size value is found =
    ap (take size) (sym (drop-drop k len (front ++ more)) ∙ ap (drop k) (drop_at front more len is)) ∙ found

u16_past : (front more : List ℕ) (len k n : ℕ) → length front ≡ len → take 2 (drop k more) ≡ u16_bytes n → n < 2 ^ 16 → from_le_bytes w16 (take 2 (drop (len + k) (front ++ more))) ≡ n
u16_past front more len k n is found lt = ap (from_le_bytes w16) (bytes_past front more len k 2 (u16_bytes n) is found) ∙ from_le_bytes-to_le_bytes_2 n lt

u32_past : (front more : List ℕ) (len k n : ℕ) → length front ≡ len → take 4 (drop k more) ≡ u32_bytes n → n < 2 ^ 32 → from_le_bytes w32 (take 4 (drop (len + k) (front ++ more))) ≡ n
u32_past front more len k n is found lt = ap (from_le_bytes w32) (bytes_past front more len k 4 (u32_bytes n) is found) ∙ from_le_bytes-to_le_bytes_4 n lt

u64_past : (front more : List ℕ) (len k n : ℕ) → length front ≡ len → take 8 (drop k more) ≡ u64_bytes n → n < 2 ^ 64 → from_le_bytes w64 (take 8 (drop (len + k) (front ++ more))) ≡ n
u64_past front more len k n is found lt = ap (from_le_bytes w64) (bytes_past front more len k 8 (u64_bytes n) is found) ∙ from_le_bytes-to_le_bytes_8 n lt

u8_past : (front more : List ℕ) (len k n : ℕ) → length front ≡ len → get_or more k 0 ≡ n → get_or (front ++ more) (len + k) 0 ≡ n
u8_past front more len k n is found = sym (get_or-drop len (front ++ more) k 0) ∙ ap (λ (l : List ℕ). get_or l k 0) (drop_at front more len is) ∙ found

word_reads : Reads word_of u32_bytes (λ n. n < 2 ^ 32) 4
word_reads = record { len = λ n lt. refl; back = λ n lt. from_le_bytes-to_le_bytes_4 n lt }

bytes_read : (size : ℕ) → Reads same_bytes (λ (bytes : List ℕ). bytes) (λ bytes. length bytes ≡ size) size
bytes_read size = record { len = λ bytes is. is; back = λ bytes is. refl }

region_reads : Reads region_of region_bytes IsRegion 32
region_reads = record {
  len = λ r fits. refl;
  back = λ r fits. λ i. record {
    phys_start = from_le_bytes-to_le_bytes_8 r.phys_start fits.phys_start i;
    virt_start = from_le_bytes-to_le_bytes_8 r.virt_start fits.virt_start i;
    size = from_le_bytes-to_le_bytes_8 r.size fits.size i;
    flags = from_le_bytes-to_le_bytes_8 r.flags fits.flags i;
  };
}

irqchip_back : (c : Irqchip) → IsIrqchip c → irqchip_of (irqchip_bytes c) ≡ c
irqchip_back c fits =
    let words : records word_of 4 4 (flat_map u32_bytes c.pin_bitmap) ≡ c.pin_bitmap
    = ap (records word_of 4 4) (sym (append-nil (flat_map u32_bytes c.pin_bitmap))) ∙ records_back word_of u32_bytes (λ n. n < 2 ^ 32) 4 word_reads 4 c.pin_bitmap [] fits.pin_bitmap.each fits.pin_bitmap.count in
    λ i. record {
      address = from_le_bytes-to_le_bytes_8 c.address fits.address i;
      id = from_le_bytes-to_le_bytes_4 c.id fits.id i;
      pin_base = from_le_bytes-to_le_bytes_4 c.pin_base fits.pin_base i;
      pin_bitmap = words i;
    }

irqchip_reads : Reads irqchip_of irqchip_bytes IsIrqchip 32
irqchip_reads = record { len = length_irqchip_bytes; back = irqchip_back }

device_back : (d : PciDevice) → IsDevice d → device_of (device_bytes d) ≡ d
device_back d fits =
    let mask = flat_map u32_bytes d.bar_mask in
    let more = behind_mask d in
    let len : length mask ≡ 24 = length_words 6 d.bar_mask fits.bar_mask in
    let words : records word_of 4 6 (mask ++ more) ≡ d.bar_mask
    = records_back word_of u32_bytes (λ n. n < 2 ^ 32) 4 word_reads 6 d.bar_mask more fits.bar_mask.each fits.bar_mask.count in
    λ i. record {
      kind = d.kind;
      iommu = d.iommu;
      domain = from_le_bytes-to_le_bytes_2 d.domain fits.domain i;
      bdf = from_le_bytes-to_le_bytes_2 d.bdf fits.bdf i;
      bar_mask = words i;
      caps_start = u16_past mask more 24 0 d.caps_start len refl fits.caps_start i;
      num_caps = u16_past mask more 24 2 d.num_caps len refl fits.num_caps i;
      num_msi_vectors = u8_past mask more 24 4 d.num_msi_vectors len refl i;
      msi_bits = u8_past mask more 24 5 d.msi_bits len refl i;
      num_msix_vectors = u16_past mask more 24 6 d.num_msix_vectors len refl fits.num_msix_vectors i;
      msix_region_size = u16_past mask more 24 8 d.msix_region_size len refl fits.msix_region_size i;
      msix_address = u64_past mask more 24 10 d.msix_address len refl fits.msix_address i;
      shmem_regions_start = u32_past mask more 24 18 d.shmem_regions_start len refl fits.shmem_regions_start i;
      shmem_dev_id = u8_past mask more 24 22 d.shmem_dev_id len refl i;
      shmem_peers = u8_past mask more 24 23 d.shmem_peers len refl i;
      shmem_protocol = u16_past mask more 24 24 d.shmem_protocol len refl fits.shmem_protocol i;
    }

device_reads : Reads device_of device_bytes IsDevice 56
device_reads = record { len = length_device_bytes; back = device_back }

-- what stands behind a part
next : (body : List ℕ) (place size : ℕ) (part rest : List ℕ) → drop place body ≡ part ++ rest → length part ≡ size → drop (place + size) body ≡ rest
next body place size part rest is len = sym (drop-drop size place body) ∙ ap (drop size) is ∙ drop_at part rest size len

config_with_back : (c : CellConfig) → IsCell c → IsWithinLimits c → config_with (counts_of c) (body_bytes c) ≡ c
config_with_back c cell limits =
    let h = header_of c in
    let fits = header_fits c cell limits in
    let body = body_bytes c in
    let parts = parts_bytes c in
    let more = behind_name h parts in
    let named : body ≡ h.name ++ more = regrouped h parts in
    let ids = flat_map u32_bytes c.stream_ids in
    let caps = flat_map (λ (bytes : List ℕ). bytes) c.pci_caps in
    let devices = flat_map device_bytes c.pci_devices in
    let ports = flat_map (λ (bytes : List ℕ). bytes) c.pio_regions in
    let chips = flat_map irqchip_bytes c.irqchips in
    let caches = flat_map (λ (bytes : List ℕ). bytes) c.cache_regions in
    let regions = flat_map region_bytes c.memory_regions in
    let behind_devices = caps ++ ids in
    let behind_ports = devices ++ behind_devices in
    let behind_chips = ports ++ behind_ports in
    let behind_caches = chips ++ behind_chips in
    let behind_regions = caches ++ behind_caches in
    let behind_cpus = regions ++ behind_regions in
    let n = counts_of c in
    let regions_at = 124 + n.cpu_set in
    let caches_at = regions_at + 32 * n.memory_regions in
    let chips_at = caches_at + 12 * n.cache_regions in
    let ports_at = chips_at + 32 * n.irqchips in
    let devices_at = ports_at + 4 * n.pio_regions in
    let caps_at = devices_at + 56 * n.pci_devices in
    let streams_at = caps_at + 8 * n.pci_caps in
    let at_cpus : drop 124 body ≡ parts = drop_at (header_bytes h) parts 124 (length_header_bytes h fits) in
    let at_regions : drop regions_at body ≡ behind_cpus = next body 124 n.cpu_set c.cpu_set behind_cpus at_cpus refl in
    let at_caches : drop caches_at body ≡ behind_regions
    = next body regions_at (32 * n.memory_regions) regions behind_regions at_regions (length_flat_map_each region_bytes IsRegion 32 region_reads.len c.memory_regions cell.memory_regions) in
    let at_chips : drop chips_at body ≡ behind_caches
    = next body caches_at (12 * n.cache_regions) caches behind_caches at_caches (length_flat_map_each (λ (bytes : List ℕ). bytes) (λ bytes. length bytes ≡ 12) 12 (λ x h. h) c.cache_regions cell.cache_regions) in
    let at_ports : drop ports_at body ≡ behind_chips
    = next body chips_at (32 * n.irqchips) chips behind_chips at_chips (length_flat_map_each irqchip_bytes IsIrqchip 32 irqchip_reads.len c.irqchips cell.irqchips) in
    let at_devices : drop devices_at body ≡ behind_ports
    = next body ports_at (4 * n.pio_regions) ports behind_ports at_ports (length_flat_map_each (λ (bytes : List ℕ). bytes) (λ bytes. length bytes ≡ 4) 4 (λ x h. h) c.pio_regions cell.pio_regions) in
    let at_caps : drop caps_at body ≡ behind_devices
    = next body devices_at (56 * n.pci_devices) devices behind_devices at_devices (length_flat_map_each device_bytes IsDevice 56 device_reads.len c.pci_devices cell.pci_devices) in
    let at_streams : drop streams_at body ≡ ids ++ []
    = next body caps_at (8 * n.pci_caps) caps ids at_caps (length_flat_map_each (λ (bytes : List ℕ). bytes) (λ bytes. length bytes ≡ 8) 8 (λ x h. h) c.pci_caps cell.pci_caps) ∙ sym (append-nil ids) in
    let s_id = ap (λ (l : List ℕ). from_le_bytes w32 (take 4 (drop 32 l))) named ∙ u32_past h.name more 32 0 c.id fits.name refl fits.id in
    let s_flags = ap (λ (l : List ℕ). from_le_bytes w32 (take 4 (drop 36 l))) named ∙ u32_past h.name more 32 4 c.flags fits.name refl fits.flags in
    let s_vpci_irq_base = ap (λ (l : List ℕ). from_le_bytes w32 (take 4 (drop 72 l))) named ∙ u32_past h.name more 32 40 c.vpci_irq_base fits.name refl fits.vpci_irq_base in
    let s_cpu_reset_address = ap (λ (l : List ℕ). from_le_bytes w64 (take 8 (drop 76 l))) named ∙ u64_past h.name more 32 44 c.cpu_reset_address fits.name refl fits.cpu_reset_address in
    let s_msg_reply_timeout = ap (λ (l : List ℕ). from_le_bytes w64 (take 8 (drop 84 l))) named ∙ u64_past h.name more 32 52 c.msg_reply_timeout fits.name refl fits.msg_reply_timeout in
    let s_console = ap (λ (l : List ℕ). take 32 (drop 92 l)) named ∙ bytes_past h.name more 32 60 32 c.console fits.name (take_at c.console parts 32 fits.console) in
    let s_cpu_set = ap (take n.cpu_set) at_cpus ∙ take_at c.cpu_set behind_cpus n.cpu_set refl in
    let s_memory_regions = ap (records region_of 32 n.memory_regions) at_regions ∙ records_back region_of region_bytes IsRegion 32 region_reads n.memory_regions c.memory_regions behind_regions cell.memory_regions refl in
    let s_cache_regions = ap (records same_bytes 12 n.cache_regions) at_caches ∙ records_back same_bytes (λ (bytes : List ℕ). bytes) (λ bytes. length bytes ≡ 12) 12 (bytes_read 12) n.cache_regions c.cache_regions behind_caches cell.cache_regions refl in
    let s_irqchips = ap (records irqchip_of 32 n.irqchips) at_chips ∙ records_back irqchip_of irqchip_bytes IsIrqchip 32 irqchip_reads n.irqchips c.irqchips behind_chips cell.irqchips refl in
    let s_pio_regions = ap (records same_bytes 4 n.pio_regions) at_ports ∙ records_back same_bytes (λ (bytes : List ℕ). bytes) (λ bytes. length bytes ≡ 4) 4 (bytes_read 4) n.pio_regions c.pio_regions behind_ports cell.pio_regions refl in
    let s_pci_devices = ap (records device_of 56 n.pci_devices) at_devices ∙ records_back device_of device_bytes IsDevice 56 device_reads n.pci_devices c.pci_devices behind_devices cell.pci_devices refl in
    let s_pci_caps = ap (records same_bytes 8 n.pci_caps) at_caps ∙ records_back same_bytes (λ (bytes : List ℕ). bytes) (λ bytes. length bytes ≡ 8) 8 (bytes_read 8) n.pci_caps c.pci_caps ids cell.pci_caps refl in
    let s_stream_ids = ap (records word_of 4 n.stream_ids) at_streams ∙ records_back word_of u32_bytes (λ n. n < 2 ^ 32) 4 word_reads n.stream_ids c.stream_ids [] cell.stream_ids refl in
    λ i. record {
      name = header_name h parts fits i;
      id = s_id i;
      flags = s_flags i;
      vpci_irq_base = s_vpci_irq_base i;
      cpu_reset_address = s_cpu_reset_address i;
      msg_reply_timeout = s_msg_reply_timeout i;
      console = s_console i;
      cpu_set = s_cpu_set i;
      memory_regions = s_memory_regions i;
      cache_regions = s_cache_regions i;
      irqchips = s_irqchips i;
      pio_regions = s_pio_regions i;
      pci_devices = s_pci_devices i;
      pci_caps = s_pci_caps i;
      stream_ids = s_stream_ids i;
    }

pub body_told : (c : CellConfig) → IsCell c → IsWithinLimits c → config_of_body (body_bytes c) ≡ c
unfolding config_of_body
body_told c cell limits =
    ap (λ n. config_with n (body_bytes c)) (header_counts (header_of c) (parts_bytes c) (header_fits c cell limits)) ∙ config_with_back c cell limits

pub spelling_told : (c : CellConfig) → IsCell c → IsWithinLimits c → config_of (spelling c) ≡ c
unfolding config_of
spelling_told c cell limits = body_told c cell limits

-- what was read is what the bytes tell
pub told : (bytes : List ℕ) (r : Result CellConfig ConfigFault) → IfOk r IsCell → IfOk r IsWithinLimits → IfOk r (λ c. bytes ≡ spelling c) → IfOk r (λ c. c ≡ config_of bytes)
told bytes (Ok c) cell limits is = sym (spelling_told c cell limits) ∙ ap config_of (sym is)
told bytes (Err fault) cell limits is = tt
