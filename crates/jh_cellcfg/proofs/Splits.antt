-- Where two spellings with something behind them are equal, both the records and what is behind are.
use Rattle.std.proofs.Common.{◌≡◌, ℕ, ◌<◌, ◌^◌, List, [], ◌∷◌, ◌++◌, length, take, drop, refl, sym, ap, ◌∙◌, append_assoc, arith}
use Rattle.std.specs.Int.{w16, w32, w64, from_le_bytes}
use Rattle.std.specs.List.{flat_map, AllByRecursion}
use Rattle.std.proofs.lemmas.List.{take_at, drop_at}
use Rattle.std.proofs.lemmas.Nat.{from_le_bytes-to_le_bytes_2, from_le_bytes-to_le_bytes_4, from_le_bytes-to_le_bytes_8}
use Rattle.jh_cellcfg.specs.declared.config.PciDevice.{PciDevice}
use Rattle.jh_cellcfg.specs.Spelling.{u8_bytes, u16_bytes, u32_bytes, u64_bytes, region_bytes, irqchip_bytes, device_bytes, counts_bytes, header_bytes}
use Rattle.jh_cellcfg.proofs.Headers.{behind_name, regrouped}
use Rattle.jh_cellcfg.specs.Typed.{IsRegion, IsIrqchip, IsDevice, AreCounts, IsHeader}

-- two records and what stands behind them
pub record Same {R : Type 0} (a b : R) (x y : List ℕ) : Type 0 where
  pub record_is : a ≡ b
  pub rest_is : x ≡ y

-- a spelling that ends by itself
abbrev pub Splits : {R : Type 0} → (R → List ℕ) → (R → Type 0) → Type 0
Splits {R = R} f Fits = (a b : R) (x y : List ℕ) → Fits a → Fits b → f a ++ x ≡ f b ++ y → Same a b x y

pub u8_splits : (a b : ℕ) (x y : List ℕ) → a ∷ x ≡ b ∷ y → Same a b x y
u8_splits a b x y e = record { record_is = cc; rest_is = cc }

pub u16_splits : Splits u16_bytes (λ n. n < 2 ^ 16)
u16_splits a b x y fa fb e = record {
  record_is = sym (from_le_bytes-to_le_bytes_2 a fa) ∙ ap (λ (l : List ℕ). from_le_bytes w16 (take 2 l)) e ∙ from_le_bytes-to_le_bytes_2 b fb;
  rest_is = ap (drop 2) e;
}

pub u32_splits : Splits u32_bytes (λ n. n < 2 ^ 32)
u32_splits a b x y fa fb e = record {
  record_is = sym (from_le_bytes-to_le_bytes_4 a fa) ∙ ap (λ (l : List ℕ). from_le_bytes w32 (take 4 l)) e ∙ from_le_bytes-to_le_bytes_4 b fb;
  rest_is = ap (drop 4) e;
}

pub u64_splits : Splits u64_bytes (λ n. n < 2 ^ 64)
u64_splits a b x y fa fb e = record {
  record_is = sym (from_le_bytes-to_le_bytes_8 a fa) ∙ ap (λ (l : List ℕ). from_le_bytes w64 (take 8 l)) e ∙ from_le_bytes-to_le_bytes_8 b fb;
  rest_is = ap (drop 8) e;
}

pub array_splits : (n : ℕ) → Splits (λ (bytes : List ℕ). bytes) (λ bytes. length bytes ≡ n)
array_splits n a b x y fa fb e = record {
  record_is = sym (take_at a x n fa) ∙ ap (take n) e ∙ take_at b y n fb;
  rest_is = sym (drop_at a x n fa) ∙ ap (drop n) e ∙ drop_at b y n fb;
}

pub list_splits : {R : Type 0} (f : R → List ℕ) (Fits : R → Type 0) → Splits f Fits → (xs ys : List R) (x y : List ℕ)
    → AllByRecursion Fits xs → AllByRecursion Fits ys → length xs ≡ length ys → flat_map f xs ++ x ≡ flat_map f ys ++ y → Same xs ys x y
list_splits f Fits one [] [] x y fa fb len e = record { record_is = refl; rest_is = e }
list_splits f Fits one [] (b ∷ bs) x y fa fb len e = absurd (omega arith)
list_splits f Fits one (a ∷ as') [] x y fa fb len e = absurd (omega arith)
list_splits f Fits one (a ∷ as') (b ∷ bs) x y fa fb len e =
    let regrouped : f a ++ (flat_map f as' ++ x) ≡ f b ++ (flat_map f bs ++ y) = sym (append_assoc (f a) (flat_map f as') x) ∙ e ∙ append_assoc (f b) (flat_map f bs) y in
    let first = one a b (flat_map f as' ++ x) (flat_map f bs ++ y) fa.0 fb.0 regrouped in
    let others = list_splits f Fits one as' bs x y fa.1 fb.1 (omega arith) first.rest_is in
    record { record_is = λ i. first.record_is i ∷ others.record_is i; rest_is = others.rest_is }

pub region_splits : Splits region_bytes IsRegion
region_splits a b x y fa fb e =
    let p = u64_splits a.phys_start b.phys_start (u64_bytes a.virt_start ++ (u64_bytes a.size ++ (u64_bytes a.flags ++ x))) (u64_bytes b.virt_start ++ (u64_bytes b.size ++ (u64_bytes b.flags ++ y))) fa.phys_start fb.phys_start e in
    let q = u64_splits a.virt_start b.virt_start (u64_bytes a.size ++ (u64_bytes a.flags ++ x)) (u64_bytes b.size ++ (u64_bytes b.flags ++ y)) fa.virt_start fb.virt_start p.rest_is in
    let r = u64_splits a.size b.size (u64_bytes a.flags ++ x) (u64_bytes b.flags ++ y) fa.size fb.size q.rest_is in
    let s = u64_splits a.flags b.flags x y fa.flags fb.flags r.rest_is in
    record { record_is = λ i. record { phys_start = p.record_is i; virt_start = q.record_is i; size = r.record_is i; flags = s.record_is i }; rest_is = s.rest_is }

pub irqchip_splits : Splits irqchip_bytes IsIrqchip
irqchip_splits a b x y fa fb e =
    let p = u64_splits a.address b.address (u32_bytes a.id ++ (u32_bytes a.pin_base ++ (flat_map u32_bytes a.pin_bitmap ++ x))) (u32_bytes b.id ++ (u32_bytes b.pin_base ++ (flat_map u32_bytes b.pin_bitmap ++ y))) fa.address fb.address e in
    let q = u32_splits a.id b.id (u32_bytes a.pin_base ++ (flat_map u32_bytes a.pin_bitmap ++ x)) (u32_bytes b.pin_base ++ (flat_map u32_bytes b.pin_bitmap ++ y)) fa.id fb.id p.rest_is in
    let r = u32_splits a.pin_base b.pin_base (flat_map u32_bytes a.pin_bitmap ++ x) (flat_map u32_bytes b.pin_bitmap ++ y) fa.pin_base fb.pin_base q.rest_is in
    let s = list_splits u32_bytes (λ n. n < 2 ^ 32) u32_splits a.pin_bitmap b.pin_bitmap x y fa.pin_bitmap.each fb.pin_bitmap.each (fa.pin_bitmap.count ∙ sym fb.pin_bitmap.count) r.rest_is in
    record { record_is = λ i. record { address = p.record_is i; id = q.record_is i; pin_base = r.record_is i; pin_bitmap = s.record_is i }; rest_is = s.rest_is }

-- a device's bytes behind its mask
abbrev pub behind_mask : PciDevice → List ℕ
behind_mask d =
    u16_bytes d.caps_start ++ (u16_bytes d.num_caps ++ (u8_bytes d.num_msi_vectors ++ (u8_bytes d.msi_bits ++ (u16_bytes d.num_msix_vectors
    ++ (u16_bytes d.msix_region_size ++ (u64_bytes d.msix_address ++ (u32_bytes d.shmem_regions_start ++ (u8_bytes d.shmem_dev_id ++ (u8_bytes d.shmem_peers ++ u16_bytes d.shmem_protocol)))))))))

pub device_splits : Splits device_bytes IsDevice
device_splits a b x y fa fb e =
    let s_kind = u8_splits a.kind b.kind _ _ e in
    let s_iommu = u8_splits a.iommu b.iommu _ _ s_kind.rest_is in
    let s_domain = u16_splits a.domain b.domain _ _ fa.domain fb.domain s_iommu.rest_is in
    let s_bdf = u16_splits a.bdf b.bdf _ _ fa.bdf fb.bdf s_domain.rest_is in
    let mask = flat_map u32_bytes in
    let s_bar_mask = list_splits u32_bytes (λ n. n < 2 ^ 32) u32_splits a.bar_mask b.bar_mask (behind_mask a ++ x) (behind_mask b ++ y) fa.bar_mask.each fb.bar_mask.each (fa.bar_mask.count ∙ sym fb.bar_mask.count)
    (sym (append_assoc (mask a.bar_mask) (behind_mask a) x) ∙ s_bdf.rest_is ∙ append_assoc (mask b.bar_mask) (behind_mask b) y) in
    let s_caps_start = u16_splits a.caps_start b.caps_start _ _ fa.caps_start fb.caps_start s_bar_mask.rest_is in
    let s_num_caps = u16_splits a.num_caps b.num_caps _ _ fa.num_caps fb.num_caps s_caps_start.rest_is in
    let s_num_msi_vectors = u8_splits a.num_msi_vectors b.num_msi_vectors _ _ s_num_caps.rest_is in
    let s_msi_bits = u8_splits a.msi_bits b.msi_bits _ _ s_num_msi_vectors.rest_is in
    let s_num_msix_vectors = u16_splits a.num_msix_vectors b.num_msix_vectors _ _ fa.num_msix_vectors fb.num_msix_vectors s_msi_bits.rest_is in
    let s_msix_region_size = u16_splits a.msix_region_size b.msix_region_size _ _ fa.msix_region_size fb.msix_region_size s_num_msix_vectors.rest_is in
    let s_msix_address = u64_splits a.msix_address b.msix_address _ _ fa.msix_address fb.msix_address s_msix_region_size.rest_is in
    let s_shmem_regions_start = u32_splits a.shmem_regions_start b.shmem_regions_start _ _ fa.shmem_regions_start fb.shmem_regions_start s_msix_address.rest_is in
    let s_shmem_dev_id = u8_splits a.shmem_dev_id b.shmem_dev_id _ _ s_shmem_regions_start.rest_is in
    let s_shmem_peers = u8_splits a.shmem_peers b.shmem_peers _ _ s_shmem_dev_id.rest_is in
    let s_shmem_protocol = u16_splits a.shmem_protocol b.shmem_protocol _ _ fa.shmem_protocol fb.shmem_protocol s_shmem_peers.rest_is in
    record { record_is = λ i. record { kind = s_kind.record_is i; iommu = s_iommu.record_is i; domain = s_domain.record_is i; bdf = s_bdf.record_is i; bar_mask = s_bar_mask.record_is i; caps_start = s_caps_start.record_is i; num_caps = s_num_caps.record_is i; num_msi_vectors = s_num_msi_vectors.record_is i; msi_bits = s_msi_bits.record_is i; num_msix_vectors = s_num_msix_vectors.record_is i; msix_region_size = s_msix_region_size.record_is i; msix_address = s_msix_address.record_is i; shmem_regions_start = s_shmem_regions_start.record_is i; shmem_dev_id = s_shmem_dev_id.record_is i; shmem_peers = s_shmem_peers.record_is i; shmem_protocol = s_shmem_protocol.record_is i }; rest_is = s_shmem_protocol.rest_is }

pub counts_splits : Splits counts_bytes AreCounts
counts_splits a b x y fa fb e =
    let s_cpu_set = u32_splits a.cpu_set b.cpu_set _ _ fa.cpu_set fb.cpu_set e in
    let s_memory_regions = u32_splits a.memory_regions b.memory_regions _ _ fa.memory_regions fb.memory_regions s_cpu_set.rest_is in
    let s_cache_regions = u32_splits a.cache_regions b.cache_regions _ _ fa.cache_regions fb.cache_regions s_memory_regions.rest_is in
    let s_irqchips = u32_splits a.irqchips b.irqchips _ _ fa.irqchips fb.irqchips s_cache_regions.rest_is in
    let s_pio_regions = u32_splits a.pio_regions b.pio_regions _ _ fa.pio_regions fb.pio_regions s_irqchips.rest_is in
    let s_pci_devices = u32_splits a.pci_devices b.pci_devices _ _ fa.pci_devices fb.pci_devices s_pio_regions.rest_is in
    let s_pci_caps = u32_splits a.pci_caps b.pci_caps _ _ fa.pci_caps fb.pci_caps s_pci_devices.rest_is in
    let s_stream_ids = u32_splits a.stream_ids b.stream_ids _ _ fa.stream_ids fb.stream_ids s_pci_caps.rest_is in
    record { record_is = λ i. record { cpu_set = s_cpu_set.record_is i; memory_regions = s_memory_regions.record_is i; cache_regions = s_cache_regions.record_is i; irqchips = s_irqchips.record_is i; pio_regions = s_pio_regions.record_is i; pci_devices = s_pci_devices.record_is i; pci_caps = s_pci_caps.record_is i; stream_ids = s_stream_ids.record_is i }; rest_is = s_stream_ids.rest_is }

pub header_splits : Splits header_bytes IsHeader
header_splits a b x y fa fb e =
    let s_name = array_splits 32 a.name b.name (behind_name a x) (behind_name b y) fa.name fb.name (sym (regrouped a x) ∙ e ∙ regrouped b y) in
    let s_id = u32_splits a.id b.id _ _ fa.id fb.id s_name.rest_is in
    let s_flags = u32_splits a.flags b.flags _ _ fa.flags fb.flags s_id.rest_is in
    let s_counts = counts_splits a.counts b.counts _ _ fa.counts fb.counts s_flags.rest_is in
    let s_vpci_irq_base = u32_splits a.vpci_irq_base b.vpci_irq_base _ _ fa.vpci_irq_base fb.vpci_irq_base s_counts.rest_is in
    let s_cpu_reset_address = u64_splits a.cpu_reset_address b.cpu_reset_address _ _ fa.cpu_reset_address fb.cpu_reset_address s_vpci_irq_base.rest_is in
    let s_msg_reply_timeout = u64_splits a.msg_reply_timeout b.msg_reply_timeout _ _ fa.msg_reply_timeout fb.msg_reply_timeout s_cpu_reset_address.rest_is in
    let s_console = array_splits 32 a.console b.console x y fa.console fb.console s_msg_reply_timeout.rest_is in
    record { record_is = λ i. record { name = s_name.record_is i; id = s_id.record_is i; flags = s_flags.record_is i; counts = s_counts.record_is i; vpci_irq_base = s_vpci_irq_base.record_is i; cpu_reset_address = s_cpu_reset_address.record_is i; msg_reply_timeout = s_msg_reply_timeout.record_is i; console = s_console.record_is i }; rest_is = s_console.rest_is }
