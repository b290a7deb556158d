-- Bytes can be taken as fields: whatever bytes there are, they spell numbers, records and lists.
use Rattle.std.proofs.Common.{◌≡◌, ℕ, zero, suc, ◌+◌, ◌*◌, ◌<◌, ◌≤◌, ◌^◌, List, [], ◌∷◌, ◌++◌, length, get_or, take, drop, refl, sym, ap, ◌∙◌, append_assoc, length-append, arith, inl, inr}
use Rattle.std.specs.Int.{w16, w32, w64, from_le_bytes}
use Rattle.std.specs.List.{flat_map, AllByRecursion}
use Rattle.std.proofs.lemmas.Bool.{cases_lt}
use Rattle.std.proofs.lemmas.List.{take-append-drop, length-take, get_or-drop, get_or-take, get_or_past}
use Rattle.std.proofs.lemmas.Nat.{le_bytes_2, le_bytes_4, le_bytes_8}
use Rattle.std.proofs.Math.Nat.{mul-suc}
use Rattle.jh_cellcfg.specs.Spelling.{u8_bytes, u16_bytes, u32_bytes, u64_bytes, region_bytes, irqchip_bytes, device_bytes, counts_bytes, header_bytes}
use Rattle.jh_cellcfg.specs.Typed.{IsRegion, IsIrqchip, IsDevice, AreCounts, IsHeader}

abbrev pub IsBytes : List ℕ → Type 0
IsBytes bytes = (i : ℕ) → get_or bytes i 0 < 256

pub IsBytes_drop : (n : ℕ) (bytes : List ℕ) → IsBytes bytes → IsBytes (drop n bytes)
IsBytes_drop n bytes h i = rw get_or-drop (h (n + i))

pub IsBytes_take : (n : ℕ) (bytes : List ℕ) → IsBytes bytes → IsBytes (take n bytes)
IsBytes_take n bytes h i =
    elim (cases_lt i n) [
      | inl lt ↦ rw (get_or-take n bytes i 0 lt) (h i)
      | inr le ↦ rw (get_or_past (take n bytes) i 0 (omega (arith, length-take n bytes))) (omega arith)
    ]

-- what stands at the front
pub record Taken {R : Type 0} (f : R → List ℕ) (Fits : R → Type 0) (bytes : List ℕ) : Type 0 where
  pub value : R
  pub rest : List ℕ
  pub is : bytes ≡ f value ++ rest
  pub fits : Fits value
  pub more : IsBytes rest

-- a field of so many bytes, which can be taken from any
pub record Field {R : Type 0} (f : R → List ℕ) (Fits : R → Type 0) (size : ℕ) : Type 0 where
  pub len : (x : R) → Fits x → length (f x) ≡ size
  pub takes : (bytes : List ℕ) → IsBytes bytes → size ≤ length bytes → Taken f Fits bytes

pub u8_takes : (bytes : List ℕ) → IsBytes bytes → 1 ≤ length bytes → Taken u8_bytes (λ n. n < 2 ^ 8) bytes
u8_takes [] all long = absurd (omega arith)
u8_takes (b ∷ rest) all long = record { value = b; rest = rest; is = refl; fits = all 0; more = λ i. all (suc i) }

pub u8_field : Field u8_bytes (λ n. n < 2 ^ 8) 1
u8_field = record { len = λ x h. refl; takes = u8_takes }

pub u16_field : Field u16_bytes (λ n. n < 2 ^ 16) 2
u16_field = record {
  len = λ x h. refl;
  takes = λ bytes all long.
      let small : IsBytes (take 2 bytes) = IsBytes_take 2 bytes all in
      record {
        value = from_le_bytes w16 (take 2 bytes);
        rest = drop 2 bytes;
        is = sym (ap (λ (l : List ℕ). l ++ drop 2 bytes) (le_bytes_2 (take 2 bytes) _ (omega (arith, length-take 2 bytes)) small refl) ∙ take-append-drop 2 bytes);
        fits = omega (arith, small 0, small 1);
        more = IsBytes_drop 2 bytes all;
      };
}

pub u32_field : Field u32_bytes (λ n. n < 2 ^ 32) 4
u32_field = record {
  len = λ x h. refl;
  takes = λ bytes all long.
      let small : IsBytes (take 4 bytes) = IsBytes_take 4 bytes all in
      record {
        value = from_le_bytes w32 (take 4 bytes);
        rest = drop 4 bytes;
        is = sym (ap (λ (l : List ℕ). l ++ drop 4 bytes) (le_bytes_4 (take 4 bytes) _ (omega (arith, length-take 4 bytes)) small refl) ∙ take-append-drop 4 bytes);
        fits = omega (arith, small 0, small 1, small 2, small 3);
        more = IsBytes_drop 4 bytes all;
      };
}

pub u64_field : Field u64_bytes (λ n. n < 2 ^ 64) 8
u64_field = record {
  len = λ x h. refl;
  takes = λ bytes all long.
      let small : IsBytes (take 8 bytes) = IsBytes_take 8 bytes all in
      record {
        value = from_le_bytes w64 (take 8 bytes);
        rest = drop 8 bytes;
        is = sym (ap (λ (l : List ℕ). l ++ drop 8 bytes) (le_bytes_8 (take 8 bytes) _ (omega (arith, length-take 8 bytes)) small refl) ∙ take-append-drop 8 bytes);
        fits = omega (arith, small 0, small 1, small 2, small 3, small 4, small 5, small 6, small 7);
        more = IsBytes_drop 8 bytes all;
      };
}

pub array_field : (n : ℕ) → Field (λ (bytes : List ℕ). bytes) (λ bytes. length bytes ≡ n) n
array_field n = record {
  len = λ x h. h;
  takes = λ bytes all long. record {
    value = take n bytes;
    rest = drop n bytes;
    is = sym (take-append-drop n bytes);
    fits = omega (arith, length-take n bytes);
    more = IsBytes_drop n bytes all;
  };
}

-- one field behind another
pub both : {A B : Type 0} {f : A → List ℕ} {F : A → Type 0} {g : B → List ℕ} {G : B → Type 0} {k m : ℕ}
    → Field f F k → Field g G m → Field {R = A × B} (λ p. f p.0 ++ g p.1) (λ p. F p.0 × G p.1) (k + m)
both {f = f} {g = g} {k = k} {m = m} one two = record {
  len = λ p h. omega (arith, length-append (f p.0) (g p.1), one.len p.0 h.0, two.len p.1 h.1);
  takes = λ bytes all long.
      let a = one.takes bytes all (omega arith) in
      let left : length bytes ≡ k + length a.rest = ap length a.is ∙ omega (arith, length-append (f a.value) a.rest, one.len a.value a.fits) in
      let b = two.takes a.rest a.more (omega arith) in
      record {
        value = (a.value, b.value);
        rest = b.rest;
        is = a.is ∙ ap (λ (l : List ℕ). f a.value ++ l) b.is ∙ sym (append_assoc (f a.value) (g b.value) b.rest);
        fits = (a.fits, b.fits);
        more = b.more;
      };
}

list_takes : {R : Type 0} {f : R → List ℕ} {F : R → Type 0} {k : ℕ} → Field f F k → (n : ℕ) (bytes : List ℕ) → IsBytes bytes → k * n ≤ length bytes
    → Taken (flat_map f) (λ xs. AllByRecursion F xs × (length xs ≡ n)) bytes
list_takes one zero bytes all long = record { value = []; rest = bytes; is = refl; fits = (tt, refl); more = all }
list_takes {f = f} {k = k} one (suc n) bytes all long =
    let sizes : k * suc n ≡ k * n + k = mul-suc k n in
    let a = one.takes bytes all (omega arith) in
    let left : length bytes ≡ k + length a.rest = ap length a.is ∙ omega (arith, length-append (f a.value) a.rest, one.len a.value a.fits) in
    let b = list_takes one n a.rest a.more (omega arith) in
    record {
      value = a.value ∷ b.value;
      rest = b.rest;
      is = a.is ∙ ap (λ (l : List ℕ). f a.value ++ l) b.is ∙ sym (append_assoc (f a.value) (flat_map f b.value) b.rest);
      fits = ((a.fits, b.fits.0), ap suc b.fits.1);
      more = b.more;
    }

length_list : {R : Type 0} {f : R → List ℕ} {F : R → Type 0} {k : ℕ} → Field f F k → (xs : List R) → AllByRecursion F xs → length (flat_map f xs) ≡ k * length xs
length_list one [] all = omega arith
length_list {f = f} {k = k} one (x ∷ xs) all =
    let first = one.len x all.0 in
    let others = length_list one xs all.1 in
    let more : k * suc (length xs) ≡ k * length xs + k = mul-suc k (length xs) in
    omega (arith, length-append (f x) (flat_map f xs))

-- so many records, one behind the other
pub list_field : {R : Type 0} {f : R → List ℕ} {F : R → Type 0} {k : ℕ} (n : ℕ) → Field f F k → Field (flat_map f) (λ xs. AllByRecursion F xs × (length xs ≡ n)) (k * n)
list_field {k = k} n one = record {
  len = λ xs h. length_list one xs h.0 ∙ ap (λ (m : ℕ). k * m) h.1;
  takes = list_takes one n;
}

pub region_field : Field region_bytes IsRegion 32
region_field =
    let parts = (both u64_field (both u64_field (both u64_field u64_field))) in
    record {
      len = λ x h. parts.len (x.phys_start, (x.virt_start, (x.size, x.flags))) (h.phys_start, (h.virt_start, (h.size, h.flags)));
      takes = λ bytes all long.
          let t = parts.takes bytes all long in
          record {
            value = record { phys_start = t.value.0; virt_start = t.value.1.0; size = t.value.1.1.0; flags = t.value.1.1.1 };
            rest = t.rest;
            is = t.is;
            fits = record { phys_start = t.fits.0; virt_start = t.fits.1.0; size = t.fits.1.1.0; flags = t.fits.1.1.1 };
            more = t.more;
          };
    }

pub irqchip_field : Field irqchip_bytes IsIrqchip 32
irqchip_field =
    let parts = (both u64_field (both u32_field (both u32_field (list_field 4 u32_field)))) in
    record {
      len = λ x h. parts.len (x.address, (x.id, (x.pin_base, x.pin_bitmap))) (h.address, (h.id, (h.pin_base, (h.pin_bitmap.each, h.pin_bitmap.count))));
      takes = λ bytes all long.
          let t = parts.takes bytes all long in
          record {
            value = record { address = t.value.0; id = t.value.1.0; pin_base = t.value.1.1.0; pin_bitmap = t.value.1.1.1 };
            rest = t.rest;
            is = t.is;
            fits = record { address = t.fits.0; id = t.fits.1.0; pin_base = t.fits.1.1.0; pin_bitmap = record { count = t.fits.1.1.1.1; each = t.fits.1.1.1.0 } };
            more = t.more;
          };
    }

pub device_field : Field device_bytes IsDevice 56
device_field =
    let parts = (both u8_field (both u8_field (both u16_field (both u16_field (both (list_field 6 u32_field) (both u16_field (both u16_field (both u8_field (both u8_field (both u16_field (both u16_field (both u64_field (both u32_field (both u8_field (both u8_field u16_field))))))))))))))) in
    record {
      len = λ x h. parts.len (x.kind, (x.iommu, (x.domain, (x.bdf, (x.bar_mask, (x.caps_start, (x.num_caps, (x.num_msi_vectors, (x.msi_bits, (x.num_msix_vectors, (x.msix_region_size, (x.msix_address, (x.shmem_regions_start, (x.shmem_dev_id, (x.shmem_peers, x.shmem_protocol))))))))))))))) (h.kind, (h.iommu, (h.domain, (h.bdf, ((h.bar_mask.each, h.bar_mask.count), (h.caps_start, (h.num_caps, (h.num_msi_vectors, (h.msi_bits, (h.num_msix_vectors, (h.msix_region_size, (h.msix_address, (h.shmem_regions_start, (h.shmem_dev_id, (h.shmem_peers, h.shmem_protocol)))))))))))))));
      takes = λ bytes all long.
          let t = parts.takes bytes all long in
          record {
            value = record { kind = t.value.0; iommu = t.value.1.0; domain = t.value.1.1.0; bdf = t.value.1.1.1.0; bar_mask = t.value.1.1.1.1.0; caps_start = t.value.1.1.1.1.1.0; num_caps = t.value.1.1.1.1.1.1.0; num_msi_vectors = t.value.1.1.1.1.1.1.1.0; msi_bits = t.value.1.1.1.1.1.1.1.1.0; num_msix_vectors = t.value.1.1.1.1.1.1.1.1.1.0; msix_region_size = t.value.1.1.1.1.1.1.1.1.1.1.0; msix_address = t.value.1.1.1.1.1.1.1.1.1.1.1.0; shmem_regions_start = t.value.1.1.1.1.1.1.1.1.1.1.1.1.0; shmem_dev_id = t.value.1.1.1.1.1.1.1.1.1.1.1.1.1.0; shmem_peers = t.value.1.1.1.1.1.1.1.1.1.1.1.1.1.1.0; shmem_protocol = t.value.1.1.1.1.1.1.1.1.1.1.1.1.1.1.1 };
            rest = t.rest;
            is = t.is;
            fits = record { kind = t.fits.0; iommu = t.fits.1.0; domain = t.fits.1.1.0; bdf = t.fits.1.1.1.0; bar_mask = record { count = t.fits.1.1.1.1.0.1; each = t.fits.1.1.1.1.0.0 }; caps_start = t.fits.1.1.1.1.1.0; num_caps = t.fits.1.1.1.1.1.1.0; num_msi_vectors = t.fits.1.1.1.1.1.1.1.0; msi_bits = t.fits.1.1.1.1.1.1.1.1.0; num_msix_vectors = t.fits.1.1.1.1.1.1.1.1.1.0; msix_region_size = t.fits.1.1.1.1.1.1.1.1.1.1.0; msix_address = t.fits.1.1.1.1.1.1.1.1.1.1.1.0; shmem_regions_start = t.fits.1.1.1.1.1.1.1.1.1.1.1.1.0; shmem_dev_id = t.fits.1.1.1.1.1.1.1.1.1.1.1.1.1.0; shmem_peers = t.fits.1.1.1.1.1.1.1.1.1.1.1.1.1.1.0; shmem_protocol = t.fits.1.1.1.1.1.1.1.1.1.1.1.1.1.1.1 };
            more = t.more;
          };
    }

pub counts_field : Field counts_bytes AreCounts 32
counts_field =
    let parts = (both u32_field (both u32_field (both u32_field (both u32_field (both u32_field (both u32_field (both u32_field u32_field))))))) in
    record {
      len = λ x h. parts.len (x.cpu_set, (x.memory_regions, (x.cache_regions, (x.irqchips, (x.pio_regions, (x.pci_devices, (x.pci_caps, x.stream_ids))))))) (h.cpu_set, (h.memory_regions, (h.cache_regions, (h.irqchips, (h.pio_regions, (h.pci_devices, (h.pci_caps, h.stream_ids)))))));
      takes = λ bytes all long.
          let t = parts.takes bytes all long in
          record {
            value = record { cpu_set = t.value.0; memory_regions = t.value.1.0; cache_regions = t.value.1.1.0; irqchips = t.value.1.1.1.0; pio_regions = t.value.1.1.1.1.0; pci_devices = t.value.1.1.1.1.1.0; pci_caps = t.value.1.1.1.1.1.1.0; stream_ids = t.value.1.1.1.1.1.1.1 };
            rest = t.rest;
            is = t.is;
            fits = record { cpu_set = t.fits.0; memory_regions = t.fits.1.0; cache_regions = t.fits.1.1.0; irqchips = t.fits.1.1.1.0; pio_regions = t.fits.1.1.1.1.0; pci_devices = t.fits.1.1.1.1.1.0; pci_caps = t.fits.1.1.1.1.1.1.0; stream_ids = t.fits.1.1.1.1.1.1.1 };
            more = t.more;
          };
    }

pub header_field : Field header_bytes IsHeader 124
header_field =
    let parts = (both (array_field 32) (both u32_field (both u32_field (both counts_field (both u32_field (both u64_field (both u64_field (array_field 32)))))))) in
    record {
      len = λ x h. parts.len (x.name, (x.id, (x.flags, (x.counts, (x.vpci_irq_base, (x.cpu_reset_address, (x.msg_reply_timeout, x.console))))))) (h.name, (h.id, (h.flags, (h.counts, (h.vpci_irq_base, (h.cpu_reset_address, (h.msg_reply_timeout, h.console)))))));
      takes = λ bytes all long.
          let t = parts.takes bytes all long in
          record {
            value = record { name = t.value.0; id = t.value.1.0; flags = t.value.1.1.0; counts = t.value.1.1.1.0; vpci_irq_base = t.value.1.1.1.1.0; cpu_reset_address = t.value.1.1.1.1.1.0; msg_reply_timeout = t.value.1.1.1.1.1.1.0; console = t.value.1.1.1.1.1.1.1 };
            rest = t.rest;
            is = t.is;
            fits = record { name = t.fits.0; id = t.fits.1.0; flags = t.fits.1.1.0; counts = t.fits.1.1.1.0; vpci_irq_base = t.fits.1.1.1.1.0; cpu_reset_address = t.fits.1.1.1.1.1.0; msg_reply_timeout = t.fits.1.1.1.1.1.1.0; console = t.fits.1.1.1.1.1.1.1 };
            more = t.more;
          };
    }
