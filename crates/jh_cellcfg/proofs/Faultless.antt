-- What the format promises of all configurations: one spelling each, which has no fault.
use Rattle.std.proofs.Common.{◌≡◌, ℕ, suc, ◌+◌, ◌-◌, ◌*◌, ◌<◌, ◌≤◌, ◌^◌, Bool, false, not, ◌==◌, List, [], ◌∷◌, ◌++◌, length, take, drop, Option, None, Result, Ok, Err, refl, sym, ap, subst, ◌∙◌, length-append, arith}
use Rattle.std.specs.Prelude.{nat_lt, nat_eq, codes, IfOk}
use Rattle.std.proofs.lemmas.Bool.{le-ltb, ne_eqb}
use Rattle.std.proofs.Math.Nat.{mul-suc}
use Rattle.std.specs.List.{flat_map, starts_with, AllByRecursion}
use Rattle.std.specs.Int.{w16, from_le_bytes}
use Rattle.std.proofs.lemmas.Bool.Decides.{Decides-eqb}
use Rattle.std.proofs.lemmas.Slice.Eq.{starts_is}
use Rattle.std.proofs.lemmas.List.{append-nil, drop_at, take_at}
use Rattle.jh_cellcfg.specs.declared.config.CellConfig.{CellConfig}
use Rattle.jh_cellcfg.specs.declared.config.Irqchip.{Irqchip}
use Rattle.jh_cellcfg.specs.declared.config.PciDevice.{PciDevice}
use Rattle.jh_cellcfg.specs.declared.fault.ConfigFault.{ConfigFault}
use Rattle.jh_cellcfg.specs.declared.fault.ConfigFault.TheVariants.{Short, Signature, Revision, Name, Count, Trailing}
use Rattle.jh_cellcfg.specs.declared.fault.Part.{Part}
use Rattle.jh_cellcfg.specs.declared.fault.Part.TheVariants.{CpuSet, MemoryRegions, CacheRegions, Irqchips, PioRegions, PciDevices, PciCaps, StreamIds, Total}
use Rattle.jh_cellcfg.specs.declared.header.Counts.{Counts}
use Rattle.jh_cellcfg.specs.declared.header.Header.{Header}
use Rattle.jh_cellcfg.specs.Faults.{fault_if, first_of, over, u16_at, count_fault, limits_fault, length_fault, counts_at, start_fault, body_fault, header_fault, size_by_header, first_fault, refusal, Gives}
use Rattle.jh_cellcfg.proofs.Headers.{header_name, header_counts}
use Rattle.jh_cellcfg.specs.Spelling.{u16_bytes, u32_bytes, region_bytes, irqchip_bytes, device_bytes, counts_of, header_of, header_bytes, parts_bytes, body_bytes, spelling}
use Rattle.jh_cellcfg.specs.Limits.{is_name, parts_size, whole_size, AreWithinLimits, IsWithinLimits}
use Rattle.jh_cellcfg.specs.Typed.{IsRegion, IsIrqchip, IsDevice, IsWordArray, IsHeader, IsCell}
use Rattle.jh_cellcfg.proofs.Splits.{array_splits, list_splits, u32_splits, region_splits, irqchip_splits, device_splits, header_splits}
use Rattle.jh_cellcfg.proofs.SpelledCells.{Free}

-- the header of a configuration within the limits
pub header_fits : (c : CellConfig) → IsCell c → IsWithinLimits c → IsHeader (header_of c)
header_fits c cell limits =
    let n = limits.counts in
    record {
      name = cell.name;
      id = cell.id;
      flags = cell.flags;
      counts = record {
        cpu_set = omega (arith, n.cpu_set);
        memory_regions = omega (arith, n.memory_regions);
        cache_regions = omega (arith, n.cache_regions);
        irqchips = omega (arith, n.irqchips);
        pio_regions = omega (arith, n.pio_regions);
        pci_devices = omega (arith, n.pci_devices);
        pci_caps = omega (arith, n.pci_caps);
        stream_ids = omega (arith, n.stream_ids);
      };
      vpci_irq_base = cell.vpci_irq_base;
      cpu_reset_address = cell.cpu_reset_address;
      msg_reply_timeout = cell.msg_reply_timeout;
      console = cell.console;
    }

-- two configurations with the same bytes from the name on are one
pub one_body : (a b : CellConfig) → IsCell a → IsCell b → IsWithinLimits a → IsWithinLimits b → body_bytes a ≡ body_bytes b → a ≡ b
one_body a b fa fb la lb e =
    let h = header_splits (header_of a) (header_of b) (parts_bytes a) (parts_bytes b) (header_fits a fa la) (header_fits b fb lb) e in
    let head = h.record_is in
    let s_cpu_set = array_splits (length a.cpu_set) a.cpu_set b.cpu_set (flat_map region_bytes a.memory_regions ++ (flat_map (λ bytes. bytes) a.cache_regions ++ (flat_map irqchip_bytes a.irqchips ++ (flat_map (λ bytes. bytes) a.pio_regions ++ (flat_map device_bytes a.pci_devices ++ (flat_map (λ bytes. bytes) a.pci_caps ++ flat_map u32_bytes a.stream_ids)))))) (flat_map region_bytes b.memory_regions ++ (flat_map (λ bytes. bytes) b.cache_regions ++ (flat_map irqchip_bytes b.irqchips ++ (flat_map (λ bytes. bytes) b.pio_regions ++ (flat_map device_bytes b.pci_devices ++ (flat_map (λ bytes. bytes) b.pci_caps ++ flat_map u32_bytes b.stream_ids)))))) refl (sym (λ i. (head i).counts.cpu_set)) h.rest_is in
    let s_memory_regions = list_splits region_bytes IsRegion region_splits a.memory_regions b.memory_regions (flat_map (λ bytes. bytes) a.cache_regions ++ (flat_map irqchip_bytes a.irqchips ++ (flat_map (λ bytes. bytes) a.pio_regions ++ (flat_map device_bytes a.pci_devices ++ (flat_map (λ bytes. bytes) a.pci_caps ++ flat_map u32_bytes a.stream_ids))))) (flat_map (λ bytes. bytes) b.cache_regions ++ (flat_map irqchip_bytes b.irqchips ++ (flat_map (λ bytes. bytes) b.pio_regions ++ (flat_map device_bytes b.pci_devices ++ (flat_map (λ bytes. bytes) b.pci_caps ++ flat_map u32_bytes b.stream_ids))))) fa.memory_regions fb.memory_regions (λ i. (head i).counts.memory_regions) s_cpu_set.rest_is in
    let s_cache_regions = list_splits (λ bytes. bytes) (λ bytes. length bytes ≡ 12) (array_splits 12) a.cache_regions b.cache_regions (flat_map irqchip_bytes a.irqchips ++ (flat_map (λ bytes. bytes) a.pio_regions ++ (flat_map device_bytes a.pci_devices ++ (flat_map (λ bytes. bytes) a.pci_caps ++ flat_map u32_bytes a.stream_ids)))) (flat_map irqchip_bytes b.irqchips ++ (flat_map (λ bytes. bytes) b.pio_regions ++ (flat_map device_bytes b.pci_devices ++ (flat_map (λ bytes. bytes) b.pci_caps ++ flat_map u32_bytes b.stream_ids)))) fa.cache_regions fb.cache_regions (λ i. (head i).counts.cache_regions) s_memory_regions.rest_is in
    let s_irqchips = list_splits irqchip_bytes IsIrqchip irqchip_splits a.irqchips b.irqchips (flat_map (λ bytes. bytes) a.pio_regions ++ (flat_map device_bytes a.pci_devices ++ (flat_map (λ bytes. bytes) a.pci_caps ++ flat_map u32_bytes a.stream_ids))) (flat_map (λ bytes. bytes) b.pio_regions ++ (flat_map device_bytes b.pci_devices ++ (flat_map (λ bytes. bytes) b.pci_caps ++ flat_map u32_bytes b.stream_ids))) fa.irqchips fb.irqchips (λ i. (head i).counts.irqchips) s_cache_regions.rest_is in
    let s_pio_regions = list_splits (λ bytes. bytes) (λ bytes. length bytes ≡ 4) (array_splits 4) a.pio_regions b.pio_regions (flat_map device_bytes a.pci_devices ++ (flat_map (λ bytes. bytes) a.pci_caps ++ flat_map u32_bytes a.stream_ids)) (flat_map device_bytes b.pci_devices ++ (flat_map (λ bytes. bytes) b.pci_caps ++ flat_map u32_bytes b.stream_ids)) fa.pio_regions fb.pio_regions (λ i. (head i).counts.pio_regions) s_irqchips.rest_is in
    let s_pci_devices = list_splits device_bytes IsDevice device_splits a.pci_devices b.pci_devices (flat_map (λ bytes. bytes) a.pci_caps ++ flat_map u32_bytes a.stream_ids) (flat_map (λ bytes. bytes) b.pci_caps ++ flat_map u32_bytes b.stream_ids) fa.pci_devices fb.pci_devices (λ i. (head i).counts.pci_devices) s_pio_regions.rest_is in
    let s_pci_caps = list_splits (λ bytes. bytes) (λ bytes. length bytes ≡ 8) (array_splits 8) a.pci_caps b.pci_caps (flat_map u32_bytes a.stream_ids) (flat_map u32_bytes b.stream_ids) fa.pci_caps fb.pci_caps (λ i. (head i).counts.pci_caps) s_pci_devices.rest_is in
    let s_stream_ids = list_splits u32_bytes (λ n. n < 2 ^ 32) u32_splits a.stream_ids b.stream_ids [] [] fa.stream_ids fb.stream_ids (λ i. (head i).counts.stream_ids) (ap (λ (l : List ℕ). l ++ []) s_pci_caps.rest_is) in
    λ i. record { name = (head i).name; id = (head i).id; flags = (head i).flags; vpci_irq_base = (head i).vpci_irq_base; cpu_reset_address = (head i).cpu_reset_address; msg_reply_timeout = (head i).msg_reply_timeout; console = (head i).console; cpu_set = s_cpu_set.record_is i; memory_regions = s_memory_regions.record_is i; cache_regions = s_cache_regions.record_is i; irqchips = s_irqchips.record_is i; pio_regions = s_pio_regions.record_is i; pci_devices = s_pci_devices.record_is i; pci_caps = s_pci_caps.record_is i; stream_ids = s_stream_ids.record_is i }

-- two configurations with one spelling are one
pub one_spelling : (a b : CellConfig) → IsCell a → IsCell b → IsWithinLimits a → IsWithinLimits b → spelling a ≡ spelling b → a ≡ b
one_spelling a b fa fb la lb e = one_body a b fa fb la lb (ap (drop 8) e)

-- ---- a spelling has no fault

none_left : Free []
none_left = record { none = refl }

first_none : {o : Option ConfigFault} {os : List (Option ConfigFault)} → o ≡ None → Free os → Free (o ∷ os)
first_none {os = os} here rest = record { none = subst (λ (o : Option ConfigFault). first_of (o ∷ os) ≡ None) (sym here) rest.none }

passes : (test : Bool) (fault : ConfigFault) → test ≡ false → fault_if test fault ≡ None
passes test fault is = ap (λ (b : Bool). fault_if b fault) is

fits_in : (part : Part) (most found : ℕ) → found ≤ most → over part most found ≡ None
fits_in part most found le = passes (nat_lt most found) (Count part found) (le-ltb _ _ le)

some_is_not_zero : (n : ℕ) → 1 ≤ n → (n == 0) ≡ false
some_is_not_zero n le = ne_eqb n 0 (λ e. omega arith)

pub counts_unfaulted : (n : Counts) → AreWithinLimits n → count_fault n ≡ None
unfolding count_fault
counts_unfaulted n limits =
    let free =
    first_none (passes (n.cpu_set == 0) (Count CpuSet 0) (some_is_not_zero n.cpu_set limits.some_cpus))
    (first_none (fits_in CpuSet 64 n.cpu_set limits.cpu_set)
    (first_none (fits_in MemoryRegions 1024 n.memory_regions limits.memory_regions)
    (first_none (fits_in CacheRegions 1024 n.cache_regions limits.cache_regions)
    (first_none (fits_in Irqchips 64 n.irqchips limits.irqchips)
    (first_none (fits_in PioRegions 1024 n.pio_regions limits.pio_regions)
    (first_none (fits_in PciDevices 256 n.pci_devices limits.pci_devices)
    (first_none (fits_in PciCaps 1024 n.pci_caps limits.pci_caps)
    (first_none (fits_in StreamIds 1024 n.stream_ids limits.stream_ids)
    (first_none (fits_in Total 65536 (whole_size n) limits.total) none_left))))))))) in
    free.none

pub limits_unfaulted : (c : CellConfig) → IsWithinLimits c → limits_fault c.name (counts_of c) ≡ None
unfolding limits_fault
limits_unfaulted c limits =
    let free = first_none (passes (not (is_name c.name)) Name (ap not limits.name)) (first_none (counts_unfaulted (counts_of c) limits.counts) none_left) in
    free.none

-- ---- how long it is

pub length_flat_map_each : {R : Type 0} (f : R → List ℕ) (Fits : R → Type 0) (k : ℕ) → ((x : R) → Fits x → length (f x) ≡ k) → (xs : List R) → AllByRecursion Fits xs → length (flat_map f xs) ≡ k * length xs
length_flat_map_each f Fits k each [] all = omega arith
length_flat_map_each f Fits k each (x ∷ xs) all =
    let first = each x all.0 in
    let others = length_flat_map_each f Fits k each xs all.1 in
    let more : k * suc (length xs) ≡ k * length xs + k = mul-suc k (length xs) in
    omega (arith, length-append (f x) (flat_map f xs))

pub length_words : (n : ℕ) (words : List ℕ) → IsWordArray n words → length (flat_map u32_bytes words) ≡ 4 * n
length_words n words fits = length_flat_map_each u32_bytes (λ n. n < 2 ^ 32) 4 (λ x h. refl) words fits.each ∙ ap (λ (m : ℕ). 4 * m) fits.count

pub length_irqchip_bytes : (i : Irqchip) → IsIrqchip i → length (irqchip_bytes i) ≡ 32
length_irqchip_bytes i fits = let words = length_words 4 i.pin_bitmap fits.pin_bitmap in omega arith

pub length_device_bytes : (d : PciDevice) → IsDevice d → length (device_bytes d) ≡ 56
length_device_bytes d fits = let words = length_words 6 d.bar_mask fits.bar_mask in omega (arith, length-append {A = ℕ})

pub length_header_bytes : (h : Header) → IsHeader h → length (header_bytes h) ≡ 124
length_header_bytes h fits = omega (arith, length-append {A = ℕ}, fits.name, fits.console)

pub length_parts_bytes : (c : CellConfig) → IsCell c → length (parts_bytes c) ≡ parts_size (counts_of c)
length_parts_bytes c cell =
    let memory_regions = length_flat_map_each region_bytes IsRegion 32 (λ x h. refl) c.memory_regions cell.memory_regions in
    let cache_regions = length_flat_map_each (λ (bytes : List ℕ). bytes) (λ bytes. length bytes ≡ 12) 12 (λ x h. h) c.cache_regions cell.cache_regions in
    let irqchips = length_flat_map_each irqchip_bytes IsIrqchip 32 length_irqchip_bytes c.irqchips cell.irqchips in
    let pio_regions = length_flat_map_each (λ (bytes : List ℕ). bytes) (λ bytes. length bytes ≡ 4) 4 (λ x h. h) c.pio_regions cell.pio_regions in
    let pci_devices = length_flat_map_each device_bytes IsDevice 56 length_device_bytes c.pci_devices cell.pci_devices in
    let pci_caps = length_flat_map_each (λ (bytes : List ℕ). bytes) (λ bytes. length bytes ≡ 8) 8 (λ x h. h) c.pci_caps cell.pci_caps in
    let stream_ids = length_flat_map_each u32_bytes (λ n. n < 2 ^ 32) 4 (λ x h. refl) c.stream_ids cell.stream_ids in
    simp length-append (omega arith)

pub length_body_bytes : (c : CellConfig) → IsCell c → IsWithinLimits c → length (body_bytes c) ≡ 124 + parts_size (counts_of c)
length_body_bytes c cell limits =
    omega (arith, length-append (header_bytes (header_of c)) (parts_bytes c), length_header_bytes (header_of c) (header_fits c cell limits), length_parts_bytes c cell)

exact : (need len : ℕ) → need ≡ len → length_fault need len ≡ None
unfolding length_fault
exact need len is =
    let free =
    first_none (passes (nat_lt len need) (Short need) (le-ltb len need (omega arith)))
    (first_none (passes (nat_lt need len) (Trailing (len - need)) (le-ltb need len (omega arith))) none_left) in
    free.none

pub body_unfaulted : (front : ℕ) (c : CellConfig) → IsCell c → IsWithinLimits c → body_fault front (body_bytes c) ≡ None
body_unfaulted front c cell limits =
    let fits = header_fits c cell limits in
    let name = header_name (header_of c) (parts_bytes c) fits in
    let counts = header_counts (header_of c) (parts_bytes c) fits in
    let sizes = ap parts_size counts in
    let free =
    first_none ((λ i. limits_fault (name i) (counts i)) ∙ limits_unfaulted c limits)
    (first_none (exact (front + 124 + parts_size (counts_at (body_bytes c))) (front + length (body_bytes c)) (omega (arith, length_body_bytes c cell limits))) none_left) in
    free.none

-- what begins with the signature and the revision has no fault in its start
pub started : (signature rest : List ℕ) → length signature ≡ 6 → start_fault signature (signature ++ (u16_bytes 13 ++ rest)) ≡ None
unfolding start_fault
started signature rest six =
    let bytes = signature ++ (u16_bytes 13 ++ rest) in
    let signed = (starts_is Decides-eqb bytes signature (starts_with nat_eq bytes signature) refl).1 (u16_bytes 13 ++ rest) refl in
    let revised : u16_at bytes 6 ≡ 13 = ap (λ (l : List ℕ). from_le_bytes w16 (take 2 l)) (drop_at signature (u16_bytes 13 ++ rest) 6 six) in
    let free =
    first_none (passes (not (starts_with nat_eq bytes signature)) Signature (ap not signed))
    (first_none (passes (not (u16_at bytes 6 == 13)) (Revision (u16_at bytes 6)) (ap (λ (n : ℕ). not (n == 13)) revised)) none_left) in
    free.none

pub spelling_unfaulted : (c : CellConfig) → IsCell c → IsWithinLimits c → first_fault (spelling c) ≡ None
spelling_unfaulted c cell limits =
    let free =
    first_none (passes (nat_lt (length (spelling c)) 132) (Short 132) (le-ltb (length (spelling c)) 132 (omega (arith, length_body_bytes c cell limits))))
    (first_none (started (codes "JHCELL") (body_bytes c) refl)
    (first_none (body_unfaulted 8 c cell limits) none_left)) in
    free.none

-- what spells a configuration is read as that one
pub gives : (bytes : List ℕ) (r : Result CellConfig ConfigFault) → IfOk r IsCell → IfOk r IsWithinLimits → IfOk r (λ c. bytes ≡ spelling c) → refusal r ≡ first_fault bytes
    → (c : CellConfig) → IsCell c → IsWithinLimits c → bytes ≡ spelling c → Gives r c
gives bytes (Ok other) cells limits spelled fault c cell within is = record { unrefused = refl; found = one_spelling other c cells cell limits within (sym spelled ∙ is) }
gives bytes (Err e) cells limits spelled fault c cell within is = record { unrefused = fault ∙ ap first_fault is ∙ spelling_unfaulted c cell within; found = tt }

-- ---- a header by itself

header_in_front : (c : CellConfig) → IsCell c → IsWithinLimits c → take 132 (spelling c) ≡ codes "JHCELL" ++ (u16_bytes 13 ++ header_bytes (header_of c))
header_in_front c cell limits =
    ap (λ (l : List ℕ). codes "JHCELL" ++ (u16_bytes 13 ++ l)) (take_at (header_bytes (header_of c)) (parts_bytes c) 124 (length_header_bytes (header_of c) (header_fits c cell limits)))

counts_alone : (h : Header) → IsHeader h → counts_at (header_bytes h) ≡ h.counts
counts_alone h fits = ap counts_at (sym (append-nil (header_bytes h))) ∙ header_counts h [] fits

name_alone : (h : Header) → IsHeader h → take 32 (header_bytes h) ≡ h.name
name_alone h fits = ap (take 32) (sym (append-nil (header_bytes h))) ∙ header_name h [] fits

pub header_sized : (c : CellConfig) → IsCell c → IsWithinLimits c → size_by_header (take 132 (spelling c)) ≡ length (spelling c)
header_sized c cell limits =
    let counts = counts_alone (header_of c) (header_fits c cell limits) in
    let sizes = ap parts_size counts in
    ap size_by_header (header_in_front c cell limits) ∙ omega (arith, length_body_bytes c cell limits)

pub header_unfaulted : (c : CellConfig) → IsCell c → IsWithinLimits c → header_fault (take 132 (spelling c)) ≡ None
header_unfaulted c cell limits =
    let fits = header_fits c cell limits in
    let counts = counts_alone (header_of c) fits in
    let name = name_alone (header_of c) fits in
    let free =
    first_none (started (codes "JHCELL") (header_bytes (header_of c)) refl)
    (first_none ((λ i. limits_fault (name i) (counts i)) ∙ limits_unfaulted c limits) none_left) in
    ap header_fault (header_in_front c cell limits) ∙ free.none
