-- Bytes without a fault spell a configuration.
use Rattle.std.proofs.Common.{◌≡◌, ℕ, zero, suc, ◌+◌, ◌-◌, ◌<◌, ◌≤◌, Bool, true, false, not, ◌==◌, List, [], ◌∷◌, ◌++◌, length, take, drop, Option, Some, None, All, refl, sym, ap, subst, ◌∙◌, length-append, length-drop, arith, inl, inr}
use Rattle.std.specs.Prelude.{nat_lt, codes, nat_eq}
use Rattle.std.specs.List.{starts_with}
use Rattle.std.proofs.lemmas.Bool.{ltb-false, eqb-true, cases_lt}
use Rattle.std.proofs.lemmas.List.{append-nil, drop-drop, nil_from_length, get_or_past, take-append-drop, length-take}
use Rattle.std.proofs.lemmas.List.Elements.{All-get_or}
use Rattle.std.proofs.lemmas.Nat.{le_bytes_2}
use Rattle.std.proofs.lemmas.Bool.Decides.{Decides-eqb}
use Rattle.std.proofs.lemmas.Slice.Eq.{starts_is}
use Rattle.jh_cellcfg.specs.declared.config.CellConfig.{CellConfig}
use Rattle.jh_cellcfg.specs.declared.fault.ConfigFault.{ConfigFault}
use Rattle.jh_cellcfg.specs.declared.fault.ConfigFault.TheVariants.{Short, Signature, Revision, Name, Count, Trailing}
use Rattle.jh_cellcfg.specs.declared.fault.Part.TheVariants.{CpuSet, MemoryRegions, CacheRegions, Irqchips, PioRegions, PciDevices, PciCaps, StreamIds, Total}
use Rattle.jh_cellcfg.specs.declared.header.Counts.{Counts}
use Rattle.jh_cellcfg.specs.declared.header.Header.{Header}
use Rattle.jh_cellcfg.specs.Spelling.{u16_bytes, counts_of, header_of, header_bytes, parts_bytes, body_bytes, spelling}
use Rattle.jh_cellcfg.specs.Limits.{is_name, parts_size, whole_size, AreWithinLimits, IsWithinLimits}
use Rattle.jh_cellcfg.specs.Typed.{IsHeader, IsCell}
use Rattle.jh_cellcfg.specs.Faults.{fault_if, first_of, over, u16_at, count_fault, limits_fault, length_fault, counts_at, start_fault, body_fault, first_fault}
use Rattle.jh_cellcfg.proofs.Headers.{header_name, header_counts}
use Rattle.jh_cellcfg.proofs.Fields.{IsBytes, IsBytes_drop, IsBytes_take, array_field, list_field, both, u32_field, region_field, irqchip_field, device_field, header_field}

-- none of these is a fault
pub record Free (faults : List (Option ConfigFault)) : Type 0 where
  pub none : first_of faults ≡ None

free : (faults : List (Option ConfigFault)) → first_of faults ≡ None → Free faults
free faults e = record { none = e }

pub head_of : (o : Option ConfigFault) (os : List (Option ConfigFault)) → first_of (o ∷ os) ≡ None → o ≡ None
head_of None os e = refl
head_of (Some fault) os e = absurd cc

pub rest_of : (o : Option ConfigFault) (os : List (Option ConfigFault)) → first_of (o ∷ os) ≡ None → first_of os ≡ None
rest_of None os e = e
rest_of (Some fault) os e = absurd cc

head_none : {o : Option ConfigFault} {os : List (Option ConfigFault)} → Free (o ∷ os) → o ≡ None
head_none {o = o} {os = os} faults = head_of o os faults.none

rest_none : {o : Option ConfigFault} {os : List (Option ConfigFault)} → Free (o ∷ os) → Free os
rest_none {o = o} {os = os} faults = record { none = rest_of o os faults.none }

pub passed : (test : Bool) (fault : ConfigFault) → fault_if test fault ≡ None → test ≡ false
passed true fault e = absurd cc
passed false fault e = refl

both_true : (b : Bool) → not b ≡ false → b ≡ true
both_true true e = refl
both_true false e = absurd cc

not_zero : (n : ℕ) → (n == 0) ≡ false → 1 ≤ n
not_zero zero e = absurd cc
not_zero (suc n) e = omega arith

counts_within : (n : Counts) → count_fault n ≡ None → AreWithinLimits n
unfolding count_fault
counts_within n none =
    let e = free (fault_if (n.cpu_set == 0) (Count CpuSet 0) ∷ over CpuSet 64 n.cpu_set ∷ over MemoryRegions 1024 n.memory_regions ∷ over CacheRegions 1024 n.cache_regions ∷ over Irqchips 64 n.irqchips
    ∷ over PioRegions 1024 n.pio_regions ∷ over PciDevices 256 n.pci_devices ∷ over PciCaps 1024 n.pci_caps ∷ over StreamIds 1024 n.stream_ids ∷ over Total 65536 (whole_size n) ∷ []) none in
    let e0 = rest_none e in
    let e1 = rest_none e0 in
    let e2 = rest_none e1 in
    let e3 = rest_none e2 in
    let e4 = rest_none e3 in
    let e5 = rest_none e4 in
    let e6 = rest_none e5 in
    let e7 = rest_none e6 in
    let e8 = rest_none e7 in
    record {
      some_cpus = not_zero n.cpu_set (passed (n.cpu_set == 0) (Count CpuSet 0) (head_none e));
      cpu_set = ltb-false _ _ (passed (nat_lt 64 n.cpu_set) (Count CpuSet n.cpu_set) (head_none e0));
      memory_regions = ltb-false _ _ (passed (nat_lt 1024 n.memory_regions) (Count MemoryRegions n.memory_regions) (head_none e1));
      cache_regions = ltb-false _ _ (passed (nat_lt 1024 n.cache_regions) (Count CacheRegions n.cache_regions) (head_none e2));
      irqchips = ltb-false _ _ (passed (nat_lt 64 n.irqchips) (Count Irqchips n.irqchips) (head_none e3));
      pio_regions = ltb-false _ _ (passed (nat_lt 1024 n.pio_regions) (Count PioRegions n.pio_regions) (head_none e4));
      pci_devices = ltb-false _ _ (passed (nat_lt 256 n.pci_devices) (Count PciDevices n.pci_devices) (head_none e5));
      pci_caps = ltb-false _ _ (passed (nat_lt 1024 n.pci_caps) (Count PciCaps n.pci_caps) (head_none e6));
      stream_ids = ltb-false _ _ (passed (nat_lt 1024 n.stream_ids) (Count StreamIds n.stream_ids) (head_none e7));
      total = ltb-false _ _ (passed (nat_lt 65536 (whole_size n)) (Count Total (whole_size n)) (head_none e8));
    }

record NameAndCounts (name : List ℕ) (n : Counts) : Type 0 where
  named : is_name name ≡ true
  within : AreWithinLimits n

limits_within : (name : List ℕ) (n : Counts) → limits_fault name n ≡ None → NameAndCounts name n
unfolding limits_fault
limits_within name n none =
    let e = free (fault_if (not (is_name name)) Name ∷ count_fault n ∷ []) none in
    record {
      named = both_true (is_name name) (passed (not (is_name name)) Name (head_none e));
      within = counts_within n (head_none (rest_none e));
    }

same_length : (need len : ℕ) → length_fault need len ≡ None → len ≡ need
unfolding length_fault
same_length need len none =
    let e = free (fault_if (nat_lt len need) (Short need) ∷ fault_if (nat_lt need len) (Trailing (len - need)) ∷ []) none in
    let enough = ltb-false len need (passed (nat_lt len need) (Short need) (head_none e)) in
    let no_more = ltb-false need len (passed (nat_lt need len) (Trailing (len - need)) (head_none (rest_none e))) in
    omega arith

-- the parts of these counts
parts_take : (n : Counts) (parts : List ℕ) → IsBytes parts → length parts ≡ parts_size n → (h : Header) → IsHeader h → h.counts ≡ n
    → (c : CellConfig) × IsCell c × (header_of c ≡ h) × (parts ≡ parts_bytes c)
parts_take n parts all size h fits counts =
    let field = both (array_field n.cpu_set) (both (list_field n.memory_regions region_field) (both (list_field n.cache_regions (array_field 12)) (both (list_field n.irqchips irqchip_field)
    (both (list_field n.pio_regions (array_field 4)) (both (list_field n.pci_devices device_field) (both (list_field n.pci_caps (array_field 8)) (list_field n.stream_ids u32_field))))))) in
    let t = field.takes parts all (omega arith) in
    let v = t.value in
    let f = t.fits in
    let taken = field.len v f in
    let c : CellConfig = record {
      name = h.name;
      id = h.id;
      flags = h.flags;
      vpci_irq_base = h.vpci_irq_base;
      cpu_reset_address = h.cpu_reset_address;
      msg_reply_timeout = h.msg_reply_timeout;
      console = h.console;
      cpu_set = v.0;
      memory_regions = v.1.0;
      cache_regions = v.1.1.0;
      irqchips = v.1.1.1.0;
      pio_regions = v.1.1.1.1.0;
      pci_devices = v.1.1.1.1.1.0;
      pci_caps = v.1.1.1.1.1.1.0;
      stream_ids = v.1.1.1.1.1.1.1;
    } in
    let none : length t.rest ≡ 0 = omega (arith, length-append (parts_bytes c) t.rest, ap length t.is, taken, size) in
    let lengths : counts_of c ≡ n = λ i. record {
      cpu_set = f.0 i;
      memory_regions = f.1.0.1 i;
      cache_regions = f.1.1.0.1 i;
      irqchips = f.1.1.1.0.1 i;
      pio_regions = f.1.1.1.1.0.1 i;
      pci_devices = f.1.1.1.1.1.0.1 i;
      pci_caps = f.1.1.1.1.1.1.0.1 i;
      stream_ids = f.1.1.1.1.1.1.1.1 i;
    } in
    let same = lengths ∙ sym counts in (
      c,
      record {
        name = fits.name;
        id = fits.id;
        flags = fits.flags;
        vpci_irq_base = fits.vpci_irq_base;
        cpu_reset_address = fits.cpu_reset_address;
        msg_reply_timeout = fits.msg_reply_timeout;
        console = fits.console;
        memory_regions = f.1.0.0;
        cache_regions = f.1.1.0.0;
        irqchips = f.1.1.1.0.0;
        pio_regions = f.1.1.1.1.0.0;
        pci_devices = f.1.1.1.1.1.0.0;
        pci_caps = f.1.1.1.1.1.1.0.0;
        stream_ids = f.1.1.1.1.1.1.1.0;
      },
      (λ i. record h { counts = same i }),
      t.is ∙ ap (λ (l : List ℕ). parts_bytes c ++ l) (nil_from_length t.rest none) ∙ append-nil (parts_bytes c),
    )

-- the bytes from the name on
pub body_found : (front : ℕ) (body : List ℕ) → IsBytes body → 124 ≤ length body → body_fault front body ≡ None
    → (c : CellConfig) × IsCell c × IsWithinLimits c × (body ≡ body_bytes c)
body_found front body all long none =
    let need = front + 124 + parts_size (counts_at body) in
    let e = free (limits_fault (take 32 body) (counts_at body) ∷ length_fault need (front + length body) ∷ []) none in
    let t = header_field.takes body all long in
    let h = t.value in
    let name : take 32 body ≡ h.name = ap (take 32) t.is ∙ header_name h t.rest t.fits in
    let counts : counts_at body ≡ h.counts = ap counts_at t.is ∙ header_counts h t.rest t.fits in
    let limits = limits_within h.name h.counts ((λ i. limits_fault (sym name i) (sym counts i)) ∙ head_none e) in
    let whole = same_length need (front + length body) (head_none (rest_none e)) in
    let sizes = ap parts_size counts in
    let left : length body ≡ 124 + length t.rest = ap length t.is ∙ length-append (header_bytes h) t.rest ∙ ap (λ (k : ℕ). k + length t.rest) (header_field.len h t.fits) in
    let found = parts_take h.counts t.rest t.more (omega arith) h t.fits refl in
    let c = found.0 in (
      c,
      found.1,
      record { name = ap (λ (g : Header). is_name g.name) found.2 ∙ limits.named; counts = subst (λ (g : Header). AreWithinLimits g.counts) (sym found.2) limits.within },
      t.is ∙ (λ i. header_bytes (sym found.2 i) ++ found.3 i),
    )

-- bytes whose start has no fault begin with the signature and the revision
pub start_found : (signature bytes : List ℕ) → length signature ≡ 6 → IsBytes bytes → 8 ≤ length bytes → start_fault signature bytes ≡ None
    → bytes ≡ signature ++ (u16_bytes 13 ++ drop 8 bytes)
unfolding start_fault
start_found signature bytes six all long none =
    let begins = starts_with nat_eq bytes signature in
    let e = free (fault_if (not begins) Signature ∷ fault_if (not (u16_at bytes 6 == 13)) (Revision (u16_at bytes 6)) ∷ []) none in
    let signed : bytes ≡ signature ++ drop (length signature) bytes = (starts_is Decides-eqb bytes signature begins refl).0 (both_true begins (passed (not begins) Signature (head_none e))) in
    let last = rest_none e in
    let number : u16_at bytes 6 ≡ 13 = eqb-true (u16_at bytes 6) 13 (both_true (u16_at bytes 6 == 13) (passed (not (u16_at bytes 6 == 13)) (Revision (u16_at bytes 6)) (head_none last))) in
    let two = take 2 (drop 6 bytes) in
    let small : IsBytes two = IsBytes_take 2 (drop 6 bytes) (IsBytes_drop 6 bytes all) in
    let len : length two ≡ 2 = omega (arith, length-take 2 (drop 6 bytes), length-drop 6 bytes) in
    let revision : u16_bytes 13 ≡ two = le_bytes_2 two 13 len small (sym number) in
    let behind : drop 6 bytes ≡ u16_bytes 13 ++ drop 8 bytes
    = sym (take-append-drop 2 (drop 6 bytes)) ∙ (λ i. sym revision i ++ drop-drop 2 6 bytes i) in
    signed ∙ ap (λ (l : List ℕ). signature ++ l) (ap (λ (n : ℕ). drop n bytes) six ∙ behind)

-- each item is a byte, also where the list has none
pub all_bytes : (bytes : List ℕ) → All (λ byte. byte < 256) bytes → IsBytes bytes
all_bytes bytes all i =
    elim (cases_lt i (length bytes)) [
      | inl lt ↦ All-get_or (λ byte. byte < 256) bytes i 0 lt all
      | inr le ↦ rw (get_or_past bytes i 0 le) (omega arith)
    ]

pub bytes_found : (bytes : List ℕ) → All (λ byte. byte < 256) bytes → first_fault bytes ≡ None
    → (c : CellConfig) × IsCell c × IsWithinLimits c × (bytes ≡ spelling c)
bytes_found bytes each none =
    let e = free (fault_if (nat_lt (length bytes) 132) (Short 132) ∷ start_fault (codes "JHCELL") bytes ∷ body_fault 8 (drop 8 bytes) ∷ []) none in
    let all = all_bytes bytes each in
    let long = ltb-false (length bytes) 132 (passed (nat_lt (length bytes) 132) (Short 132) (head_none e)) in
    let later = rest_none e in
    let start = start_found (codes "JHCELL") bytes refl all (omega arith) (head_none later) in
    let found = body_found 8 (drop 8 bytes) (IsBytes_drop 8 bytes all) (omega (arith, length-drop 8 bytes)) (head_none (rest_none later)) in
    (found.0, found.1, found.2, start ∙ ap (λ (l : List ℕ). codes "JHCELL" ++ (u16_bytes 13 ++ l)) found.3)
