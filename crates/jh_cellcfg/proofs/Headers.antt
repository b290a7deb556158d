-- The counts and the name stand in a header's bytes where they are looked for.
use Rattle.std.proofs.Common.{◌≡◌, ℕ, ◌+◌, ◌<◌, ◌^◌, List, ◌++◌, length, take, drop, refl, sym, ap, ◌∙◌, append_assoc}
use Rattle.std.specs.Int.{w32, from_le_bytes}
use Rattle.std.proofs.lemmas.List.{take_at, drop_at, drop-drop}
use Rattle.std.proofs.lemmas.Nat.{from_le_bytes-to_le_bytes_4}
use Rattle.jh_cellcfg.specs.declared.header.Header.{Header}
use Rattle.jh_cellcfg.specs.Spelling.{u32_bytes, u64_bytes, counts_bytes, header_bytes}
use Rattle.jh_cellcfg.specs.Typed.{IsHeader}
use Rattle.jh_cellcfg.specs.Faults.{counts_at}

-- what stands behind the name
abbrev pub behind_name : Header → List ℕ → List ℕ
behind_name h rest =
    u32_bytes h.id ++ (u32_bytes h.flags ++ (counts_bytes h.counts ++ (u32_bytes h.vpci_irq_base
    ++ (u64_bytes h.cpu_reset_address ++ (u64_bytes h.msg_reply_timeout ++ (h.console ++ rest))))))

pub regrouped : (h : Header) (rest : List ℕ) → header_bytes h ++ rest ≡ h.name ++ behind_name h rest
regrouped h rest = simp append_assoc

-- a number behind the name
number_past : (name more : List ℕ) (n k : ℕ) → length name ≡ 32 → take 4 (drop k more) ≡ u32_bytes n → n < 2 ^ 32 → from_le_bytes w32 (take 4 (drop (32 + k) (name ++ more))) ≡ n
number_past name more n k len is lt =
    let past : drop (32 + k) (name ++ more) ≡ drop k more = sym (drop-drop k 32 (name ++ more)) ∙ ap (drop k) (drop_at name more 32 len) in
    ap (λ (l : List ℕ). from_le_bytes w32 (take 4 l)) past ∙ ap (from_le_bytes w32) is ∙ from_le_bytes-to_le_bytes_4 n lt

pub header_name : (h : Header) (rest : List ℕ) → IsHeader h → take 32 (header_bytes h ++ rest) ≡ h.name
header_name h rest fits = ap (take 32) (regrouped h rest) ∙ take_at h.name (behind_name h rest) 32 fits.name

pub header_counts : (h : Header) (rest : List ℕ) → IsHeader h → counts_at (header_bytes h ++ rest) ≡ h.counts
unfolding counts_at
header_counts h rest fits =
    let more = behind_name h rest in
    let n = h.counts in
    let at : (k value : ℕ) → take 4 (drop k more) ≡ u32_bytes value → value < 2 ^ 32 → from_le_bytes w32 (take 4 (drop (32 + k) (h.name ++ more))) ≡ value
    = λ k value is lt. number_past h.name more value k fits.name is lt in
    ap counts_at (regrouped h rest) ∙ λ i. record {
      cpu_set = at 8 n.cpu_set refl fits.counts.cpu_set i;
      memory_regions = at 12 n.memory_regions refl fits.counts.memory_regions i;
      cache_regions = at 16 n.cache_regions refl fits.counts.cache_regions i;
      irqchips = at 20 n.irqchips refl fits.counts.irqchips i;
      pio_regions = at 24 n.pio_regions refl fits.counts.pio_regions i;
      pci_devices = at 28 n.pci_devices refl fits.counts.pci_devices i;
      pci_caps = at 32 n.pci_caps refl fits.counts.pci_caps i;
      stream_ids = at 36 n.stream_ids refl fits.counts.stream_ids i;
    }
