-- Memory at opening, with the words of root's devices.
use Rattle.std.proofs.Common.{◌≡◌, ℕ, zero, suc, ◌+◌, ◌*◌, ◌^◌, ◌<◌, List, [], ◌∷◌, get_or, Bool, true, cond, Some, refl, sym, ap, subst, ◌∙◌, ⊎_elim, arith}
use Rattle.std.specs.Prelude.{Contains, nat_lt, slice_get}
use Rattle.std.proofs.lemmas.Bool.{and_from, and_parts, cond_both, eq-eqb, lt-ltb, ltb-true}
use Rattle.std.proofs.lemmas.Option.{same_Some, slice_get-get_or, slice_get_within}
use Rattle.jh_num.proofs.Public.{Contains_head, Contains_tail}
use Rattle.jh_cellcfg.specs.declared.config.CellConfig.{CellConfig}
use Rattle.jh_cellcfg.specs.declared.config.PciDevice.{PciDevice}
use Rattle.jh_cellcfg.specs.declared.region.Region.{Region}
use Rattle.jh_check.specs.Devices.{is_shmem}
use Rattle.jh_ivshmem.specs.declared.spec.EndpointSpec.{EndpointSpec}
use Rattle.jh_ivshmem.specs.Specs.{endpoint_word_of}
use Rattle.jh_script.specs.declared.image.Image.{Image}
use Rattle.jh_history.specs.declared.form.Form.{Form}
use Rattle.jh_history.specs.declared.place.Place.TheVariants.{Physical}
use Rattle.jh_history.specs.Admitted.{IsAdmitted}
use Rattle.jh_history.specs.Devices.{is_endpoint, place_of_section, spec_of, specs_from, specs_of}
use Rattle.jh_history.specs.History.{facts}
use Rattle.jh_history.specs.Places.{number_of}
use Rattle.jh_history.proofs.Public.{kind_from, sound_start, specs_device}
use Rattle.jh_laws.specs.Preloads.{IsPreloaded, IsInStateWord}
use Rattle.jh_laws.proofs.ByteLemmas.{IsApartAtOpening, opening_word, opening_byte, opening_zero}
use Rattle.jh_laws.proofs.WordLemmas.{IsByteAt, IsInWords, words_or}

-- ---- the endpoint of a device

spec_among : (config : CellConfig) (n k : ℕ) (devices : List PciDevice) (device : PciDevice) → slice_get devices k ≡ Some device → is_endpoint (n + k) device ≡ true → Contains (specs_from config n devices) (spec_of config (n + k) device)
spec_among config n k [] device item passes = let below : k < 0 = slice_get_within [] k device item in absurd (omega arith)
spec_among config n zero (d ∷ devices) device item passes =
    let first : n + 0 ≡ n = omega arith in
    let same : d ≡ device = same_Some d device item in
    let P : ℕ → PciDevice → Type 0 = λ i x. is_endpoint i x ≡ true in
    let here : is_endpoint n d ≡ true = (let A : ℕ → Type 0 = λ i. P i device in let B : PciDevice → Type 0 = P n in subst B (sym same) (subst A first passes)) in
    let Q : ℕ → Type 0 = λ i. Contains (specs_from config n (d ∷ devices)) (spec_of config i device) in
    let R : PciDevice → Type 0 = λ x. Contains (specs_from config n (d ∷ devices)) (spec_of config n x) in
    let S : Bool → Type 0 = λ b. Contains (cond b (spec_of config n d ∷ specs_from config (n + 1) devices) (specs_from config (n + 1) devices)) (spec_of config n d) in
    subst Q (sym first) (subst R same (subst S (sym here) (Contains_head (spec_of config n d) (specs_from config (n + 1) devices))))
spec_among config n (suc k) (d ∷ devices) device item passes =
    let next : n + suc k ≡ (n + 1) + k = omega arith in
    let A : ℕ → Type 0 = λ i. is_endpoint i device ≡ true in
    let Q : ℕ → Type 0 = λ i. Contains (specs_from config n (d ∷ devices)) (spec_of config i device) in
    let later = spec_among config (n + 1) k devices device item (subst A next passes) in
    let L : List EndpointSpec → Type 0 = λ specs. Contains specs (spec_of config ((n + 1) + k) device) in
    let rest : List EndpointSpec = specs_from config (n + 1) devices in
    subst Q (sym next) (cond_both (is_endpoint n d) (spec_of config n d ∷ rest) rest L (λ _. Contains_tail (spec_of config n d) rest (spec_of config ((n + 1) + k) device) later) (λ _. later))

spec_held : (config : CellConfig) (n : ℕ) (device : PciDevice) → slice_get config.pci_devices n ≡ Some device → is_endpoint n device ≡ true → Contains (specs_of config) (spec_of config n device)
unfolding specs_of
spec_held config n device item passes =
    let first : 0 + n ≡ n = omega arith in
    let A : ℕ → Type 0 = λ i. is_endpoint i device ≡ true in
    let Q : ℕ → Type 0 = λ i. Contains (specs_from config 0 config.pci_devices) (spec_of config i device) in
    subst Q first (spec_among config 0 n config.pci_devices device item (subst A (sym first) passes))

-- ---- the words

-- where a device's table is
table_is : (config : CellConfig) (n : ℕ) (device : PciDevice) (table : Region) → slice_get config.memory_regions device.shmem_regions_start ≡ Some table → (spec_of config n device).table ≡ table.phys_start
table_is config n device table section =
    let first : device.shmem_regions_start + 0 ≡ device.shmem_regions_start = omega arith in
    ap place_of_section (ap (slice_get config.memory_regions) first ∙ section)

in_words : (image : Image) (place : ℕ) → IsInStateWord image place → IsInWords (specs_of image.system.root) (Physical place)
in_words image place h =
    let root : CellConfig = image.system.root in
    let passes : is_endpoint h.number h.device ≡ true = and_from (nat_lt h.number (2 ^ 32)) (is_shmem h.device) (lt-ltb h.number (2 ^ 32) h.small) (eq-eqb h.device.kind 3 h.kind) in
    let at = table_is root h.number h.device h.table h.section in
    record {
      spec = spec_of root h.number h.device;
      among = spec_held root h.number h.device h.item passes;
      index = h.index;
      there = (h.within, ap Physical (h.there ∙ ap (λ (t : ℕ). t + 4 * h.device.shmem_dev_id + h.index) (sym at)));
    }

of_words : (image : Image) (form : Form) (place : ℕ) → IsAdmitted image → IsInWords (specs_of image.system.root) (Physical place) → IsInStateWord image place
of_words image form place admitted h =
    let root : CellConfig = image.system.root in
    let of = specs_device root h.spec h.among in
    let device : PciDevice = of.device in
    let kind = kind_from of.number device of.passes in
    let good = (sound_start image form admitted).cells.clean.devices 0 root refl of.number device of.item kind in
    let other : Region = image.system.platform.hypervisor_memory in
    let table : Region = get_or root.memory_regions device.shmem_regions_start other in
    let exist = good.exist in
    let section : slice_get root.memory_regions device.shmem_regions_start ≡ Some table = slice_get-get_or root.memory_regions device.shmem_regions_start other (omega (arith, exist)) in
    let E : EndpointSpec → Type 0 = λ s. IsByteAt (endpoint_word_of s 0) (Physical place) h.index in
    let there = subst E of.is h.there in
    record {
      number = of.number;
      device = device;
      item = of.item;
      kind = kind;
      small = ltb-true of.number (2 ^ 32) (and_parts (nat_lt of.number (2 ^ 32)) (is_shmem device) of.passes).0;
      table = table;
      section = section;
      index = h.index;
      within = there.0;
      there = ap number_of there.1 ∙ ap (λ (t : ℕ). t + 4 * device.shmem_dev_id + h.index) (table_is root of.number device table section);
    }

-- ---- at opening

pub opens_words : (image : Image) (form : Form) (place : ℕ) → IsInStateWord image place → (facts image form []).byte (Physical place) ≡ 0
opens_words image form place h = opening_word image form place (in_words image place h)

pub opens_put : (image : Image) (form : Form) (place byte : ℕ) → IsAdmitted image → (IsInStateWord image place → ⊥) → IsPreloaded image place byte → (facts image form []).byte (Physical place) ≡ byte
opens_put image form place byte admitted outside put =
    ⊎_elim
    (λ (inside : IsInWords (specs_of image.system.root) (Physical place)). absurd (outside (of_words image form place admitted inside)))
    (λ (apart : IsApartAtOpening image place). opening_byte image form place byte admitted apart put)
    (words_or (specs_of image.system.root) (Physical place))

pub opens_zero : (image : Image) (form : Form) (place : ℕ) → ((byte : ℕ) → IsPreloaded image place byte → ⊥) → (facts image form []).byte (Physical place) ≡ 0
opens_zero image form place none =
    ⊎_elim
    (λ (inside : IsInWords (specs_of image.system.root) (Physical place)). opening_word image form place inside)
    (λ (apart : IsApartAtOpening image place). opening_zero image form place apart none)
    (words_or (specs_of image.system.root) (Physical place))
