-- What is noted of two cells: sections of linked devices at the same offset.
use Rattle.std.proofs.Common.{◌≡◌, ◌≢◌, ℕ, ◌+◌, ◌-◌, ◌<◌, true, ◌&&◌, ◌==◌, List, Option, None, Some, get_or, refl, sym, subst, ◌∙◌, inl, inr, arith}
use Rattle.std.specs.List.{Contains, list_any}
use Rattle.std.proofs.lemmas.Bool.{and_from, eq-eqb, cases_eq}
use Rattle.jh_cellcfg.specs.declared.config.PciDevice.{PciDevice}
use Rattle.jh_cellcfg.specs.declared.config.CellConfig.{CellConfig}
use Rattle.jh_check.specs.Devices.{are_linked, section_count, is_section, are_sections_of, are_same_section}
use Rattle.jh_check.specs.Private.Links.{ArePartners}
use Rattle.jh_check.proofs.CleanLemmas.{at_section}
use Rattle.jh_num.proofs.Public.{list_any_from_Contains}

-- the regions at one offset of two linked devices are the same section
same_section : (one other : CellConfig) (d e : PciDevice) (k : ℕ) → Contains one.pci_devices d → Contains other.pci_devices e → are_linked d e ≡ true → k < section_count d → k < section_count e → are_same_section one (d.shmem_regions_start + k) other (e.shmem_regions_start + k) ≡ true
unfolding are_same_section
same_section one other d e k cd ce linked h i =
    let r = d.shmem_regions_start + k in
    let s = e.shmem_regions_start + k in
    let same = (r - d.shmem_regions_start) == (s - e.shmem_regions_start) in
    let offset : r - d.shmem_regions_start ≡ s - e.shmem_regions_start = omega arith in
    let both : are_sections_of r s d e ≡ true =
    and_from (are_linked d e) (is_section d r && (is_section e s && same)) linked (
    and_from (is_section d r) (is_section e s && same) (at_section r d.shmem_regions_start (section_count d) k refl h) (
    and_from (is_section e s) same (at_section s e.shmem_regions_start (section_count e) k refl i) (eq-eqb (r - d.shmem_regions_start) (s - e.shmem_regions_start) offset))) in
    list_any_from_Contains (λ (d : PciDevice). list_any (λ (e : PciDevice). are_sections_of r s d e) other.pci_devices) one.pci_devices d cd (list_any_from_Contains (λ (e : PciDevice). are_sections_of r s d e) other.pci_devices e ce both)

-- one pair of them more is noted
pub partners_more : (one other : CellConfig) (old new : List (Option ℕ)) (d e : PciDevice) (k : ℕ) → ArePartners one other old → ((i : ℕ) → i ≢ d.shmem_regions_start + k → get_or new i None ≡ get_or old i None) → ((s : ℕ) → get_or new (d.shmem_regions_start + k) None ≡ Some s → e.shmem_regions_start + k ≡ s) → Contains one.pci_devices d → Contains other.pci_devices e → are_linked d e ≡ true → k < section_count d → k < section_count e → ArePartners one other new
partners_more one other old new d e k known others own cd ce linked h i = λ item s noted.
    let here = d.shmem_regions_start + k in
    let mate = e.shmem_regions_start + k in
    elim (cases_eq item here) [
      | inl f ↦
          let g : mate ≡ s = own s (subst (λ j. get_or new j None ≡ Some s) f noted) in
          subst (λ t. are_same_section one item other t ≡ true) g (subst (λ j. are_same_section one j other mate ≡ true) (sym f) (same_section one other d e k cd ce linked h i))
      | inr n ↦ known item s (sym (others item n) ∙ noted)
    ]
