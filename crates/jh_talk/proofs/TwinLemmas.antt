-- The cell leaves the pair's sections to root.
use Rattle.std.proofs.Common.{◌≡◌, ℕ, ◌+◌, ◌-◌, ◌<◌, Bool, true, false, ◌&&◌, not, nat_eq, nat_lt, nat_le, [], ◌∷◌, Some, get_or, slice_get, refl, sym, ap, subst, ◌∙◌, inl, inr, arith}
use Rattle.std.specs.List.{list_any}
use Rattle.std.proofs.lemmas.Bool.{not-true, both_ways, and_parts, or_cases, leb-true, ltb-true, eqb-true, false_from_ne_true, true_from_ne_false}
use Rattle.std.proofs.lemmas.Option.{same_Some, slice_get-get_or}
use Rattle.jh_cellcfg.specs.declared.region.Region.{Region}
use Rattle.jh_cellcfg.specs.declared.config.CellConfig.{CellConfig}
use Rattle.jh_cellcfg.specs.declared.config.SystemConfig.{SystemConfig}
use Rattle.jh_cellcfg.specs.declared.config.PciDevice.{PciDevice}
use Rattle.jh_cellcfg.specs.Regions.{has_flags, has_place, is_comm, is_loadable, is_unshared, phys_end}
use Rattle.jh_check.specs.Clean.{IsClean, IsSection}
use Rattle.jh_check.specs.Devices.{sections_of}
use Rattle.jh_cellcfg.proofs.Public.{no_region}
use Rattle.jh_check.proofs.Public.{all_at, any_of, section_in}
use Rattle.jh_shape.specs.Shapes.{takes}
use Rattle.jh_talk.specs.declared.pair.Pair.{Pair}
use Rattle.jh_talk.specs.declared.talk.Talk.{Talk}
use Rattle.jh_talk.specs.declared.fault.TalkFault.TheVariants.{Section}
use Rattle.jh_talk.specs.Apart.{SectionsStayRoots}
use Rattle.jh_talk.specs.Images.{IsTalk}
use Rattle.jh_talk.specs.Pairs.{IsPair}
use Rattle.jh_talk.specs.Sections.{are_left_to_root, has_outputs, has_sections, is_left_to_root}
use Rattle.jh_talk.proofs.JoinLemmas.{clean_of, talks_shmem}

has_size_of : (x : Region) (p : ℕ) → has_place x p ≡ true → 0 < x.size
has_size_of x p has =
    let parts = and_parts (nat_le x.phys_start p) (nat_lt p (phys_end x)) has in
    let from = leb-true x.phys_start p parts.0 in
    let to = ltb-true p (phys_end x) parts.1 in
    omega arith

-- the same section in the cell's map, with the place that it has in root's
pub record Twin (cell : CellConfig) (device : PciDevice) (k p : ℕ) : Type 0 where
  pub region : Region
  pub section : IsSection cell device k region
  pub has : has_place region p ≡ true

pub twin_of : (system : SystemConfig) (cell : CellConfig) (pair : Pair) (k p : ℕ) (x : Region) → IsClean system (cell ∷ []) → IsPair system.root cell pair → IsSection system.root pair.device k x → has_place x p ≡ true → Twin cell pair.other k p
twin_of system cell pair k p x clean is section has =
    let own_kind = talks_shmem pair.number pair.device is.own_talks in
    let other_kind = talks_shmem pair.other_number pair.other is.other_talks in
    let agrees = clean.links 1 0 cell system.root (omega arith) refl refl pair.other_number pair.number pair.other pair.device is.other is.own (record { one_kind = other_kind; other_kind = own_kind; bdf = sym is.linked }) in
    let good = clean.devices 1 cell refl pair.other_number pair.other is.other other_kind in
    let peers = agrees.peers in
    let number = section.number in
    let exist = good.exist in
    let at = pair.other.shmem_regions_start + k in
    let z = get_or cell.memory_regions at no_region in
    let twin : IsSection cell pair.other k z = record { number = omega arith; item = slice_get-get_or cell.memory_regions at no_region (omega arith) } in
    let memory = agrees.memory k z twin in
    let same : memory.0 ≡ x = same_Some memory.0 x (sym memory.1.item ∙ section.item) in
    let size : z.size ≡ x.size = memory.2 ∙ ap (λ (y : Region). y.size) same in
    let some = has_size_of x p has in
    let place : z.phys_start ≡ x.phys_start = memory.3 (omega arith) ∙ ap (λ (y : Region). y.phys_start) same in
    let Has : Region → Type 0 = λ y. has_place y p ≡ true in
    record {
      region = z;
      section = twin;
      has = (λ i. nat_le (place i) p && nat_lt p (place i + size i)) ∙ has;
    }

-- a place of the pair's sections isn't taken from root by the cell
pub section_open : (system : SystemConfig) (cell : CellConfig) (pair : Pair) (loadable : Bool) (k p : ℕ) (x : Region) → IsClean system (cell ∷ []) → IsPair system.root cell pair → are_left_to_root cell pair.other ≡ true → IsSection system.root pair.device k x → has_place x p ≡ true → list_any (λ (region : Region). takes loadable region p) cell.memory_regions ≡ false
section_open system cell pair loadable k p x clean is left section has =
    false_from_ne_true (list_any (λ (region : Region). takes loadable region p) cell.memory_regions) (λ taken.
    let twin = twin_of system cell pair k p x clean is section has in
    let z = twin.region in
    let w = any_of (λ (region : Region). takes loadable region p) cell.memory_regions taken in
    let y = w.1 in
    let parts = and_parts (is_unshared y) (not (loadable && is_loadable y) && has_place y p) w.3 in
    let there = (and_parts (not (loadable && is_loadable y)) (has_place y p) parts.1).1 in
    let unshared = and_parts (not (is_comm y)) (not (has_flags 0x80 y)) parts.0 in
    let good = clean.devices 1 cell refl pair.other_number pair.other is.other (talks_shmem pair.other_number pair.other is.other_talks) in
    let plain = (good.sections k z twin.section).no_comm in
    let number : w.0 ≡ pair.other.shmem_regions_start + k = clean.places 1 cell refl w.0 (pair.other.shmem_regions_start + k) y z w.2 twin.section.item (not-true (is_comm y) unshared.0) plain p there twin.has in
    let At : ℕ → Type 0 = λ n. slice_get cell.memory_regions n ≡ Some y in
    let same : y ≡ z = same_Some y z (sym (subst At number w.2) ∙ twin.section.item) in
    let shared = all_at is_left_to_root (sections_of cell.memory_regions pair.other) left k z (section_in cell pair.other k z twin.section) in
    let some = has_size_of z p twin.has in
    elim (or_cases (nat_eq z.size 0) (has_flags 0x80 z) shared) as (λ v. ⊥) [
      | inl none ↦ let e = eqb-true z.size 0 none in absurd (omega arith)
      | inr rootshared ↦ both_ways (has_flags 0x80 y) (not-true (has_flags 0x80 y) unshared.1) (ap (has_flags 0x80) same ∙ rootshared)
    ])

-- ---- a talk

-- the sections serve the pair
pub sections_there : (system : SystemConfig) (cell : CellConfig) (talk : Talk) → IsTalk system cell talk → has_sections system.root cell talk.pair ≡ true
sections_there system cell talk is =
    true_from_ne_false (has_sections system.root cell talk.pair) (λ no. is.faultless Section (omega arith) (record { pair = talk.pair; first = is.pair; lacking = no }))

pub sections_stay : (system : SystemConfig) (cell : CellConfig) (talk : Talk) → IsTalk system cell talk → SectionsStayRoots system.root cell talk.pair.device
sections_stay system cell talk is loadable k p x section has =
    let clean = clean_of system cell 9 (omega arith) is.faultless in
    let pair = talk.pair in
    let outputs = (and_parts (has_outputs system.root pair.device pair.other) (has_outputs cell pair.other pair.device && are_left_to_root cell pair.other) (sections_there system cell talk is)).1 in
    let left = (and_parts (has_outputs cell pair.other pair.device) (are_left_to_root cell pair.other) outputs).1 in
    section_open system cell pair loadable k p x clean is.pair.is left section has
