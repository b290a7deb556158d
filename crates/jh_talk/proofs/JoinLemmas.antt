-- What is known of a system and a cell in which nothing is found, and which faults that rules out.
use Rattle.std.proofs.Common.{◌≡◌, ℕ, ◌^◌, ◌<◌, Bool, true, false, ◌&&◌, nat_lt, nat_le, List, [], ◌∷◌, Some, slice_get, refl, sym, ap, subst, ◌∙◌, inl, inr, arith}
use Rattle.std.specs.Prelude.{◌≢◌}
use Rattle.std.proofs.lemmas.Bool.{both_ways, and_parts, eqb-true}
use Rattle.std.proofs.lemmas.Option.{same_Some}
use Rattle.jh_cellcfg.specs.declared.config.CellConfig.{CellConfig}
use Rattle.jh_cellcfg.specs.declared.config.PciDevice.{PciDevice}
use Rattle.jh_cellcfg.specs.declared.config.SystemConfig.{SystemConfig}
use Rattle.jh_check.specs.declared.finding.Finding.{Finding}
use Rattle.jh_check.specs.Clean.{IsClean, IsShmem, IsSoundBitmap}
use Rattle.jh_check.specs.Devices.{is_shmem}
use Rattle.jh_check.specs.Findings.{findings}
use Rattle.jh_check.specs.Refusals.{is_known}
use Rattle.jh_check.proofs.Public.{clean_from_nothing, nothing_from_clean}
use Rattle.jh_history.specs.Admitted.{IsAdmittedSystem}
use Rattle.jh_history.specs.Devices.{is_endpoint}
use Rattle.jh_talk.specs.declared.pair.Pair.{Pair}
use Rattle.jh_talk.specs.declared.cpus.Cpus.{Cpus}
use Rattle.jh_talk.specs.declared.fault.TalkFault.TheVariants.{Cell, Cpu, Pool, Section, Ecam, Window, Place}
use Rattle.jh_talk.specs.Cpus.{is_left}
use Rattle.jh_talk.specs.Pairs.{can_talk, IsFirstPair}
use Rattle.jh_talk.specs.Sections.{has_sections, has_outputs, are_left_to_root}
use Rattle.jh_talk.specs.Functions.{has_function, obstacles}
use Rattle.jh_talk.specs.Windows.{IsLeastWindow}
use Rattle.jh_talk.specs.Faults.{SpeaksAgainst, IsFaultlessBelow}
use Rattle.jh_talk.specs.Private.Rooms.{IsSoundMap}
use Rattle.jh_talk.specs.Private.Seats.{AreCpus, IsJoining}
use Rattle.jh_talk.proofs.FaultLemmas.{faultless_first, faultless_more}

-- ---- nothing is found

pub clean_alone : (system : SystemConfig) → IsAdmittedSystem system → IsClean system []
clean_alone system admitted = clean_from_nothing system [] admitted.clean

pub root_set : (system : SystemConfig) (cells : List CellConfig) → IsClean system cells → IsSoundBitmap system.root.cpu_set
root_set system cells clean = clean.cpus 0 system.root refl

pub cell_set : (system : SystemConfig) (cell : CellConfig) → IsClean system (cell ∷ []) → IsSoundBitmap cell.cpu_set
cell_set system cell clean = clean.cpus 1 cell refl

-- the regions of an admitted root
pub sound_map : (system : SystemConfig) → IsAdmittedSystem system → IsSoundMap system.root
sound_map system admitted =
    let clean = clean_alone system admitted in
    record {
      aligned = λ r x item some mapped. clean.aligned 0 system.root refl r x item some mapped (clean.no_comm r x item some);
      single = λ r s x y one other some more place here there.
          clean.places 0 system.root refl r s x y one other (clean.no_comm r x one some) (clean.no_comm s y other more) place here there;
    }

-- ---- the cell

speaks_by : (system : SystemConfig) (cell : CellConfig) (known : Bool) → is_known (system.root ∷ []) cell ≡ known → (IsJoining system cell → ⊥) → SpeaksAgainst system cell Cell
speaks_by system cell true e none = inr e
speaks_by system cell false e none = inl (λ nothing. none (record { unknown = e; clean = clean_from_nothing system (cell ∷ []) nothing }))

pub cell_speaks : (system : SystemConfig) (cell : CellConfig) → (IsJoining system cell → ⊥) → SpeaksAgainst system cell Cell
cell_speaks system cell none = speaks_by system cell (is_known (system.root ∷ []) cell) refl none

pub cell_silent : (system : SystemConfig) (cell : CellConfig) → IsJoining system cell → SpeaksAgainst system cell Cell → ⊥
cell_silent system cell joins (inl found) = found (nothing_from_clean system (cell ∷ []) joins.clean)
cell_silent system cell joins (inr known) = both_ways (is_known (system.root ∷ []) cell) joins.unknown known

pub below_cpu : (system : SystemConfig) (cell : CellConfig) → IsJoining system cell → IsFaultlessBelow system cell 2
below_cpu system cell joins = faultless_more system cell 1 (faultless_first system cell) (cell_silent system cell joins)

-- ---- CPUs

pub cpus_silent : (system : SystemConfig) (cell : CellConfig) (cpus : Cpus) → AreCpus system.root cell cpus → SpeaksAgainst system cell Cpu → ⊥
cpus_silent system cell cpus are (inl foreign) = are.known foreign
cpus_silent system cell cpus are (inr all) = both_ways (is_left system.root cell cpus.leader) (all cpus.leader) are.leader.passes

pub below_pool : (system : SystemConfig) (cell : CellConfig) (cpus : Cpus) → IsJoining system cell → AreCpus system.root cell cpus → IsFaultlessBelow system cell 3
below_pool system cell cpus joins are = faultless_more system cell 2 (below_cpu system cell joins) (cpus_silent system cell cpus are)

pub below_device : (system : SystemConfig) (cell : CellConfig) (cpus : Cpus) → IsJoining system cell → AreCpus system.root cell cpus → (SpeaksAgainst system cell Pool → ⊥) → IsFaultlessBelow system cell 4
below_device system cell cpus joins are room = faultless_more system cell 3 (below_pool system cell cpus joins are) room

-- ---- the pair

none_found : (found : List Finding) → ((found ≢ []) → ⊥) → found ≡ []
none_found [] none = refl
none_found (finding ∷ more) none = absurd (none (λ e. cc))

-- nothing is found where the first fault isn't told
pub clean_of : (system : SystemConfig) (cell : CellConfig) (number : ℕ) → 1 < number → IsFaultlessBelow system cell number → IsClean system (cell ∷ [])
clean_of system cell number above none =
    clean_from_nothing system (cell ∷ []) (none_found (findings system (cell ∷ [])) (λ found. none Cell above (inl found)))

pub talks_shmem : (number : ℕ) (device : PciDevice) → can_talk number device ≡ true → IsShmem device
talks_shmem number device talks =
    let endpoint = (and_parts (is_endpoint number device) (nat_le 2 device.num_msix_vectors) talks).0 in
    eqb-true device.kind 3 (and_parts (nat_lt number (2 ^ 32)) (is_shmem device) endpoint).1

-- two first pairs are of the same devices
record AreAlike (one other : Pair) : Type 0 where
  device : one.device ≡ other.device
  other_device : one.other ≡ other.other

one_pair : (system : SystemConfig) (cell : CellConfig) (one other : Pair) → IsClean system (cell ∷ []) → IsFirstPair system.root cell one → IsFirstPair system.root cell other → AreAlike one other
one_pair system cell one other clean first again =
    let below = first.first other again.is in
    let above = again.first one first.is in
    let number : one.number ≡ other.number = omega arith in
    let Own : ℕ → Type 0 = λ n. slice_get system.root.pci_devices n ≡ Some one.device in
    let device : one.device ≡ other.device = same_Some one.device other.device (sym (subst Own number first.is.own) ∙ again.is.own) in
    let bdf : one.other.bdf ≡ other.other.bdf = sym first.is.linked ∙ ap (λ (d : PciDevice). d.bdf) device ∙ again.is.linked in
    let other_number : one.other_number ≡ other.other_number =
    clean.single 1 cell refl one.other_number other.other_number one.other other.other first.is.other again.is.other
    (record { one_kind = talks_shmem one.other_number one.other first.is.other_talks; other_kind = talks_shmem other.other_number other.other again.is.other_talks; bdf = bdf }) in
    let Other : ℕ → Type 0 = λ n. slice_get cell.pci_devices n ≡ Some one.other in
    record { device = device; other_device = same_Some one.other other.other (sym (subst Other other_number first.is.other) ∙ again.is.other) }

pub below_section : (system : SystemConfig) (cell : CellConfig) (pair : Pair) → IsFaultlessBelow system cell 4 → IsFirstPair system.root cell pair → IsFaultlessBelow system cell 5
below_section system cell pair none first = faultless_more system cell 4 none (λ nothing. nothing pair first.is)

sections_silent : (system : SystemConfig) (cell : CellConfig) (pair : Pair) → IsClean system (cell ∷ []) → IsFirstPair system.root cell pair → has_sections system.root cell pair ≡ true → SpeaksAgainst system cell Section → ⊥
sections_silent system cell pair clean first has lacks =
    let alike = one_pair system cell pair lacks.pair clean first lacks.first in
    let d = alike.device in
    let e = alike.other_device in
    let same : has_sections system.root cell pair ≡ has_sections system.root cell lacks.pair =
    λ i. has_outputs system.root (d i) (e i) && (has_outputs cell (e i) (d i) && are_left_to_root cell (e i)) in
    both_ways (has_sections system.root cell lacks.pair) lacks.lacking (sym same ∙ has)

pub below_ecam : (system : SystemConfig) (cell : CellConfig) (pair : Pair) → IsFaultlessBelow system cell 4 → IsFirstPair system.root cell pair → has_sections system.root cell pair ≡ true → IsFaultlessBelow system cell 6
below_ecam system cell pair none first has =
    faultless_more system cell 5 (below_section system cell pair none first) (sections_silent system cell pair (clean_of system cell 4 (omega arith) none) first has)

function_silent : (system : SystemConfig) (cell : CellConfig) (pair : Pair) → IsClean system (cell ∷ []) → IsFirstPair system.root cell pair → has_function system cell pair.device ≡ true → SpeaksAgainst system cell Ecam → ⊥
function_silent system cell pair clean first has lacks =
    let alike = one_pair system cell pair lacks.pair clean first lacks.first in
    both_ways (has_function system cell lacks.pair.device) lacks.lacking (sym (ap (λ (d : PciDevice). has_function system cell d) alike.device) ∙ has)

pub below_window : (system : SystemConfig) (cell : CellConfig) (pair : Pair) → IsFaultlessBelow system cell 4 → IsFirstPair system.root cell pair → has_sections system.root cell pair ≡ true → has_function system cell pair.device ≡ true → IsFaultlessBelow system cell 7
below_window system cell pair none first sections function =
    faultless_more system cell 6 (below_ecam system cell pair none first sections) (function_silent system cell pair (clean_of system cell 4 (omega arith) none) first function)

-- ---- windows and the place

windows_silent : (system : SystemConfig) (cell : CellConfig) (window other : ℕ) → IsLeastWindow (obstacles system system.root) window → IsLeastWindow (obstacles system cell) other → SpeaksAgainst system cell Window → ⊥
windows_silent system cell window other is other_is (inl none) = none window is.is
windows_silent system cell window other is other_is (inr none) = none other other_is.is

pub below_place : (system : SystemConfig) (cell : CellConfig) (window other : ℕ) → IsFaultlessBelow system cell 7 → IsLeastWindow (obstacles system system.root) window → IsLeastWindow (obstacles system cell) other → IsFaultlessBelow system cell 8
below_place system cell window other none is other_is = faultless_more system cell 7 none (windows_silent system cell window other is other_is)

pub below_all : (system : SystemConfig) (cell : CellConfig) (window other : ℕ) → IsFaultlessBelow system cell 7 → IsLeastWindow (obstacles system system.root) window → IsLeastWindow (obstacles system cell) other → (SpeaksAgainst system cell Place → ⊥) → IsFaultlessBelow system cell 9
below_all system cell window other none is other_is place = faultless_more system cell 8 (below_place system cell window other none is other_is) place
