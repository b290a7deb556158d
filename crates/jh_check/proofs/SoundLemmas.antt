-- Cells of which no region breaks a rule about one region.
use Rattle.std.proofs.Common.{◌≡◌, ℕ, ◌<◌, true, false, ◌&&◌, ◌||◌, List, length, take, get_or, ap}
use Rattle.std.proofs.lemmas.Bool.{false≢true, false_from_ne_true, both_ways, and_parts, and_from, or_left, or_right}
use Rattle.jh_cellcfg.specs.declared.region.Region.{Region}
use Rattle.jh_cellcfg.specs.Regions.{has_size}
use Rattle.jh_check.specs.declared.rule.Rule.{Rule}
use Rattle.jh_check.specs.declared.rule.Rule.TheVariants.{Hypervisor, OutOfRange, RootNotIdentity, CommInRoot, CommShape, ExecuteWithoutRead, PhysAlign}
use Rattle.jh_check.specs.Regions.{breaks_alone, region_breaks}
use Rattle.jh_check.specs.Lists.{only_if}
use Rattle.jh_check.specs.Findings.{in_cell, in_cell_at, finding_of}
use Rattle.jh_check.specs.Private.Sound.{breaks_in_cell, breaks_one, breaks_any, AreSound}
use Rattle.jh_check.proofs.ListLemmas.{found_none0}

-- the last of the tests
in_last : (h : Region) (cell : ℕ) (earlier : List Region) (x : Region) → breaks_in_cell h cell earlier x ≡ true → breaks_one h cell earlier x ≡ true
in_last h cell earlier x t =
    let last = breaks_in_cell h cell earlier x in
    let fourth = breaks_alone PhysAlign h cell earlier x in
    let third = breaks_alone ExecuteWithoutRead h cell earlier x in
    let second = breaks_alone OutOfRange h cell earlier x in
    or_right (breaks_alone Hypervisor h cell earlier x) (second || (third || (fourth || last))) (or_right second (third || (fourth || last)) (or_right third (fourth || last) (or_right fourth last t)))

-- a rule that a region breaks is one of those that are tested
tested : (rule : Rule) (h : Region) (cell : ℕ) (earlier : List Region) (x : Region) → breaks_alone rule h cell earlier x ≡ true → breaks_one h cell earlier x ≡ true
tested Hypervisor h cell earlier x t =
    or_left (breaks_alone Hypervisor h cell earlier x) (breaks_alone OutOfRange h cell earlier x || (breaks_alone ExecuteWithoutRead h cell earlier x || (breaks_alone PhysAlign h cell earlier x || breaks_in_cell h cell earlier x))) t
tested OutOfRange h cell earlier x t =
    let rest = breaks_alone ExecuteWithoutRead h cell earlier x || (breaks_alone PhysAlign h cell earlier x || breaks_in_cell h cell earlier x) in
    let second = breaks_alone OutOfRange h cell earlier x in
    or_right (breaks_alone Hypervisor h cell earlier x) (second || rest) (or_left second rest t)
tested ExecuteWithoutRead h cell earlier x t =
    let rest = breaks_alone PhysAlign h cell earlier x || breaks_in_cell h cell earlier x in
    let third = breaks_alone ExecuteWithoutRead h cell earlier x in
    let second = breaks_alone OutOfRange h cell earlier x in
    or_right (breaks_alone Hypervisor h cell earlier x) (second || (third || rest)) (or_right second (third || rest) (or_left third rest t))
tested PhysAlign h cell earlier x t =
    let last = breaks_in_cell h cell earlier x in
    let fourth = breaks_alone PhysAlign h cell earlier x in
    let third = breaks_alone ExecuteWithoutRead h cell earlier x in
    let second = breaks_alone OutOfRange h cell earlier x in
    or_right (breaks_alone Hypervisor h cell earlier x) (second || (third || (fourth || last))) (or_right second (third || (fourth || last)) (or_right third (fourth || last) (or_left fourth last t)))
tested RootNotIdentity h cell earlier x t =
    let rest = breaks_alone CommInRoot h cell earlier x || breaks_alone CommShape h cell earlier x in
    in_last h cell earlier x (or_left (breaks_alone RootNotIdentity h cell earlier x) rest t)
tested CommInRoot h cell earlier x t =
    let third = breaks_alone CommShape h cell earlier x in
    let second = breaks_alone CommInRoot h cell earlier x in
    in_last h cell earlier x (or_right (breaks_alone RootNotIdentity h cell earlier x) (second || third) (or_left second third t))
tested CommShape h cell earlier x t =
    let third = breaks_alone CommShape h cell earlier x in
    let second = breaks_alone CommInRoot h cell earlier x in
    in_last h cell earlier x (or_right (breaks_alone RootNotIdentity h cell earlier x) (second || third) (or_right second third t))
tested _ h cell earlier x t = absurd (false≢true t)

-- a region that breaks none of the tested rules breaks none
pub breaks_none : (rule : Rule) (h : Region) (cell : ℕ) (earlier : List Region) (x : Region) → breaks_any h cell earlier x ≡ false → region_breaks rule h cell earlier x ≡ false
unfolding region_breaks
breaks_none rule h cell earlier x e =
    let alone = breaks_alone rule h cell earlier x in
    false_from_ne_true (has_size x && alone) (λ t.
    both_ways (has_size x && breaks_one h cell earlier x) e (and_from (has_size x) (breaks_one h cell earlier x) ((and_parts (has_size x) alone t).0) (tested rule h cell earlier x ((and_parts (has_size x) alone t).1))))

-- where all of them are such, the cell is sound
pub sound_all : (h : Region) (cell : ℕ) (regions : List Region) → ((i : ℕ) (d : Region) → i < length regions → breaks_any h cell (take i regions) (get_or regions i d) ≡ false) → AreSound h cell regions
unfolding in_cell only_if
sound_all h cell regions each = λ rule.
    let none : Region = record { phys_start = 0; virt_start = 0; size = 0; flags = 0 } in
    found_none0 (in_cell_at rule h cell regions) regions none (λ i within.
    ap (λ t. only_if t (finding_of rule cell i 0 0)) (breaks_none rule h cell (take i regions) (get_or regions i none) (each i none within)))
