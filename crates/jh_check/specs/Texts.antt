-- A finding as a line of text, without its line feed.
use Rattle.std.specs.Prelude.{ℕ, List, ◌++◌, codes, decimal, ◌==◌, if◌then◌else◌, ◌-◌, ◌||◌, nat_lt, slice_index_or, Option, Some, None}
use Rattle.jh_check.specs.Findings.{rules_in_order}
use Rattle.jh_check.specs.declared.finding.Finding.{Finding}
use Rattle.jh_check.specs.declared.rule.Rule.{Rule}
use Rattle.jh_check.specs.declared.rule.Rule.TheVariants.{VirtOverlap, PhysOverlap, Hypervisor, OutOfRange, RootNotIdentity, CommInRoot, CommShape, ExecuteWithoutRead, SubpageTaken, CellsOverlap, Shmem, NoCpu, PhysAlign}

-- the rule of that number, if there is one
abbrev pub rule_of : ℕ → Option Rule
rule_of number = if number == 0 || nat_lt 13 number then None else Some (slice_index_or rules_in_order (number - 1) VirtOverlap)

-- the name of the rule
abbrev pub name_of : Rule → List ℕ
name_of VirtOverlap = codes "VirtOverlap"
name_of PhysOverlap = codes "PhysOverlap"
name_of Hypervisor = codes "Hypervisor"
name_of OutOfRange = codes "OutOfRange"
name_of RootNotIdentity = codes "RootNotIdentity"
name_of CommInRoot = codes "CommInRoot"
name_of CommShape = codes "CommShape"
name_of ExecuteWithoutRead = codes "ExecuteWithoutRead"
name_of SubpageTaken = codes "SubpageTaken"
name_of CellsOverlap = codes "CellsOverlap"
name_of Shmem = codes "Shmem"
name_of NoCpu = codes "NoCpu"
name_of PhysAlign = codes "PhysAlign"

-- the words for a region of a cell, or for the hypervisor's memory
abbrev pub location_text : ℕ → ℕ → List ℕ
location_text cell item = if cell == 16 then codes "h" else decimal cell ++ (codes "." ++ decimal item)

-- the words for what breaks the rule: two regions, a device, a cell, or a region
abbrev pub items_text : Rule → Finding → List ℕ
items_text VirtOverlap finding = location_text finding.cell finding.item ++ (codes " " ++ location_text finding.other_cell finding.other_item)
items_text PhysOverlap finding = location_text finding.cell finding.item ++ (codes " " ++ location_text finding.other_cell finding.other_item)
items_text SubpageTaken finding = location_text finding.cell finding.item ++ (codes " " ++ location_text finding.other_cell finding.other_item)
items_text CellsOverlap finding = location_text finding.cell finding.item ++ (codes " " ++ location_text finding.other_cell finding.other_item)
items_text Shmem finding = decimal finding.cell ++ (codes ".d" ++ decimal finding.item)
items_text NoCpu finding = decimal finding.cell
items_text _ finding = location_text finding.cell finding.item

-- the words for a finding of the rule: `NUMBER NAME ITEMS`; a number that no rule has is told alone
abbrev pub text_by : Option Rule → Finding → List ℕ
text_by None finding = decimal finding.number
text_by (Some rule) finding = decimal finding.number ++ (codes " " ++ (name_of rule ++ (codes " " ++ items_text rule finding)))

-- the words for a finding, without a line feed
abbrev pub finding_text : Finding → List ℕ
finding_text finding = text_by (rule_of finding.number) finding
