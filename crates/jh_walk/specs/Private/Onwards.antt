-- Where one descriptor leads, and what is found and read from there on.
use Rattle.std.specs.Prelude.{◌≡◌, ℕ, ◌%◌, ◌<◌, nat_lt, Option, Some, None, List, [], if◌then◌else◌}
use Rattle.jh_num.specs.declared.address.TheConstants.{ADDRESS_END}
use Rattle.jh_num.specs.declared.steps.Probe.{Probe}
use Rattle.jh_desc.specs.declared.descriptor.Descriptor.{Descriptor}
use Rattle.jh_desc.specs.declared.descriptor.Descriptor.TheVariants.{Invalid, Table, Leaf}
use Rattle.jh_desc.specs.declared.descriptor.Hit.{Hit}
use Rattle.jh_walk.specs.declared.walking.Onward.{Onward}
use Rattle.jh_walk.specs.declared.walking.Onward.TheVariants.{Nowhere, Found, Below}
use Rattle.jh_walk.specs.Walks.{hit_of}

-- a place where a table can stand
pub record IsTablePlace (table : ℕ) : Type 0 where
  pub aligned : table % 4096 ≡ 0
  pub below : table < ADDRESS_END

-- a table that is led to stands at a place where a table can stand
abbrev pub LeadsToPlace : Onward → Type 0
LeadsToPlace Nowhere = Unit {0}
LeadsToPlace (Found hit) = Unit {0}
LeadsToPlace (Below next) = IsTablePlace next

-- where the descriptor of the level leads the address
abbrev pub onward_of : ℕ → ℕ → Descriptor → Onward
onward_of level at Invalid = Nowhere
onward_of level at (Leaf out rights device) = Found (hit_of level at out rights device)
onward_of level at (Table next) = if nat_lt next ADDRESS_END then Below next else Nowhere

-- what is found, where `on` says what the next table gives
abbrev pub found_on : (ℕ → Option Hit) → Onward → Option Hit
found_on on Nowhere = None
found_on on (Found hit) = Some hit
found_on on (Below next) = on next

-- what is read further, where `on` says what is read from the next table on
abbrev pub reads_on : (ℕ → List Probe) → Onward → List Probe
reads_on on Nowhere = []
reads_on on (Found hit) = []
reads_on on (Below next) = on next
