-- The walk of stage-2 tables over the words of memory (VMSAv8-64, 4 KB granule), and the descriptors that
-- it reads.
use Rattle.std.specs.Prelude.{ℕ, ◌+◌, ◌-◌, ◌*◌, ◌%◌, Bool, nat_lt, Option, Some, None, List, [], ◌∷◌, ◌++◌, fold, zero, suc, if◌then◌else◌}
use Rattle.jh_num.specs.declared.address.TheConstants.{ADDRESS_END}
use Rattle.jh_num.specs.declared.rights.Rights.{Rights}
use Rattle.jh_num.specs.declared.steps.Probe.{Probe}
use Rattle.jh_num.specs.Counted.{Counted, last_eight}
use Rattle.jh_num.specs.Numbers.{counted_up}
use Rattle.jh_desc.specs.declared.descriptor.Descriptor.{Descriptor}
use Rattle.jh_desc.specs.declared.descriptor.Descriptor.TheVariants.{Invalid, Table, Leaf}
use Rattle.jh_desc.specs.declared.descriptor.Hit.{Hit}
use Rattle.jh_desc.specs.Descriptors.{read_of}
use Rattle.jh_desc.specs.Levels.{index_of}
use Rattle.jh_num.specs.declared.level.TheConstants.{LAST_LEVEL, FIRST_LEVEL}
use Rattle.jh_num.specs.Levels.{slot_size}

-- how many levels there are
abbrev pub levels : ℕ
levels = LAST_LEVEL + 1 - FIRST_LEVEL

-- where the descriptor of the address stands in its table of the level
abbrev pub descriptor_at : ℕ → ℕ → ℕ → ℕ
descriptor_at level table at = table + 8 * index_of level at

-- what a leaf of the level gives the address: the leaf's place and behind it the address's offset in the slot, the leaf's
-- rights and kind of memory, and the slot's size
abbrev pub hit_of : ℕ → ℕ → ℕ → Rights → Bool → Hit
hit_of level at out rights device = record { out = out + at % slot_size level; rights = rights; device = device; span = slot_size level }

-- what a descriptor leads to, where `on` goes on at the next table
abbrev pub walk_on : (ℕ → Option Hit) → ℕ → ℕ → Descriptor → Option Hit
walk_on on level at Invalid = None
walk_on on level at (Leaf out rights device) = Some (hit_of level at out rights device)
walk_on on level at (Table next) = if nat_lt next ADDRESS_END then on next else None

-- the walk of an address from a table with so many levels left, the last of which is that of pages
unfoldable pub walk_of : (ℕ → ℕ) → ℕ → ℕ → ℕ → Option Hit
walk_of word zero table at = None
walk_of word (suc n) table at =
    walk_on (λ next. walk_of word n next at) (LAST_LEVEL - n) at (read_of (word (descriptor_at (LAST_LEVEL - n) table at)) (LAST_LEVEL - n))

-- the reads that a descriptor leads to
abbrev pub probes_on : (ℕ → List Probe) → Descriptor → List Probe
probes_on on Invalid = []
probes_on on (Leaf out rights device) = []
probes_on on (Table next) = if nat_lt next ADDRESS_END then on next else []

-- the descriptors that the walk reads, in order
unfoldable pub probes_of : (ℕ → ℕ) → ℕ → ℕ → ℕ → List Probe
probes_of word zero table at = []
probes_of word (suc n) table at =
    record { at = descriptor_at (LAST_LEVEL - n) table at; word = word (descriptor_at (LAST_LEVEL - n) table at) }
    ∷ probes_on (λ next. probes_of word n next at) (read_of (word (descriptor_at (LAST_LEVEL - n) table at)) (LAST_LEVEL - n))

-- counted reads after one more
abbrev pub counted : Counted → Probe → Counted
counted steps probe = record { count = counted_up steps.count; probes = last_eight (steps.probes ++ probe ∷ []) }

-- counted reads after these more, in order
abbrev pub all_counted : Counted → List Probe → Counted
all_counted steps probes = fold counted steps probes
