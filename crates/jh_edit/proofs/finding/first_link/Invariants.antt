-- No slot gone over names a table.
use Rattle.std.proofs.Common.{◌≡◌, ℕ, ◌+◌, ◌-◌, ◌*◌, ◌<◌}
use Rattle.jh_num.specs.declared.level.TheConstants.{LAST_LEVEL}
use Rattle.jh_desc.specs.declared.descriptor.Descriptor.TheVariants.{Table}
use Rattle.jh_desc.specs.Descriptors.{read_of}
use Rattle.jh_frames.specs.Memory.{byte_at, word_in}
use Rattle.jh_edit.proofs.finding.first_link.Given as goal

abbrev pub invariant-loop-slot : goal.invariant-loop-slot
invariant-loop-slot l = (slot next : ℕ) → slot < l.slot → read_of (word_in (byte_at l.f) (l.page + 8 * slot)) (LAST_LEVEL - l.below) ≡ Table next → ⊥
