-- No slot gone over names a table where none is wanted.
use Rattle.std.proofs.Common.{◌≡◌, ℕ, ◌<◌, false}
use Rattle.jh_desc.specs.declared.descriptor.Descriptor.TheVariants.{Table}
use Rattle.jh_frames.specs.Memory.{byte_at, word_in}
use Rattle.jh_shape.specs.Laws.{is_to_table}
use Rattle.jh_edit.specs.Private.Slots.{want_at}
use Rattle.jh_edit.specs.Private.Finding.{read_in}
use Rattle.jh_edit.proofs.finding.unwanted_link.Given as goal

abbrev pub invariant-loop-slot : goal.invariant-loop-slot
invariant-loop-slot l = (slot next : ℕ) → slot < l.slot → is_to_table (want_at l.wants slot) ≡ false → read_in (word_in (byte_at l.f)) l.node slot ≡ Table next → ⊥
