-- The words of a table page that is written.
use Rattle.std.specs.Prelude.{ℕ, if◌then◌else◌}
use Rattle.jh_desc.specs.declared.descriptor.Descriptor.{Descriptor}
use Rattle.jh_desc.specs.declared.descriptor.Descriptor.TheVariants.{Invalid, Leaf}
use Rattle.jh_desc.specs.Descriptors.{read_of, word_of}
use Rattle.jh_shape.specs.declared.want.Want.{Want}
use Rattle.jh_shape.specs.declared.want.Want.TheVariants.{Nothing, Table as WantTable, Leaf as WantLeaf}
use Rattle.jh_edit.specs.declared.writing.Writing.{Writing}
use Rattle.jh_edit.specs.declared.writing.Writing.TheVariants.{Empty, Fill, Make}
use Rattle.jh_edit.specs.Turns.{is_wrong_leaf, lacks_leaf}

-- the descriptor of a page that is made: the leaf that is wanted, and else an invalid one
abbrev pub made_of : Want → Descriptor
made_of Nothing = Invalid
made_of WantTable = Invalid
made_of (WantLeaf out rights device) = Leaf out rights device

-- the word of a slot after it is written: emptied of a leaf that isn't wanted so, filled with the leaf that it lacks, or made
abbrev pub word_after : Writing → ℕ → Want → ℕ → ℕ
word_after Empty level want word = if is_wrong_leaf want (read_of word level) then 0 else word
word_after Fill level want word = if lacks_leaf want (read_of word level) then word_of (made_of want) level else word
word_after Make level want word = word_of (made_of want) level
