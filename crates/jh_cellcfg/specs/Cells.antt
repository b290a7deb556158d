-- What a configuration says of its cell: its name, its CPUs, and its flags.
use Rattle.std.specs.Prelude.{ℕ, ◌/◌, ◌%◌, ◌^◌, Bool, not, ◌==◌, bit_and, List, slice_index}
use Rattle.std.specs.List.{before_first}
use Rattle.jh_cellcfg.specs.declared.config.CellConfig.{CellConfig}

-- the cell's name: the bytes before the first zero
abbrev pub name_of : CellConfig → List ℕ
name_of config = before_first (λ b. b == 0) config.name

-- the set names the CPU: CPU i is bit i mod 8 of byte i div 8, and what stands past the set's end is 0
abbrev pub is_cpu_set : List ℕ → ℕ → Bool
is_cpu_set set cpu = not (bit_and (slice_index set (cpu / 8)) (2 ^ (cpu % 8)) == 0)

-- all bits of the mask are among the cell's flags
abbrev pub has_cell_flags : ℕ → CellConfig → Bool
has_cell_flags mask config = bit_and config.flags mask == mask

-- the cell is passive: it isn't asked and isn't told, since it answers no messages
abbrev pub is_passive : CellConfig → Bool
is_passive = has_cell_flags 0x1

-- the hypervisor's console may be the cell's too; this is kept and changes nothing
abbrev pub may_have_console : CellConfig → Bool
may_have_console = has_cell_flags 0x40000000

-- the hypervisor's console is the cell's too; this is kept and changes nothing
abbrev pub has_console : CellConfig → Bool
has_console = has_cell_flags 0x80000000
