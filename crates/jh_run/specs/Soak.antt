-- The board of `soak`: its configurations and its programs.
use Rattle.std.specs.Prelude.{ℕ, zero, suc, ◌+◌, ◌-◌, ◌*◌, List, [], ◌∷◌, ◌++◌, length, replicate, codes}
use Rattle.jh_cellcfg.specs.declared.region.Region.{Region}
use Rattle.jh_cellcfg.specs.declared.config.CellConfig.{CellConfig}
use Rattle.jh_cellcfg.specs.Empty.{empty_cell, bare_system}
use Rattle.jh_cellcfg.specs.declared.config.SystemConfig.{SystemConfig}
use Rattle.jh_cellcfg.specs.Spelling.{spelling}
use Rattle.jh_script.specs.declared.op.Op.{Op}
use Rattle.jh_script.specs.declared.op.Op.TheVariants.{Read, Write, Await, Hvc}
use Rattle.jh_script.specs.declared.image.Image.{Image}
use Rattle.jh_script.specs.declared.image.Preload.{Preload}
use Rattle.jh_script.specs.declared.image.Program.{Program}

-- ---- configurations, in which all that isn't named here is 0

-- the memory region of this first place, first address and size, with these flags
abbrev pub region : ℕ → ℕ → ℕ → ℕ → Region
region phys virt size flags = record { phys_start = phys; virt_start = virt; size = size; flags = flags }

-- a name with zero bytes behind it
abbrev pub padded : List ℕ → List ℕ
padded name = name ++ replicate (32 - length name) 0

-- a cell of that name and id, with these regions and with CPUs below 8
abbrev pub bare_cell : List ℕ → ℕ → ℕ → List Region → CellConfig
bare_cell name id cpus regions = record (empty_cell id) { name = name; cpu_set = cpus ∷ replicate 7 0; memory_regions = regions }

-- the system, whose root has CPUs 0 to 3
unfoldable pub soak_system : SystemConfig
soak_system =
    bare_system (region 0x7fc00000 0 0x400000 0) (bare_cell (padded (codes "soak")) 0 0xf (region 0x40000000 0x40000000 0x3fc00000 0xf ∷ []))

-- a cell whose memory has address 0, is at the place, and may be loaded by root, with a communication region
abbrev pub loadable_cell : List ℕ → ℕ → ℕ → ℕ → CellConfig
loadable_cell name id cpus place = bare_cell name id cpus (region place 0 0x10000 0x4f ∷ region 0 0x80000000 0x1000 0x23 ∷ [])

-- cell a, with CPU 2
unfoldable pub cell_a : CellConfig
cell_a = loadable_cell (padded (codes "a")) 1 0x4 0x50000000

-- cell b, with CPU 3
unfoldable pub cell_b : CellConfig
cell_b = loadable_cell (padded (codes "b")) 2 0x8 0x60000000

-- ---- programs

-- writes of so many numbers, from the first one on, each 8 bytes wide and at its own place behind the base
unfoldable pub number_writes : ℕ → ℕ → ℕ → List Op
number_writes base first zero = []
number_writes base first (suc n) = number_writes base first n ++ Write 8 (base + 8 * (first + n)) (first + n) ∷ []

-- reads of so many numbers, each 8 bytes wide and at its own place behind the base
unfoldable pub number_reads : ℕ → ℕ → List Op
number_reads base zero = []
number_reads base (suc n) = number_reads base n ++ Read 8 (base + 8 * n) ∷ []

-- the operations of root in a round: it creates both cells, loads the number into a, starts both, destroys them, and
-- reads what a wrote
abbrev pub round_ops : ℕ → List Op
round_ops r =
    Hvc 1 0x48000000 0 ∷ Hvc 1 0x48010000 0 ∷ Hvc 3 1 0 ∷ Write 8 0x50000000 r ∷ Hvc 2 1 0 ∷ Hvc 2 2 0
    ∷ Hvc 4 1 0 ∷ Hvc 4 2 0 ∷ Read 8 0x50000008 ∷ []

-- the operations of root in so many rounds
unfoldable pub rounds_ops : ℕ → List Op
rounds_ops zero = []
rounds_ops (suc n) = rounds_ops n ++ round_ops (n + 1)

-- the operations of root's second CPU, which does nothing with cells
unfoldable pub beside_ops : List Op
beside_ops = number_writes 0x40000000 0 256 ++ number_reads 0x40000000 256

-- the operations that wait for a message and reply to it
abbrev pub answer_ops : ℕ → ℕ → List Op
answer_ops message reply = Await 4 0x8000000c message ∷ Write 4 0x80000010 reply ∷ []

-- the operations of cell a: it reads what was loaded, writes numbers, and agrees to shut down
unfoldable pub ops_a : List Op
ops_a = (Read 8 0 ∷ [] ++ number_writes 0 1 16) ++ answer_ops 1 3

-- the operations of cell b: it writes numbers, hears that a was destroyed, and agrees to shut down
unfoldable pub ops_b : List Op
ops_b = (number_writes 0 1 16 ++ answer_ops 2 4) ++ answer_ops 1 3

-- the program of the CPU of the cell of that name
abbrev pub program : List ℕ → ℕ → List Op → Program
program cell cpu ops = record { cell = cell; cpu = cpu; ops = ops }

-- ---- the image

-- the preload of the cell's configuration at the place
abbrev pub preload : ℕ → CellConfig → Preload
preload at cell = record { at = at; bytes = spelling cell }

-- the programs of the board of so many rounds
unfoldable pub programs_of : ℕ → List Program
programs_of n =
    program (codes "soak") 0 (rounds_ops n) ∷ program (codes "soak") 1 beside_ops
    ∷ program (codes "a") 2 ops_a ∷ program (codes "b") 3 ops_b ∷ []

-- the image of so many rounds
unfoldable pub soak_image : ℕ → Image
soak_image n = record {
  system = soak_system;
  preloads = preload 0x48000000 cell_a ∷ preload 0x48010000 cell_b ∷ [];
  programs = programs_of n;
}
