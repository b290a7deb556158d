-- The live cells, and what a CPU of one runs.
use Rattle.std.specs.Prelude.{ℕ, ◌<◌, Bool, ◌&&◌, ◌==◌, IsTrue, List, [], find, nat_eq, slice_get, Option, Some, option_map, if◌then◌else◌}
use Rattle.std.specs.Cmp.Lexicographic.{pointwise}
use Rattle.std.specs.Option.{option_map_or}
use Rattle.jh_cellcfg.specs.declared.config.CellConfig.{CellConfig}
use Rattle.jh_cellcfg.specs.declared.region.Region.{Region}
use Rattle.jh_cellcfg.specs.declared.live.Live.{Live}
use Rattle.jh_cellcfg.specs.Cells.{name_of, is_cpu_set}
use Rattle.jh_cellcfg.specs.Lives.{has_id}
use Rattle.jh_cpu.specs.declared.cpu.Cpu.{Cpu}
use Rattle.jh_script.specs.declared.op.Op.{Op}
use Rattle.jh_script.specs.declared.image.Program.{Program}
use Rattle.jh_script.specs.declared.image.Image.{Image}
use Rattle.jh_history.specs.Facts.{Facts}

-- the CPU is one of the board's: they are those of root
abbrev pub is_on_board : Image → ℕ → Bool
is_on_board image cpu = is_cpu_set image.system.root.cpu_set cpu

-- the board has no CPU above 15
abbrev pub HasFewCpus : Image → Type 0
HasFewCpus image = (cpu : ℕ) → IsTrue (is_on_board image cpu) → cpu < 16

-- the program is that of the CPU in the cell of that name
abbrev pub is_program_of : List ℕ → ℕ → Program → Bool
is_program_of name cpu program = pointwise nat_eq program.cell name && (program.cpu == cpu)

-- the operations of the CPU in the cell of that name, none where the image has no program for it
unfoldable pub program_ops : Image → List ℕ → ℕ → List Op
program_ops image name cpu = option_map_or (λ (p : Program). p.ops) (find (is_program_of name cpu) image.programs) []

-- the configuration of the cell with the id among these, which live besides root
abbrev pub live_in : List Live → ℕ → Option CellConfig
live_in cells id = option_map (λ (live : Live). live.config) (find (has_id id) cells)

-- the configuration of the live cell with the id; root's is the image's
abbrev pub cell_in : Image → List Live → ℕ → Option CellConfig
cell_in image cells id = if id == image.system.root.id then Some image.system.root else live_in cells id

-- the regions of the live cell with the id, none where no live cell has it
abbrev pub regions_in : Image → List Live → ℕ → List Region
regions_in image cells id = option_map_or (λ (c : CellConfig). c.memory_regions) (cell_in image cells id) []

-- the operations of the CPU's program in the live cell with the id: of the program of the cell's name
abbrev pub ops_in : Image → List Live → ℕ → ℕ → List Op
ops_in image cells id cpu = option_map_or (λ (c : CellConfig). program_ops image (name_of c) cpu) (cell_in image cells id) []

-- the configuration of the live cell with the id, where these facts hold
abbrev pub cell_of : Image → Facts → ℕ → Option CellConfig
cell_of image facts id = cell_in image facts.cells id

-- the operations of the CPU's program in the live cell with the id, where these facts hold
abbrev pub ops_of : Image → Facts → ℕ → ℕ → List Op
ops_of image facts id cpu = ops_in image facts.cells id cpu

-- the operation that the CPU in this state is at
abbrev pub op_at : Image → Facts → Cpu → ℕ → Option Op
op_at image facts state cpu = slice_get (ops_of image facts state.owner cpu) state.position
