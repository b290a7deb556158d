-- Where root's programs are in an image.
use Rattle.std.specs.Prelude.{◌≡◌, ℕ, ◌<◌, List, find, slice_get, slice_index}
use Rattle.jh_cellcfg.specs.Cells.{name_of}
use Rattle.jh_script.specs.declared.image.Image.{Image}
use Rattle.jh_history.specs.Lives.{is_program_of}

-- of each of 16 CPUs the index is that of root's program, or past all programs where it has none
abbrev pub AreRootPrograms : Image → List ℕ → Type 0
AreRootPrograms image indices = (cpu : ℕ) → cpu < 16 → find (is_program_of (name_of image.system.root) cpu) image.programs ≡ slice_get image.programs (slice_index indices cpu)
