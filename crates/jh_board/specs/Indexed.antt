-- Where each CPU's program is in an image, for the cell that it was found for. It is found again at each Commit.
use Rattle.std.specs.Prelude.{◌≡◌, ℕ, List, [], slice_get, Some}
use Rattle.std.specs.Option.{option_map_or}
use Rattle.jh_cellcfg.specs.declared.live.Live.{Live}
use Rattle.jh_script.specs.declared.image.Image.{Image}
use Rattle.jh_script.specs.declared.image.Program.{Program}
use Rattle.jh_script.specs.declared.op.Op.{Op}
use Rattle.jh_history.specs.Lives.{ops_in}
use Rattle.jh_board.specs.declared.indexed.ProgramIndex.{ProgramIndex}

-- the operations of the program at the index, none where there is no such program
abbrev pub ops_at : Image → ℕ → List Op
ops_at image index = option_map_or (λ (p : Program). p.ops) (slice_get image.programs index) []

-- the program of each CPU is where it was found, for the cell that it was found for
abbrev pub AreProgramIndices : Image → List Live → List ProgramIndex → Type 0
AreProgramIndices image lives found = (cpu : ℕ) (p : ProgramIndex) → slice_get found cpu ≡ Some p → ops_at image p.index ≡ ops_in image lives p.owner cpu
