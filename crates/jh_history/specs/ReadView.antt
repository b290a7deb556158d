-- How a configuration is read from bytes, where these may be read, and what it is refused for beside other cells.
use Rattle.std.specs.Prelude.{ℕ, ℤ, zero, suc, ◌+◌, Bool, ◌==◌, ◌&&◌, not, List, [], ◌∷◌, ◌++◌, Option, Some, option_map, option_and_then}
use Rattle.jh_cellcfg.specs.declared.config.CellConfig.{CellConfig}
use Rattle.jh_check.specs.Refusals.{refusal_of}
use Rattle.jh_shape.specs.Pages.{pages_of}
use Rattle.jh_cpu.specs.declared.cpu.Cpu.{Cpu}
use Rattle.jh_script.specs.declared.image.Image.{Image}
use Rattle.jh_history.specs.Admitted.{pool_pages}
use Rattle.jh_history.specs.Lives.{is_on_board}
use Rattle.jh_history.specs.declared.reading.ReadCell.{ReadCell}
use Rattle.jh_history.specs.Configs.{read_cell}

-- the bytes from the address on, so many of them, where each may be read
abbrev pub bytes_by : (ℕ → Option ℕ) → ℕ → ℕ → Option (List ℕ)
bytes_by byte at zero = Some []
bytes_by byte at (suc count) = option_and_then (λ (b : ℕ). option_map (λ (bs : List ℕ). b ∷ bs) (bytes_by byte (at + 1) count)) (byte at)

-- what is read of a configuration at the address
abbrev pub read_by : (ℕ → Option ℕ) → ℕ → ReadCell
read_by byte at = read_cell (bytes_by byte at)

-- the caller may give the CPU away, which is in this state
abbrev pub gives_by : Image → ℕ → ℕ → Cpu → Bool
gives_by image caller cpu state = is_on_board image cpu && not (cpu == caller) && (state.owner == image.system.root.id)

-- what a configuration is refused for beside these, where such CPUs may be given away
abbrev pub refusal_by : Image → List CellConfig → (ℕ → Bool) → CellConfig → Option ℤ
refusal_by image configs may config =
    refusal_of image.system configs config may (pages_of image.system.root.memory_regions (configs ++ config ∷ [])) (pool_pages image.system)
