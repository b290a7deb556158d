-- The marks of CPUs from which their bitmap is made.
use Rattle.std.specs.Prelude.{◌≡◌, ◌<◌, ℕ, ◌+◌, length, get_or, false, Bool, List, if◌then◌else◌}
use Rattle.jh_spec.specs.Cpus.{names_cpu}

-- the marks say for each CPU below the limit whether it is named
pub record AreMarks (limit : ℕ) (cpus : List ℕ) (marks : List Bool) : Type 0 where
  pub len : length marks ≡ limit
  pub marked : (cpu : ℕ) → cpu < limit → get_or marks cpu false ≡ names_cpu cpus cpu

-- a mark's bit in its byte, by its weight there
abbrev pub mark_bit : List Bool → ℕ → ℕ → ℕ
mark_bit marks cpu weight = if get_or marks cpu false then weight else 0

-- the byte of eight marks, from this one on
abbrev pub mark_byte : List Bool → ℕ → ℕ
mark_byte marks first =
    mark_bit marks first 1 + mark_bit marks (first + 1) 2 + mark_bit marks (first + 2) 4 + mark_bit marks (first + 3) 8
    + mark_bit marks (first + 4) 16 + mark_bit marks (first + 5) 32 + mark_bit marks (first + 6) 64 + mark_bit marks (first + 7) 128
