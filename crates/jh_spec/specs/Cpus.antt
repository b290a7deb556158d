-- The bitmap of a list of CPUs: CPU i is bit i mod 8 of byte i div 8.
use Rattle.std.specs.Prelude.{ℕ, zero, suc, ◌+◌, ◌*◌, Bool, true, ◌&&◌, not, ◌==◌, nat_lt, List, [], ◌∷◌, ◌++◌, Option, Some, None, option_and_then, if◌then◌else◌}
use Rattle.std.specs.List.{list_any}
use Rattle.serde_json.specs.Data.{Data}
use Rattle.jh_spec.specs.Json.{list_told}
use Rattle.jh_spec.specs.Fields.{u64_told}

-- the CPU is one of these
abbrev pub names_cpu : List ℕ → ℕ → Bool
names_cpu cpus cpu = list_any (λ other. other == cpu) cpus

-- each CPU has a bit below the limit, and differs from those before it
abbrev pub are_new : ℕ → List ℕ → List ℕ → Bool
are_new limit before [] = true
are_new limit before (cpu ∷ cpus) = nat_lt cpu limit && not (names_cpu before cpu) && are_new limit (before ++ cpu ∷ []) cpus

-- a CPU's bit in its byte, by its weight there
abbrev pub cpu_bit : List ℕ → ℕ → ℕ → ℕ
cpu_bit cpus cpu weight = if names_cpu cpus cpu then weight else 0

-- the byte of eight CPUs, from this one on
abbrev pub cpu_byte : List ℕ → ℕ → ℕ
cpu_byte cpus first =
    cpu_bit cpus first 1 + cpu_bit cpus (first + 1) 2 + cpu_bit cpus (first + 2) 4 + cpu_bit cpus (first + 3) 8
    + cpu_bit cpus (first + 4) 16 + cpu_bit cpus (first + 5) 32 + cpu_bit cpus (first + 6) 64 + cpu_bit cpus (first + 7) 128

-- the bitmap of these CPUs, of so many bytes
unfoldable pub bitmap : ℕ → List ℕ → List ℕ
bitmap zero cpus = []
bitmap (suc bytes) cpus = bitmap bytes cpus ++ cpu_byte cpus (8 * bytes) ∷ []

-- the bitmap of these CPUs, where each has a bit in so many bytes and none stands twice
abbrev pub bitmap_of : ℕ → List ℕ → Option (List ℕ)
bitmap_of bytes cpus = if are_new (8 * bytes) [] cpus then Some (bitmap bytes cpus) else None

-- the bitmap of so many bytes that a list of CPUs tells
abbrev pub cpus_told : ℕ → Data → Option (List ℕ)
cpus_told bytes d = option_and_then (bitmap_of bytes) (list_told u64_told d)
