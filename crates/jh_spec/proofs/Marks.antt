-- What the loop over a list of CPUs has marked.
use Rattle.std.proofs.Common.{◌≡◌, ℕ, zero, suc, ◌+◌, ◌*◌, ◌≤◌, Bool, List, [], ◌∷◌, ◌++◌, length, length-append, take, drop, refl, arith, add-one}
use Rattle.jh_spec.specs.Cpus.{are_new, cpu_byte, bitmap}
use Rattle.jh_spec.specs.Private.Cpus.{mark_byte, AreMarks}

-- so many CPUs of the list are new, and marked
pub record MarkedSoFar (limit : ℕ) (cpus : List ℕ) (count : ℕ) (marks : List Bool) : Type 0 where
  pub new : are_new limit (take count cpus) (drop count cpus) ≡ are_new limit [] cpus
  pub marked : AreMarks limit (take count cpus) marks

-- the byte by marks is the byte by the list
pub mark_byte_cpus : (limit : ℕ) (cpus : List ℕ) (marks : List Bool) (first : ℕ) → AreMarks limit cpus marks → first + 8 ≤ limit → mark_byte marks first ≡ cpu_byte cpus first
mark_byte_cpus limit cpus marks first are enough =
    rw (are.marked first (omega arith), are.marked (first + 1) (omega arith), are.marked (first + 2) (omega arith), are.marked (first + 3) (omega arith), are.marked (first + 4) (omega arith), are.marked (first + 5) (omega arith), are.marked (first + 6) (omega arith), are.marked (first + 7) (omega arith))

pub bitmap_suc : (bytes : ℕ) (cpus : List ℕ) → bitmap (bytes + 1) cpus ≡ bitmap bytes cpus ++ cpu_byte cpus (8 * bytes) ∷ []
unfolding bitmap
bitmap_suc bytes cpus = rw add-one refl

pub length_bitmap : (bytes : ℕ) (cpus : List ℕ) → length (bitmap bytes cpus) ≡ bytes
unfolding bitmap
length_bitmap zero cpus = refl
length_bitmap (suc bytes) cpus = let before = length_bitmap bytes cpus in omega (arith, length-append (bitmap bytes cpus) (cpu_byte cpus (8 * bytes) ∷ []), before)
