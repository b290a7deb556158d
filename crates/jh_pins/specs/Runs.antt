-- The runs of a set of pins: the longest rows of pins of one chip whose numbers follow one another.
use Rattle.std.specs.Prelude.{◌≡◌, ℕ, ◌+◌, ◌<◌, ◌≤◌, ◌⊎◌, Bool, true, false, List, All, AllPairs, Contains}
use Rattle.jh_pins.specs.declared.pin.Pin.{Pin}
use Rattle.jh_pins.specs.declared.pin.PinRun.{PinRun}

-- the pin of the chip with the number
abbrev pub pin_of : ℕ → ℕ → Pin
pin_of chip number = record { chip = chip; number = number }

-- the pin is one of the run's
pub record IsIn (run : PinRun) (pin : Pin) : Type 0 where
  pub chip : pin.chip ≡ run.chip
  pub first : run.first ≤ pin.number
  pub last : pin.number ≤ run.last

-- the run is one of the set's: it has a pin, each of its pins is in the set, and neither the pin before it nor the one
-- behind it is
pub record IsRunOf (has : Pin → Bool) (run : PinRun) : Type 0 where
  pub some : run.first ≤ run.last
  pub each : (number : ℕ) → run.first ≤ number → number ≤ run.last → has (pin_of run.chip number) ≡ true
  pub before : (number : ℕ) → number + 1 ≡ run.first → has (pin_of run.chip number) ≡ false
  pub behind : has (pin_of run.chip (run.last + 1)) ≡ false

-- the pin is in one of the runs
pub record IsInRun (runs : List PinRun) (pin : Pin) : Type 0 where
  pub run : PinRun
  pub among : Contains runs run
  pub has : IsIn run pin

-- the one run stands before the other: by its chip's address, and of one chip by its numbers
abbrev pub StandsBefore : PinRun → PinRun → Type 0
StandsBefore one other = (one.chip < other.chip) ⊎ ((one.chip ≡ other.chip) × (one.last < other.first))

-- the runs of the set, and all of them, in the order of chips and numbers
pub record AreRuns (has : Pin → Bool) (runs : List PinRun) : Type 0 where
  pub own : All (IsRunOf has) runs
  pub whole : (pin : Pin) → has pin ≡ true → IsInRun runs pin
  pub order : AllPairs StandsBefore runs
