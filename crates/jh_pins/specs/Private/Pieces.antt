-- Pieces of runs of pins: what two have in common, and what is between two others.
use Rattle.std.specs.Prelude.{◌≡◌, ℕ, ◌+◌, ◌<◌, ◌≤◌, ◌⊎◌, Bool, ◌&&◌, not, min, max, List, [], ◌∷◌, Option, Some, None}
use Rattle.std.specs.List.{list_any}
use Rattle.jh_pins.specs.declared.pin.Pin.{Pin}
use Rattle.jh_pins.specs.declared.pin.PinRun.{PinRun}
use Rattle.jh_pins.specs.Claims.{Claim}
use Rattle.jh_pins.specs.Pins.{is_named_by}
use Rattle.jh_pins.specs.Runs.{pin_of, IsIn}

-- the cell names the pin
abbrev pub names : Claim → Pin → Bool
names claim pin = is_named_by pin claim

-- the cell names the pin, and none of the others does
abbrev pub is_left : Claim → List Claim → Pin → Bool
is_left own others pin = is_named_by pin own && not (list_any (is_named_by pin) others)

-- the pin is in both sets
abbrev pub is_common : (Pin → Bool) → (Pin → Bool) → Pin → Bool
is_common has other pin = has pin && other pin

-- the pin is in the one set and not in the other
abbrev pub is_without : (Pin → Bool) → (Pin → Bool) → Pin → Bool
is_without has other pin = has pin && not (other pin)

-- the run, if there is one, as a list
abbrev pub pieces : Option PinRun → List PinRun
pieces None = []
pieces (Some run) = run ∷ []

-- the run ends before the pin: it is of an earlier chip, or of the pin's, and its last number is lower
abbrev pub EndsBefore : PinRun → Pin → Type 0
EndsBefore run pin = (run.chip < pin.chip) ⊎ ((run.chip ≡ pin.chip) × (run.last < pin.number))

-- the run begins behind the pin: it is of a later chip, or of the pin's, and its first number is higher
abbrev pub BeginsBehind : PinRun → Pin → Type 0
BeginsBehind run pin = (pin.chip < run.chip) ⊎ ((pin.chip ≡ run.chip) × (pin.number < run.first))

-- the one run ends no later than the other
abbrev pub EndsBy : PinRun → PinRun → Type 0
EndsBy one other = (one.chip < other.chip) ⊎ ((one.chip ≡ other.chip) × (one.last ≤ other.last))

-- the pin is behind the run, if there is one
abbrev pub IsPast : Option PinRun → Pin → Type 0
IsPast None pin = Unit {0}
IsPast (Some run) pin = EndsBefore run pin

-- the pin is before the run, if there is one
abbrev pub IsUpTo : Option PinRun → Pin → Type 0
IsUpTo None pin = Unit {0}
IsUpTo (Some run) pin = BeginsBehind run pin

-- there is a run, and it begins no later than the other ends
abbrev pub IsReached : Option PinRun → PinRun → Type 0
IsReached None other = ⊥
IsReached (Some run) other = (run.chip < other.chip) ⊎ ((run.chip ≡ other.chip) × (run.first ≤ other.last))

-- there is a run, and the pin follows its last one
abbrev pub FollowsIt : Option PinRun → Pin → Type 0
FollowsIt None pin = ⊥
FollowsIt (Some run) pin = (run.chip ≡ pin.chip) × (run.last + 1 ≡ pin.number)

-- there is a run, and its first pin follows this one
abbrev pub IsFollowedByIt : Option PinRun → Pin → Type 0
IsFollowedByIt None pin = ⊥
IsFollowedByIt (Some run) pin = (pin.chip ≡ run.chip) × (pin.number + 1 ≡ run.first)

-- the piece is all of the run that is behind the one other, if there is one, and before the other, if there is one
pub record IsPieceOf (run : PinRun) (past next : Option PinRun) (piece : PinRun) : Type 0 where
  pub some : run.first ≤ run.last → piece.first ≤ piece.last
  pub chip : piece.chip ≡ run.chip
  pub low : run.first ≤ piece.first
  pub high : piece.last ≤ run.last
  pub behind : IsPast past (pin_of piece.chip piece.first)
  pub before : IsUpTo next (pin_of piece.chip piece.last)
  pub begin : (piece.first ≡ run.first) ⊎ FollowsIt past (pin_of piece.chip piece.first)
  pub end : (piece.last ≡ run.last) ⊎ IsFollowedByIt next (pin_of piece.chip piece.last)

-- what is told of the run between two others: that piece, or nothing where no pin of the run is there
abbrev pub IsBetween : PinRun → Option PinRun → Option PinRun → Option PinRun → Type 0
IsBetween run past next None = (pin : Pin) → IsIn run pin → IsPast past pin → IsUpTo next pin → ⊥
IsBetween run past next (Some piece) = IsPieceOf run past next piece

-- what two runs have in common: a run, or nothing where they have no pin in common
abbrev pub IsMeeting : PinRun → PinRun → Option PinRun → Type 0
IsMeeting one other None = (pin : Pin) → IsIn one pin → IsIn other pin → ⊥
IsMeeting one other (Some run) =
    (run.first ≤ run.last) × (run.chip ≡ one.chip) × (run.chip ≡ other.chip) × (run.first ≡ max one.first other.first) × (run.last ≡ min one.last other.last)
