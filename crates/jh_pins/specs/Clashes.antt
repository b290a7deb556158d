-- The pins that two cells besides root both name.
use Rattle.std.specs.Prelude.{◌≡◌, Bool, ◌&&◌, List, [], ◌∷◌, ◌++◌, map}
use Rattle.jh_pins.specs.declared.pin.Pin.{Pin}
use Rattle.jh_pins.specs.declared.pin.PinRun.{PinRun}
use Rattle.jh_pins.specs.declared.pin.Clash.{Clash}
use Rattle.jh_pins.specs.Claims.{Claim}
use Rattle.jh_pins.specs.Pins.{is_named_by}
use Rattle.jh_pins.specs.Runs.{AreRuns}

-- both cells name the pin
abbrev pub is_named_by_both : Claim → Claim → Pin → Bool
is_named_by_both one other pin = is_named_by pin one && is_named_by pin other

-- the clash of the two cells over the run, the earlier cell's id first
abbrev pub clash_of : Claim → Claim → PinRun → Clash
clash_of one other run = record { first = one.id; second = other.id; run = run }

-- the clashes of the two cells: one for each run of the pins that both name
abbrev pub AreClashesOf : Claim → Claim → List Clash → Type 0
AreClashesOf one other clashes = (runs : List PinRun) × AreRuns (is_named_by_both one other) runs × (clashes ≡ map (clash_of one other) runs)

-- the clashes of the cell with each of the others, one cell behind another
abbrev pub AreClashesWith : Claim → List Claim → List Clash → Type 0
AreClashesWith one [] clashes = clashes ≡ []
AreClashesWith one (other ∷ others) clashes =
    (now : List Clash) × (rest : List Clash) × AreClashesOf one other now × AreClashesWith one others rest × (clashes ≡ now ++ rest)

-- the clashes of each cell with each later one, in order of the first cell, and of the second
abbrev pub AreClashes : List Claim → List Clash → Type 0
AreClashes [] clashes = clashes ≡ []
AreClashes (one ∷ others) clashes =
    (now : List Clash) × (rest : List Clash) × AreClashesWith one others now × AreClashes others rest × (clashes ≡ now ++ rest)
