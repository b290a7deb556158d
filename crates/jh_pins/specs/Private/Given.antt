-- The pins that irqchips give, chip by chip.
use Rattle.std.specs.Prelude.{◌≡◌, ℕ, ◌-◌, ◌≤◌, Bool, true, false, not, ◌&&◌, nat_le, nat_lt, if◌then◌else◌, List, All, Option, Some, None}
use Rattle.std.specs.List.{list_any}
use Rattle.jh_num.specs.declared.range.Range.{Range}
use Rattle.jh_cellcfg.specs.declared.config.Irqchip.{Irqchip}
use Rattle.jh_pins.specs.declared.pin.Pin.{Pin}
use Rattle.jh_pins.specs.declared.pin.PinRun.{PinRun}
use Rattle.jh_pins.specs.Pins.{is_given_by}

-- one of the irqchips gives the pin
abbrev pub is_given : List Irqchip → Pin → Bool
is_given irqchips pin = list_any (is_given_by pin) irqchips

-- the run of the chip's pins with these numbers
abbrev pub run_on : ℕ → Range → PinRun
run_on chip numbers = record { chip = chip; first = numbers.start; last = numbers.end - 1 }

-- the chip is up to the last one that is done with
abbrev pub is_done : Option ℕ → ℕ → Bool
is_done None chip = false
is_done (Some last) chip = nat_le chip last

-- the chip is before the other, or there is no other
abbrev pub is_before : ℕ → Option ℕ → Bool
is_before chip None = true
is_before chip (Some other) = nat_lt chip other

-- the chip, if it isn't done with and is before the next one so far; else that one
abbrev pub nearer : Option ℕ → Option ℕ → ℕ → Option ℕ
nearer last next chip = if not (is_done last chip) && is_before chip next then Some chip else next

-- the next chip past the last one is the least of the irqchips' addresses there; none where there is no such address
abbrev pub IsNextChip : List Irqchip → Option ℕ → Option ℕ → Type 0
IsNextChip irqchips last None = All (λ (irqchip : Irqchip). is_done last irqchip.address ≡ true) irqchips
IsNextChip irqchips last (Some chip) = (is_done last chip ≡ false) × All (λ (irqchip : Irqchip). is_done last irqchip.address ≡ false → chip ≤ irqchip.address) irqchips
