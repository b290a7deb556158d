-- What the configuration space of an ivshmem function keeps.
use Rattle.std.specs.Prelude.{ℕ, ◌+◌, Bool, false, ◌&&◌, ◌||◌, not, nat_lt, ◌==◌, Option, None, Some, if◌then◌else◌}
use Rattle.jh_num.specs.declared.range.Range.{Range}
use Rattle.jh_vpci.specs.declared.function.FunctionSpec.{FunctionSpec}
use Rattle.jh_vpci.specs.Windows.{window_size}

-- the function's fixed values, and what a guest can change
pub record Space : Type 0 where
  pub spec : FunctionSpec
  -- command, bit 1: the windows of the BARs are enabled
  pub memory : Bool
  -- command, bit 2: the function may send MSI-X vectors
  pub bus_master : Bool
  -- command, bit 10, interrupts off: it is kept and read back, and changes nothing else
  pub interrupts_off : Bool
  pub bar0 : ℕ
  pub bar1 : ℕ
  -- privileged control, bit 0: one-shot
  pub one_shot : Bool
  -- control of MSI-X, bit 14: the function mask
  pub masked : Bool
  -- control of MSI-X, bit 15: MSI-X is enabled
  pub enabled : Bool

-- the function has MSI-X vectors
abbrev pub has_vectors : FunctionSpec → Bool
has_vectors spec = nat_lt 0 spec.vectors

-- a function as after reset: all that can be written is 0
abbrev pub fresh : FunctionSpec → Space
fresh spec = record {
  spec = spec;
  memory = false;
  bus_master = false;
  interrupts_off = false;
  bar0 = 0;
  bar1 = 0;
  one_shot = false;
  masked = false;
  enabled = false;
}

-- the function is open: without vectors always, and with vectors where it is bus master, MSI-X is enabled and the
-- function isn't masked
abbrev pub is_open : Space → Bool
is_open space =
    not (has_vectors space.spec) || (space.bus_master && space.enabled && not space.masked)

-- the first address of the BAR's window and the one past its last; none where the windows aren't enabled,
-- and none of a BAR that the function lacks
abbrev pub window_of : Space → ℕ → Option (ℕ × ℕ)
window_of space bar =
    if space.memory && bar == 0 then Some (space.bar0, space.bar0 + window_size 0)
    else (if space.memory && bar == 1 && has_vectors space.spec then Some (space.bar1, space.bar1 + window_size 1)
    else None)

-- where a range begins and ends
abbrev pub ends_of : Range → ℕ × ℕ
ends_of range = (range.start, range.end)
