-- What answers an access where no memory does: a subpage region of the cell, or else the ECAM window, or else an
-- enabled window of one of its devices. A fetch is answered by memory alone.
use Rattle.std.specs.Prelude.{ℕ, ◌+◌, ◌-◌, ◌*◌, ◌/◌, Bool, true, false, ◌==◌, min, nat_le, List, [], ◌∷◌, Option, None, Some, find, if◌then◌else◌}
use Rattle.std.specs.Option.{option_map_or}
use Rattle.jh_num.specs.declared.address.TheConstants.{ADDRESS_END}
use Rattle.jh_cellcfg.specs.declared.config.SystemConfig.{SystemConfig}
use Rattle.jh_cellcfg.specs.declared.region.Region.{Region}
use Rattle.jh_mmio.specs.declared.hitting.Window.{Window as TheWindow}
use Rattle.jh_mmio.specs.declared.hitting.Hitting.{Hitting}
use Rattle.jh_mmio.specs.declared.hitting.Hitting.TheVariants.{Subpage as HitsSubpage, Ecam, Bar, Nothing as HitsNothing}
use Rattle.jh_mmio.specs.Dispatch.{takes_all, window_has, lets_through, hitting_behind_regions}
use Rattle.jh_history.specs.declared.access.Access.{Access}
use Rattle.jh_history.specs.declared.access.Access.TheVariants.{Read, Write, Fetch}
use Rattle.jh_history.specs.declared.access.Wanted.{Wanted}
use Rattle.jh_history.specs.declared.access.Reach.{Reach}
use Rattle.jh_history.specs.declared.access.Reach.TheVariants.{Subpage, Config, Window, Nothing}
use Rattle.jh_history.specs.declared.place.Place.{Place}
use Rattle.jh_history.specs.declared.place.Place.TheVariants.{Physical}
use Rattle.jh_history.specs.Places.{places_in_row}
use Rattle.jh_history.specs.Access.{place_in_cell}
use Rattle.jh_history.specs.Devices.{Devices, windows_of}

-- where the ECAM window of the system begins, which every cell has: at the base
abbrev pub ecam_start : SystemConfig → ℕ
ecam_start system = system.platform.pci_mmconfig_base

-- where the ECAM window ends: 1 MiB behind the base for each bus, cut at the last number of 64 bits; a base of 0 says
-- that there is none
abbrev pub ecam_end : SystemConfig → ℕ
ecam_end system =
    if system.platform.pci_mmconfig_base == 0 then 0
    else min (system.platform.pci_mmconfig_base + (system.platform.pci_mmconfig_end_bus + 1) * 0x100000) 0xffffffffffffffff

-- ---- what is asked

-- the windows that an access may be in: the ECAM window, from `start` on, up to and without `end`, and the first enabled
-- window of the cell's devices that has all of the access, if one has
pub record Windows : Type 0 where
  pub start : ℕ
  pub end : ℕ
  pub device : Option TheWindow

-- what an access asks behind memory: by the cell with the id, the first of its subpage regions that has all of the
-- access, none of it at a place closed to the cell, if one has, and the windows
pub record Asked : Type 0 where
  pub cell : ℕ
  pub region : Option Region
  pub windows : Windows

-- what a cell has behind memory: its regions, its devices, and the system's ECAM window; and the places that are
-- closed to it
pub record Behind : Type 0 where
  pub regions : List Region
  pub devices : Devices
  pub system : SystemConfig
  pub closed : Place → Bool

-- the first enabled window of the cell's devices that has the whole access
abbrev pub window_of_access : Devices → ℕ → ℕ → Option TheWindow
window_of_access devices at width = find (window_has at width) (windows_of devices)

-- what an access of the cell asks, of what the cell has
abbrev pub asked_by : Behind → Wanted → Asked
asked_by behind wanted =
    record {
      cell = behind.devices.cell;
      region = find (takes_all (λ p. behind.closed (Physical p)) wanted.at wanted.width) behind.regions;
      windows = record { start = ecam_start behind.system; end = ecam_end behind.system; device = window_of_access behind.devices wanted.at wanted.width };
    }

-- ---- what answers

-- the access is a write
abbrev pub is_write : Access → Bool
is_write Read = false
is_write Write = true
is_write Fetch = false

-- the subpage region of the cell that has the access answers it, where it lets it through: by its places
abbrev pub by_region : ℕ → Wanted → Region → Reach
by_region cell wanted region =
    if lets_through wanted.at wanted.width (is_write wanted.access) region
    then Subpage (places_in_row (place_in_cell cell region wanted.at) wanted.width)
    else Nothing

-- the device's register answers, a word of 4 bytes, by its offset from the start of the window
abbrev pub in_window : ℕ → TheWindow → Reach
in_window at window = Window (record { device = window.device; bar = window.bar; at = (at - window.start) / 4 * 4 })

-- configuration space answers by the offset from the start of the ECAM window, and a device by that from the start of its
-- window
abbrev pub by_device : Windows → Wanted → Hitting → Reach
by_device windows wanted Ecam = Config (record { at = wanted.at - windows.start; width = wanted.width })
by_device windows wanted (HitsSubpage region) = Nothing
by_device windows wanted (Bar number) = option_map_or (in_window wanted.at) windows.device Nothing
by_device windows wanted HitsNothing = Nothing

-- the windows of devices that are asked: the first that has the access, if one has it
abbrev pub asked_windows : Option TheWindow → List TheWindow
asked_windows None = []
asked_windows (Some window) = window ∷ []

-- what answers where no subpage region has the access
abbrev pub without_region : Windows → Wanted → Reach
without_region windows wanted =
    by_device windows wanted (hitting_behind_regions windows.start windows.end (asked_windows windows.device) wanted.at wanted.width)

-- what answers a read, or a write: the subpage region, and the windows only where there is no such region
abbrev pub region_or_window : Asked → Wanted → Reach
region_or_window asked wanted = option_map_or (by_region asked.cell wanted) asked.region (without_region asked.windows wanted)

-- what answers a read, or a write; a fetch is answered by nothing
abbrev pub unless_fetch : Access → Reach → Reach
unless_fetch Read found = found
unless_fetch Write found = found
unless_fetch Fetch found = Nothing

-- what answers the access, where it asks these
abbrev pub answer_behind : Asked → Wanted → Reach
answer_behind asked wanted = unless_fetch wanted.access (region_or_window asked wanted)

-- what answers the access of a cell that has this behind memory: nothing where the access ends past the addresses
unfoldable pub answer : Behind → Wanted → Reach
answer behind wanted = if nat_le (wanted.at + wanted.width) ADDRESS_END then answer_behind (asked_by behind wanted) wanted else Nothing
