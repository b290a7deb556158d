-- Addresses that no region has reach no memory.
use Rattle.std.proofs.Common.{◌≡◌, ℕ, ◌+◌, ◌*◌, ◌<◌, ◌≤◌, true, false, ◌&&◌, not, nat_le, nat_lt, cond, List, Option, None, option_map, refl, sym, ap, ◌∙◌, arith}
use Rattle.std.specs.List.{Contains}
use Rattle.std.proofs.lemmas.Bool.{both_ways, and_parts, and_left, not-true, or_parts, leb-true, ltb-true, false_from_ne_true}
use Rattle.jh_num.proofs.Public.{find_nothing, list_any_from_Contains}
use Rattle.jh_num.specs.declared.address.TheConstants.{ADDRESS_END}
use Rattle.jh_cellcfg.specs.declared.region.Region.{Region}
use Rattle.jh_cellcfg.specs.declared.config.CellConfig.{CellConfig}
use Rattle.jh_cellcfg.specs.declared.config.PciDevice.{PciDevice}
use Rattle.jh_cellcfg.specs.declared.config.SystemConfig.{SystemConfig}
use Rattle.jh_cellcfg.specs.Regions.{has_address, has_flags, is_page_mapped, virt_end, virt_meet}
use Rattle.jh_history.specs.declared.access.Access.{Access}
use Rattle.jh_history.specs.declared.access.Reach.TheVariants.{Nothing}
use Rattle.jh_history.specs.declared.place.Place.{Place}
use Rattle.jh_history.specs.Access.{gives, memory_or_nothing, place_in_cell, place_of, places_from, reach_by, right_of}
use Rattle.jh_history.proofs.Public.{places_from_none}
use Rattle.jh_talk.specs.declared.talk.Talk.{Talk}
use Rattle.jh_talk.specs.declared.window.TheConstants.{WINDOW_SIZE}
use Rattle.jh_talk.specs.Addresses.{addresses_from, is_met}
use Rattle.jh_talk.specs.Apart.{HasNoMemory, IsClearOfMemory}
use Rattle.jh_talk.specs.Functions.{ecam_region, function_start, has_ecam, has_function, is_in_ecam, obstacles}
use Rattle.jh_talk.specs.Images.{follower_side, leader_side, IsTalk}
use Rattle.jh_talk.proofs.AddressLemmas.{function_there}
use Rattle.jh_talk.proofs.WindowLemmas.{meets_from, Meets}

-- none of the regions has the address
abbrev pub HasNone : List Region → ℕ → Type 0
HasNone regions at = (x : Region) → Contains regions x → has_address x at ≡ false

pub clear_address : (regions : List Region) (first count at : ℕ) → is_met regions first count ≡ false → first ≤ at → at < first + count → HasNone regions at
clear_address regions first count at clear from to x among =
    let these = addresses_from first count in
    false_from_ne_true (has_address x at) (λ has.
    let parts = and_parts (nat_le x.virt_start at) (nat_lt at (virt_end x)) has in
    let begins = leb-true x.virt_start at parts.0 in
    let ends = ltb-true at (virt_end x) parts.1 in
    let m : Meets these x = record { some = omega arith; other = omega arith; begins = omega arith; ends = omega arith } in
    both_ways (is_met regions first count) clear (list_any_from_Contains (virt_meet these) regions x among (meets_from these x m)))

pub no_place : (id : ℕ) (regions : List Region) (access : Access) (at : ℕ) → HasNone regions at → place_of id regions access at ≡ None
unfolding place_of
no_place id regions access at none =
    ap (option_map (λ (r : Region). place_in_cell id r at)) (find_nothing (gives access at) regions (λ x among.
    and_left (has_address x at && is_page_mapped x) (has_flags (right_of access) x) (and_left (has_address x at) (is_page_mapped x) (none x among))))

pub no_memory : (place : ℕ → Option Place) (at width : ℕ) → 0 < width → place at ≡ None → reach_by place at width ≡ Nothing
unfolding reach_by
no_memory place at width some none =
    elim (nat_le (at + width) ADDRESS_END) as (λ b. cond b (memory_or_nothing (places_from place at width)) Nothing ≡ Nothing) [
      | true ↦ ap memory_or_nothing (places_from_none place at width some none)
      | false ↦ refl
    ]

nothing_there : (regions : List Region) (first count : ℕ) → is_met regions first count ≡ false → HasNoMemory regions first count
nothing_there regions first count clear id access at width from to some =
    no_memory (place_of id regions access) at width some (no_place id regions access at (clear_address regions first count at clear from to))

-- ---- the two sides

-- no region of root or of the cell has a byte of the function
record FunctionIsClear (system : SystemConfig) (cell : CellConfig) (device : PciDevice) : Type 0 where
  root : is_met system.root.memory_regions (function_start system device) 4096 ≡ false
  other : is_met cell.memory_regions (function_start system device) 4096 ≡ false

function_clear : (system : SystemConfig) (cell : CellConfig) (device : PciDevice) → has_function system cell device ≡ true → FunctionIsClear system cell device
function_clear system cell device has =
    let first = function_start system device in
    let inside = is_in_ecam system first 4096 in
    let root_met = is_met system.root.memory_regions first 4096 in
    let cell_met = is_met cell.memory_regions first 4096 in
    let p = and_parts (has_ecam system) ((inside && not root_met) && not cell_met) has in
    let q = and_parts (inside && not root_met) (not cell_met) p.1 in
    record { root = not-true root_met (and_parts inside (not root_met) q.0).1; other = not-true cell_met q.1 }

-- what is clear of the obstacles is clear of the cell's regions
window_clear : (system : SystemConfig) (config : CellConfig) (first : ℕ) → is_met (obstacles system config) first WINDOW_SIZE ≡ false → is_met config.memory_regions first WINDOW_SIZE ≡ false
window_clear system config first clear =
    (or_parts (virt_meet (addresses_from first WINDOW_SIZE) (ecam_region system)) (is_met config.memory_regions first WINDOW_SIZE) clear).1

pub leader_clear : (system : SystemConfig) (cell : CellConfig) (talk : Talk) → IsTalk system cell talk → IsClearOfMemory system.root.memory_regions (leader_side system talk)
leader_clear system cell talk is =
    let regions = system.root.memory_regions in
    let function = (function_clear system cell talk.pair.device (function_there system cell talk is)).root in
    let window = window_clear system system.root talk.window is.window.is.clear in
    record {
      function = nothing_there regions (function_start system talk.pair.device) 4096 function;
      windows = nothing_there regions talk.window WINDOW_SIZE window;
    }

pub follower_clear : (system : SystemConfig) (cell : CellConfig) (talk : Talk) → IsTalk system cell talk → IsClearOfMemory cell.memory_regions (follower_side system cell talk)
follower_clear system cell talk is =
    let regions = cell.memory_regions in
    let same : function_start system talk.pair.device ≡ function_start system talk.pair.other = ap (λ n. system.platform.pci_mmconfig_base + n * 4096) is.pair.is.linked in
    let function = (function_clear system cell talk.pair.device (function_there system cell talk is)).other in
    let there : is_met regions (function_start system talk.pair.other) 4096 ≡ false = ap (λ n. is_met regions n 4096) (sym same) ∙ function in
    let window = window_clear system cell talk.other_window is.other_window.is.clear in
    record {
      function = nothing_there regions (function_start system talk.pair.other) 4096 there;
      windows = nothing_there regions talk.other_window WINDOW_SIZE window;
    }
