-- The shape of a slot of a cell's stage-2 tables, and what a descriptor there says (VMSAv8-64, 4 KB
-- granule).
use Rattle.std.specs.Prelude.{ℕ, ◌%◌, Bool, ◌&&◌, ◌||◌, not, ◌==◌, nat_lt, List, Option, Some, None, if◌then◌else◌}
use Rattle.std.specs.List.{find, list_any}
use Rattle.jh_num.specs.declared.level.TheConstants.{LAST_LEVEL}
use Rattle.jh_num.specs.Levels.{slot_size}
use Rattle.jh_cellcfg.specs.declared.live.Live.{Live}
use Rattle.jh_cellcfg.specs.declared.region.Region.{Region}
use Rattle.jh_cellcfg.specs.Regions.{virt_end, phys_end, has_size, has_place, place_in, is_page_mapped, is_comm, is_unshared, is_loadable, is_device, may_have_blocks, rights_of}
use Rattle.jh_shape.specs.declared.want.Want.{Want}
use Rattle.jh_shape.specs.declared.want.Want.TheVariants.{Nothing, Table, Leaf}
use Rattle.jh_shape.specs.Claims.{Claims, Holder}
use Rattle.jh_shape.specs.Intervals.{touches, spans}

-- tables map the regions whose addresses are whole pages and that have a size
abbrev pub is_mapped : Region → Bool
is_mapped region = has_size region && is_page_mapped region

-- the region of another cell is unshared, and has some of the places and not all of them
abbrev pub meets_in_part : Region → ℕ → ℕ → Bool
meets_in_part region place size =
    is_unshared region && (touches region.phys_start (phys_end region) place size && not (spans region.phys_start (phys_end region) place size))

-- an unshared region of another cell has some of the places and not all of them
abbrev pub are_cut : List Holder → ℕ → ℕ → Bool
are_cut holders place size = list_any (λ (holder : Holder). list_any (λ (region : Region). meets_in_part region place size) holder.regions) holders

-- the place is taken from root by an unshared region of another cell, except by a loadable region of a
-- cell that is loadable
abbrev pub takes : Bool → Region → ℕ → Bool
takes loadable region place = is_unshared region && (not (loadable && is_loadable region) && has_place region place)

-- a cell that lives besides root, as root's tables see it
abbrev pub holder_of_live : Live → Holder
holder_of_live live = record { regions = live.config.memory_regions; loadable = live.loadable }

-- the place is closed to root: a region of another cell takes it
abbrev pub is_closed : List Holder → ℕ → Bool
is_closed holders place = list_any (λ (holder : Holder). list_any (λ (region : Region). takes holder.loadable region place) holder.regions) holders

-- in slots of the level the region's places are aligned like its addresses
abbrev pub is_aligned_alike : ℕ → Region → Bool
is_aligned_alike level region = (region.phys_start % slot_size level) == (region.virt_start % slot_size level)

-- blocks of the level may map the region, as far as other cells don't forbid it: the level isn't 0, the region may have
-- blocks, isn't a communication region, and its places are aligned like its addresses
abbrev pub fits_blocks : ℕ → Region → Bool
fits_blocks level region = nat_lt 0 level && (may_have_blocks region && (not (is_comm region) && is_aligned_alike level region))

-- the cell is root, and another cell's unshared region has some of the places of the slot of addresses from `start` on,
-- and not all of them
abbrev pub is_cut_for_root : Claims → ℕ → ℕ → Region → Bool
is_cut_for_root claims level start region = claims.root && are_cut claims.holders (place_in region start) (slot_size level)

-- a block may map the slot of addresses from `start` on: it fits the region, and nothing cuts it for root
abbrev pub may_be_block : Claims → ℕ → ℕ → Region → Bool
may_be_block claims level start region = fits_blocks level region && not (is_cut_for_root claims level start region)

-- one descriptor of that level maps the whole slot, by this region
abbrev pub is_leaf_by : Claims → ℕ → ℕ → Region → Bool
is_leaf_by claims level start region =
    is_mapped region && (spans region.virt_start (virt_end region) start (slot_size level) && ((level == LAST_LEVEL) || may_be_block claims level start region))

-- the region that makes the slot a leaf
abbrev pub leaf_region : Claims → ℕ → ℕ → Option Region
leaf_region claims level start = find (λ (region : Region). is_leaf_by claims level start region) claims.regions

-- the region is one that tables map, and has an address in the slot
abbrev pub is_met_by : ℕ → ℕ → Region → Bool
is_met_by level start region = is_mapped region && touches region.virt_start (virt_end region) start (slot_size level)

-- one of the cell's regions that tables map has an address in the slot
abbrev pub is_met : Claims → ℕ → ℕ → Bool
is_met claims level start = list_any (λ (region : Region). is_met_by level start region) claims.regions

-- one of the cell's regions makes the slot a leaf
abbrev pub is_leaf : Claims → ℕ → ℕ → Bool
is_leaf claims level start = list_any (λ (region : Region). is_leaf_by claims level start region) claims.regions

-- the slot is a table: it is met, and no region makes it a leaf; a slot that isn't met is empty
abbrev pub is_table : Claims → ℕ → ℕ → Bool
is_table claims level start = is_met claims level start && not (is_leaf claims level start)

-- where the leaf leads: to the region's place, or to the cell's communication page
abbrev pub out_of : Claims → Region → ℕ → ℕ
out_of claims region start = if is_comm region then claims.comm else place_in region start

-- the cell is root, and the place of the region's address is closed to it, so that its leaf there is invalid
abbrev pub is_kept_from : Claims → Region → ℕ → Bool
is_kept_from claims region start = claims.root && (not (is_comm region) && is_closed claims.holders (place_in region start))

-- what stands in a slot where the region makes a leaf: nothing at a place that is closed to root
abbrev pub leaf_of : Claims → Region → ℕ → Want
leaf_of claims region start =
    if is_kept_from claims region start
    then Nothing
    else Leaf (out_of claims region start) (rights_of region) (is_device region)

-- what stands in a slot where no region makes a leaf
abbrev pub want_without_leaf : Bool → Want
want_without_leaf met = if met then Table else Nothing

-- what stands in a slot, where that is the region that makes it a leaf, if one does
abbrev pub want_from : Claims → ℕ → ℕ → Option Region → Want
want_from claims level start None = want_without_leaf (is_met claims level start)
want_from claims level start (Some region) = leaf_of claims region start

-- what stands in a slot: nothing, a table, or a leaf with its place, rights and kind of memory
abbrev pub want_of : Claims → ℕ → ℕ → Want
want_of claims level start = want_from claims level start (leaf_region claims level start)
