-- What a cell is granted, by what its regions give and by what it is kept from.
use Rattle.std.proofs.Common.{◌≡◌, ℕ, zero, suc, ◌+◌, ◌||◌, Bool, true, false, cond, leb, eqb, List, [], ◌∷◌, get_or, Option, Some, None, refl, ap, ◌∙◌, arith}
use Rattle.std.specs.Prelude.{option_map, option_and_then}
use Rattle.std.specs.List.{list_any}
use Rattle.std.specs.Option.{option_map_or}
use Rattle.std.proofs.lemmas.Option.{slice_get-get_or}
use Rattle.jh_num.proofs.Public.{IsFound_from_find}
use Rattle.jh_num.specs.declared.address.TheConstants.{ADDRESS_END}
use Rattle.jh_cellcfg.specs.declared.config.CellConfig.{CellConfig}
use Rattle.jh_cellcfg.specs.declared.live.Live.{Live}
use Rattle.jh_cellcfg.specs.declared.region.Region.{Region}
use Rattle.jh_cellcfg.specs.Regions.{AreInRange}
use Rattle.jh_check.specs.Laws.{IsNumbered}
use Rattle.jh_check.specs.Clean.{IsClean}
use Rattle.jh_script.specs.declared.image.Image.{Image}
use Rattle.jh_history.specs.declared.place.Place.{Place}
use Rattle.jh_history.specs.declared.access.Access.{Access}
use Rattle.jh_history.specs.declared.access.Reach.{Reach}
use Rattle.jh_history.specs.declared.access.Reach.TheVariants.{Memory, Nothing}
use Rattle.jh_history.specs.Access.{place_of, places_from, memory_or_nothing, reach_by}
use Rattle.jh_history.specs.Grants.{unless, granted_by}
use Rattle.jh_history.specs.Lives.{live_in, cell_in, regions_in}
use Rattle.jh_shape.specs.Lives.{configs_of}
use Rattle.jh_history.proofs.LiveLemmas.{has_number, live_in_is}

abbrev unless_any : (Place → Bool) → List Place → Option (List Place)
unless_any kept ps = cond (list_any kept ps) None (Some ps)

abbrev MaybePlaces : Type 0
MaybePlaces = Option (List Place)

abbrev with_first : Place → MaybePlaces → MaybePlaces
with_first p rest = option_map (λ (ps : List Place). p ∷ ps) rest

-- one place more, which is kept or isn't, before others, of which one is kept or none is
more_by : (p : Place) (ps : List Place) (b c : Bool) → option_and_then (λ (q : Place). with_first q (cond c None (Some ps))) (cond b None (Some p)) ≡ cond (b || c) None (Some (p ∷ ps))
more_by p ps true c = refl
more_by p ps false true = refl
more_by p ps false false = refl

kept_rest : (p : Place) (b : Bool) → option_and_then (λ (q : Place). with_first q None) (cond b None (Some p)) ≡ None
kept_rest p true = refl
kept_rest p false = refl

more_at : (kept : Place → Bool) (p : Place) (rest : MaybePlaces) → option_and_then (λ (q : Place). with_first q (option_and_then (unless_any kept) rest)) (unless kept p) ≡ option_and_then (unless_any kept) (with_first p rest)
more_at kept p None = kept_rest p (kept p)
more_at kept p (Some ps) = more_by p ps (kept p) (list_any kept ps)

more_from : (kept : Place → Bool) (o : Option Place) (rest whole : MaybePlaces) → whole ≡ option_and_then (unless_any kept) rest
    → option_and_then (λ (q : Place). with_first q whole) (option_and_then (unless kept) o) ≡ option_and_then (unless_any kept) (option_and_then (λ (q : Place). with_first q rest) o)
more_from kept None rest whole e = refl
more_from kept (Some p) rest whole e = ap (λ (w : MaybePlaces). option_and_then (λ (q : Place). with_first q w) (unless kept p)) e ∙ more_at kept p rest

-- the places of addresses, unless one of them is kept
pub granted_from : (id : ℕ) (regions : List Region) (kept : Place → Bool) (access : Access) (at count : ℕ)
    → places_from (granted_by id regions kept access) at count ≡ option_and_then (unless_any kept) (places_from (place_of id regions access) at count)
granted_from id regions kept access at zero = refl
granted_from id regions kept access at (suc count) =
    more_from kept (place_of id regions access at) (places_from (place_of id regions access) (at + 1) count) (places_from (granted_by id regions kept access) (at + 1) count) (granted_from id regions kept access (at + 1) count)

abbrev pub unless_kept : (Place → Bool) → Reach → Reach
unless_kept kept (Memory places) = cond (list_any kept places) Nothing (Memory places)
unless_kept kept found = found

memory_by : (places : List Place) (b : Bool) → memory_or_nothing (cond b None (Some places)) ≡ cond b Nothing (Memory places)
memory_by places true = refl
memory_by places false = refl

memory_of : (kept : Place → Bool) (o : MaybePlaces) → memory_or_nothing (option_and_then (unless_any kept) o) ≡ unless_kept kept (memory_or_nothing o)
memory_of kept None = refl
memory_of kept (Some places) = memory_by places (list_any kept places)

within_by : (kept : Place → Bool) (b : Bool) (one other : MaybePlaces) → one ≡ option_and_then (unless_any kept) other → cond b (memory_or_nothing one) Nothing ≡ unless_kept kept (cond b (memory_or_nothing other) Nothing)
within_by kept true one other e = ap memory_or_nothing e ∙ memory_of kept other
within_by kept false one other e = refl

-- so what an access reaches is what the regions give, unless one of its places is kept
pub reach_granted : (id : ℕ) (regions : List Region) (kept : Place → Bool) (access : Access) (at width : ℕ)
    → reach_by (granted_by id regions kept access) at width ≡ unless_kept kept (reach_by (place_of id regions access) at width)
unfolding reach_by
reach_granted id regions kept access at width =
    within_by kept (leb (at + width) ADDRESS_END) (places_from (granted_by id regions kept access) at width) (places_from (place_of id regions access) at width) (granted_from id regions kept access at width)

-- ---- regions of what is clean

-- a configuration that has a number among them
within_at : (image : Image) (cells : List CellConfig) (o : Option CellConfig) → IsClean image.system cells → ((c : CellConfig) → o ≡ Some c → (a : ℕ) × IsNumbered image.system cells a c)
    → AreInRange (option_map_or (λ (c : CellConfig). c.memory_regions) o [])
within_at image cells None clean numbered = λ i d lt. absurd (omega arith)
within_at image cells (Some c) clean numbered = λ i d lt some.
    let a = numbered c refl in
    clean.within a.0 c a.1 i (get_or c.memory_regions i d) (slice_get-get_or c.memory_regions i d lt) some

pub numbered_live : (image : Image) (lives : List Live) (id : ℕ) (c : CellConfig) → live_in lives id ≡ Some c → (a : ℕ) × IsNumbered image.system (configs_of lives) a c
numbered_live image lives id c e =
    let held = (IsFound_from_find (has_number id) (configs_of lives) c (live_in_is lives (configs_of lives) id refl ∙ e)).among in
    (suc held.0, slice_get-get_or (configs_of lives) held.0 c held.1 ∙ ap Some held.2)

pub numbered_cell : (image : Image) (lives : List Live) (id : ℕ) (c : CellConfig) (b : Bool) → cond b (Some image.system.root) (live_in lives id) ≡ Some c → (a : ℕ) × IsNumbered image.system (configs_of lives) a c
numbered_cell image lives id c true e = (0, e)
numbered_cell image lives id c false e = numbered_live image lives id c e

-- the regions of a live cell lie within addresses and places
pub regions_within : (image : Image) (lives : List Live) (id : ℕ) → IsClean image.system (configs_of lives) → AreInRange (regions_in image lives id)
regions_within image lives id clean = within_at image (configs_of lives) (cell_in image lives id) clean (λ c e. numbered_cell image lives id c (eqb id image.system.root.id) e)

-- cells of these configurations
abbrev pub unmarked : List CellConfig → List Live
unmarked [] = []
unmarked (c ∷ cs) = record { config = c; loadable = false } ∷ unmarked cs

pub configs_unmarked : (cells : List CellConfig) → configs_of (unmarked cells) ≡ cells
configs_unmarked [] = refl
configs_unmarked (c ∷ cs) = ap (λ (rest : List CellConfig). c ∷ rest) (configs_unmarked cs)
