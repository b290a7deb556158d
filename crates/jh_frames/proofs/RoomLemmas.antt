-- The room of a map after a write at one of its keys.
use Rattle.std.proofs.Common.{◌≡◌, refl}
use Rattle.std.specs.declared.cmp.PartialEq as eq
use Rattle.std.specs.declared.hash.Hash as hash
use Rattle.std.specs.declared.hash.Hasher as hasher
use Rattle.std.specs.declared.hash.BuildHasher as builder
use Rattle.indexmap.specs.declared.map.entry.OccupiedEntry.{OccupiedEntry}
use Rattle.indexmap.specs.IndexMap.{spare}
use Rattle.indexmap.specs.declared.map.entry.Entry.TheVariants.{Occupied}
use Rattle.indexmap.specs.Entry.{map_with_value}

module _ {K V S A H : Type 0} {g : eq.Ghosts K} {h : hash.Ghosts K} {b : builder.Ghosts S H} {w : hasher.Ghosts H} where
  -- a write at a key that is there uses no room
  pub occupied_spare : (o : OccupiedEntry K V S A H g h b w) (v : V) → spare (map_with_value (Occupied o) v) ≡ spare o.map.now
  unfolding map_with_value
  occupied_spare o v = refl
