-- The way of an address through its tables, level by level from the first on.
use Rattle.std.specs.Prelude.{◌≡◌, ℕ, ◌+◌, ◌-◌, ◌%◌, ◌<◌, ◌⊎◌, Bool, zero, suc}
use Rattle.jh_num.specs.declared.address.TheConstants.{ADDRESS_END}
use Rattle.jh_num.specs.declared.rights.Rights.{Rights}
use Rattle.jh_desc.specs.declared.descriptor.Descriptor.TheVariants.{Table, Leaf}
use Rattle.jh_desc.specs.declared.descriptor.Hit.{Hit}
use Rattle.jh_desc.specs.Descriptors.{read_of}
use Rattle.jh_num.specs.declared.level.TheConstants.{LAST_LEVEL}
use Rattle.jh_walk.specs.Walks.{descriptor_at, hit_of}

-- the descriptor of the address in the table of the level leads to that table of the next level
pub record LeadsTo (word : ℕ → ℕ) (level table at next : ℕ) : Type 0 where
  pub descriptor : read_of (word (descriptor_at level table at)) level ≡ Table next
  pub place : next < ADDRESS_END

-- the descriptor of the address in the table of the level is a leaf, which gives that
pub record IsLeafAt (word : ℕ → ℕ) (level table at : ℕ) (hit : Hit) : Type 0 where
  pub out : ℕ
  pub rights : Rights
  pub device : Bool
  pub descriptor : read_of (word (descriptor_at level table at)) level ≡ Leaf out rights device
  pub gives : hit ≡ hit_of level at out rights device

-- with so many levels left, table descriptors lead the address from the table to a leaf, which gives that
abbrev pub EndsAtLeaf : (ℕ → ℕ) → ℕ → ℕ → ℕ → Hit → Type 0
EndsAtLeaf word zero table at hit = ⊥
EndsAtLeaf word (suc n) table at hit =
    IsLeafAt word (LAST_LEVEL - n) table at hit ⊎ ((next : ℕ) × (LeadsTo word (LAST_LEVEL - n) table at next × EndsAtLeaf word n next at hit))

-- what the same leaf gives another address of its slot
abbrev pub shifted : ℕ → ℕ → Hit → Hit
shifted at other hit = record hit { out = hit.out - at % hit.span + other % hit.span }

-- what is given so many bytes behind
abbrev pub behind : ℕ → Hit → Hit
behind k hit = record hit { out = hit.out + k }
