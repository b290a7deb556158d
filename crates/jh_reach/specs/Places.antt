-- What a cell's tables give the bytes of an access.
use Rattle.std.specs.Prelude.{◌≡◌, ℕ, ◌+◌, ◌%◌, ◌<◌, ◌≤◌, nat_le, zero, suc, Bool, if◌then◌else◌, List, [], ◌∷◌, ◌++◌, Contains, Option, Some, None, option_map, option_and_then}
use Rattle.std.specs.List.{range_with_len}
use Rattle.jh_num.specs.declared.address.TheConstants.{ADDRESS_END}
use Rattle.jh_num.specs.declared.rights.Rights.{Rights}
use Rattle.jh_desc.specs.declared.descriptor.Hit.{Hit}
use Rattle.jh_frames.specs.Memory.{FramesView, byte_at, word_in}
use Rattle.jh_walk.specs.Walks.{levels, walk_of}
use Rattle.jh_cache.specs.declared.translation.Translation.{Translation}
use Rattle.jh_cache.specs.Translations.{translations_of}
use Rattle.jh_reach.specs.declared.access.Access.{Access}
use Rattle.jh_reach.specs.declared.access.Base.{Base}
use Rattle.jh_reach.specs.declared.access.Needs.{Needs}
use Rattle.jh_reach.specs.declared.access.Needs.TheVariants.{Read, Write, Execute}
use Rattle.jh_reach.specs.declared.access.Run.{Run}

-- where a CPU looks: the words of memory, the first table of its cell and the tag of that cell's translations, and the
-- CPU's translations
pub record Sight : Type 0 where
  pub word : ℕ → ℕ
  pub base : Base
  pub cached : List Translation

-- where the CPU of the number looks, in this memory and with these translations of all CPUs
abbrev pub sight_of : FramesView → List (List Translation) → ℕ → Base → Sight
sight_of memory lists cpu base = record { word = word_in (byte_at memory); base = base; cached = translations_of lists cpu }

-- what the cell's tables give the address: what a walk finds there
abbrev pub hit_at : Sight → ℕ → Option Hit
hit_at s at = walk_of s.word levels s.base.table at

-- each translation of the cell that the CPU has is what a walk finds there
abbrev pub AreTrueTranslations : Sight → Type 0
AreTrueTranslations s = (t : Translation) → Contains s.cached t → t.tag ≡ s.base.tag → hit_at s t.page ≡ Some t.hit

-- the rights have the one that is needed
abbrev pub allows : Needs → Rights → Bool
allows Read rights = rights.read
allows Write rights = rights.write
allows Execute rights = rights.execute

-- the hit, where it has the right
abbrev pub allowed : Needs → Hit → Option Hit
allowed needs hit = if allows needs hit.rights then Some hit else None

-- what the address is given with that right
abbrev pub given : Sight → Needs → ℕ → Option Hit
given s needs at = option_and_then (allowed needs) (hit_at s at)

-- the place that the address is given with that right
abbrev pub place_given : Sight → Needs → ℕ → Option ℕ
place_given s needs at = option_map (λ (hit : Hit). hit.out) (given s needs at)

-- the places of so many addresses from `at` on, where each has one
abbrev pub places_from : (ℕ → Option ℕ) → ℕ → ℕ → Option (List ℕ)
places_from place at zero = Some []
places_from place at (suc count) = option_and_then (λ (p : ℕ). option_map (λ (ps : List ℕ). p ∷ ps) (places_from place (at + 1) count)) (place at)

-- the access ends at the end of addresses at most
abbrev pub ends_within : Access → Bool
ends_within access = nat_le (access.at + access.width) ADDRESS_END

-- the places of all bytes of the access: none where it ends past the addresses, and none where a byte has no place
abbrev pub places_given : Sight → Access → Option (List ℕ)
places_given s access = if ends_within access then places_from (place_given s access.needs) access.at access.width else None

-- a byte of the access has no place
pub record LacksPlace (s : Sight) (access : Access) : Type 0 where
  pub byte : ℕ
  pub within : byte < access.width
  pub none : place_given s access.needs (access.at + byte) ≡ None

-- the places of a run, and those of two, one behind the other
abbrev pub places_in : Run → List ℕ
places_in run = range_with_len run.at run.count

abbrev pub places_in_both : Run × Run → List ℕ
places_in_both runs = places_in runs.0 ++ places_in runs.1

-- the run lies in one page of places, below the end of places
pub record IsInPage (run : Run) : Type 0 where
  pub page : run.at % 4096 + run.count ≤ 4096
  pub below : run.at + run.count ≤ ADDRESS_END
