-- Lists of translations, the oldest first.
use Rattle.std.specs.Prelude.{◌≡◌, ℕ, ◌-◌, ◌≤◌, Bool, not, ◌&&◌, ◌==◌, List, [], ◌∷◌, ◌++◌, length, drop, Option, None, slice_index_or}
use Rattle.std.specs.List.{filter, find}
use Rattle.std.specs.Option.{option_map}
use Rattle.jh_desc.specs.declared.descriptor.Hit.{Hit}
use Rattle.jh_cache.specs.declared.translation.Translation.{Translation}

-- the translation is of that page in the tables with that tag
abbrev pub is_for : ℕ → ℕ → Translation → Bool
is_for tag page t = (t.tag == tag) && (t.page == page)

-- what the list has for the page in the tables with the tag
abbrev pub looked : List Translation → ℕ → ℕ → Option Hit
looked list tag page = option_map (λ (t : Translation). t.hit) (find (is_for tag page) list)

-- the list without those for which the test holds
abbrev pub without : (Translation → Bool) → List Translation → List Translation
without test list = filter (λ (t : Translation). not (test t)) list

-- the last of the list, at most so many
abbrev pub newest : ℕ → List Translation → List Translation
newest count list = drop (length list - count) list

-- the list with one translation more, in place of another of the same tag and page; 64 are held at most
abbrev pub filled : Translation → List Translation → List Translation
filled t list = newest 63 (without (is_for t.tag t.page) list) ++ t ∷ []

-- the list without the translations of the tag
abbrev pub flushed : ℕ → List Translation → List Translation
flushed tag list = without (λ (t : Translation). t.tag == tag) list

-- the translations of the CPU; past the last one there is nothing
abbrev pub translations_of : List (List Translation) → ℕ → List Translation
translations_of lists cpu = slice_index_or lists cpu []

-- no two of the list are for the same page in the tables with the same tag
abbrev pub AreApart : List Translation → Type 0
AreApart [] = Unit {0}
AreApart (t ∷ list) = (find (is_for t.tag t.page) list ≡ None) × AreApart list

-- a CPU can hold the list: 64 translations at most, each page with its tag once
pub record IsHeld (list : List Translation) : Type 0 where
  pub few : length list ≤ 64
  pub apart : AreApart list
