-- Which pages an access looks at, and which descriptors are read for them.
use Rattle.std.specs.Prelude.{ℕ, ◌+◌, ◌-◌, ◌%◌, nat_le, Bool, ◌==◌, if◌then◌else◌, List, [], ◌∷◌, filter_map, flat_map, Option, is_some, option_map}
use Rattle.jh_num.specs.declared.steps.Probe.{Probe}
use Rattle.jh_desc.specs.declared.descriptor.Hit.{Hit}
use Rattle.jh_walk.specs.Walks.{levels, probes_of}
use Rattle.jh_cache.specs.Translations.{looked}
use Rattle.jh_reach.specs.declared.access.Access.{Access}
use Rattle.jh_reach.specs.declared.access.Needs.{Needs}
use Rattle.jh_reach.specs.declared.looks.Look.{Look}
use Rattle.jh_reach.specs.Places.{Sight, ends_within, given, places_given}

-- what contracts see of looks: the pages that were looked at and may be accessed, in order of address, whether these are
-- all pages of the access, and the descriptors that were read, in order
pub record LooksView : Type 0 where
  pub looked : List Look
  pub whole : Bool
  pub read : List Probe

-- the page of addresses that the address lies in, by its first one
abbrev pub page_of : ℕ → ℕ
page_of at = at - at % 4096

-- the pages of so many bytes from the address on, where these are in two pages at most
abbrev pub pages_of : ℕ → ℕ → List ℕ
pages_of at width =
    if width == 0 then []
    else (if nat_le (at % 4096 + width) 4096 then page_of at ∷ [] else page_of at ∷ (page_of at + 4096) ∷ [])

-- the pages of the access, in order of address; one that ends past the addresses has none
abbrev pub pages_in : Access → List ℕ
pages_in access = if ends_within access then pages_of access.at access.width else []

-- the pages that are looked at: up to and with the first that isn't given
abbrev pub up_to_refused : (ℕ → Bool) → List ℕ → List ℕ
up_to_refused is_given [] = []
up_to_refused is_given (page ∷ pages) = page ∷ (if is_given page then up_to_refused is_given pages else [])

abbrev pub looked_pages : Sight → Access → List ℕ
looked_pages s access = up_to_refused (λ page. is_some (given s access.needs page)) (pages_in access)

-- the CPU has a translation of the page
abbrev pub is_cached : Sight → ℕ → Bool
is_cached s page = is_some (looked s.cached s.base.tag page)

-- a look at a page that a walk gives this
abbrev pub look_of : Sight → ℕ → Hit → Look
look_of s page hit = record { page = page; hit = hit; cached = is_cached s page }

-- the look at the page, where that may be accessed
abbrev pub look_at : Sight → Needs → ℕ → Option Look
look_at s needs page = option_map (look_of s page) (given s needs page)

-- the looks at the pages that are looked at
abbrev pub looks_at : Sight → Access → List Look
looks_at s access = filter_map (look_at s access.needs) (looked_pages s access)

-- the descriptors that are read for the page: none where the CPU has a translation of it, else those of its walk
abbrev pub reads_at : Sight → ℕ → List Probe
reads_at s page = if is_cached s page then [] else probes_of s.word levels s.base.table page

-- the descriptors that are read for the access, page by page and level by level
abbrev pub reads_of : Sight → Access → List Probe
reads_of s access = flat_map (reads_at s) (looked_pages s access)

-- what is seen of the access's looks
abbrev pub looks_of : Sight → Access → LooksView
looks_of s access = record { looked = looks_at s access; whole = is_some (places_given s access); read = reads_of s access }
