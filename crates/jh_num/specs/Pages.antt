-- Memory as its pages of 4 KB, each by its number.
use Rattle.std.specs.Prelude.{ℕ, ◌/◌, ◌%◌, List, Option, slice_index, nat_eq}
use Rattle.std.specs.Map.{lookup}
use Rattle.std.specs.Option.{option_map_or}

-- the page of the number, if it is held
abbrev pub page_at : List (ℕ × List ℕ) → ℕ → Option (List ℕ)
page_at pages number = lookup (nat_eq number) pages

-- the byte of the page, 0 where there is none
abbrev pub byte_of_page : Option (List ℕ) → ℕ → ℕ
byte_of_page page offset = option_map_or (λ (bytes : List ℕ). slice_index bytes offset) page 0

-- the byte at the place, 0 where its page isn't held
abbrev pub paged_byte : List (ℕ × List ℕ) → ℕ → ℕ
paged_byte pages place = byte_of_page (page_at pages (place / 4096)) (place % 4096)
