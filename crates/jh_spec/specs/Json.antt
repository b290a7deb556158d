-- What a JSON value tells: whole numbers, lists, and objects with the names that are listed.
use Rattle.std.specs.Prelude.{◌≡◌, ℕ, Bool, false, nat_lt, nat_le, nat_eq, List, [], ◌∷◌, length, Option, Some, None, is_none, option_map, option_and_then, if◌then◌else◌, IsUtf8}
use Rattle.std.specs.List.{list_any}
use Rattle.std.specs.Option.{option_map_or}
use Rattle.std.specs.Cmp.Lexicographic.{pointwise}
use Rattle.serde_json.specs.Data.{Data, Items, no_items, item, Members, no_members, member}
use Rattle.serde_json.specs.Read.{read}
use Rattle.serde_json.specs.Find.{get, as_number, as_u64, as_array, as_object}

-- the bytes are the text of this JSON value, by the JSON reader's own written reading
pub record IsText (bytes : List ℕ) (d : Data) : Type 0 where
  pub utf8 : IsUtf8 bytes
  pub value : read bytes ≡ Some d

-- ---- members of an object

infixl 10 ◌>>=◌
-- the next step of a `do`, where this one tells something
abbrev pub ◌>>=◌ : {X Y : Type 0} → Option X → (X → Option Y) → Option Y
o >>= next = option_and_then next o

-- what the member of this name tells; nothing where it is missing
abbrev pub told_at : {X : Type 0} → (Data → Option X) → List ℕ → Data → Option X
told_at tells name d = option_and_then tells (get name d)

-- what the value of a member tells, or what stands for it where the member is missing
abbrev pub told_or : {X : Type 0} → (Data → Option X) → X → Option Data → Option X
told_or tells missing None = Some missing
told_or tells missing (Some d) = tells d

-- the name is one of these
abbrev pub is_listed : List (List ℕ) → List ℕ → Bool
is_listed names name = list_any (λ listed. pointwise nat_eq listed name) names

-- the first name in an object that isn't listed; an object's names stand in order of their bytes
abbrev pub first_unlisted_of : List (List ℕ) → Members → Option (List ℕ)
first_unlisted_of names no_members = None
first_unlisted_of names (member name d ms) = if is_listed names name then first_unlisted_of names ms else Some name

-- the first name that isn't listed, where the value is an object and has one
abbrev pub first_unlisted : List (List ℕ) → Data → Option (List ℕ)
first_unlisted names d = option_and_then (first_unlisted_of names) (as_object d)

-- the value is an object, and has no other names than these
abbrev pub has_only : List (List ℕ) → Data → Bool
has_only names d = option_map_or (λ ms. is_none (first_unlisted_of names ms)) (as_object d) false

-- ---- numbers

-- a whole number; the reader keeps those of 64 bits as integers, and no others
abbrev pub number_told : Data → Option ℕ
number_told d = option_and_then as_u64 (as_number d)

-- a whole number below the limit
abbrev pub number_below : ℕ → Data → Option ℕ
number_below limit d = option_and_then (λ n. if nat_lt n limit then Some n else None) (number_told d)

-- ---- lists

-- what each item tells, where all tell something
abbrev pub items_told : {X : Type 0} → (Data → Option X) → Items → Option (List X)
items_told tells no_items = Some []
items_told tells (item d ds) = option_and_then (λ x. option_map (λ xs. x ∷ xs) (items_told tells ds)) (tells d)

-- what each item of a list tells, where all tell something
abbrev pub list_told : {X : Type 0} → (Data → Option X) → Data → Option (List X)
list_told tells d = option_and_then (items_told tells) (as_array d)

-- the list, where it has at most so many items
abbrev pub at_most : {X : Type 0} → ℕ → List X → Option (List X)
at_most most xs = if nat_le (length xs) most then Some xs else None

-- what each item of a list of at most so many tells, where all tell something
abbrev pub short_list_told : {X : Type 0} → (Data → Option X) → ℕ → Data → Option (List X)
short_list_told tells most d = option_and_then (at_most most) (list_told tells d)

-- the list of this name, which is empty where the member is missing
abbrev pub list_at : {X : Type 0} → (Data → Option X) → ℕ → List ℕ → Data → Option (List X)
list_at tells most name d = told_or (short_list_told tells most) [] (get name d)
