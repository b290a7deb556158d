-- What a line of a program tells.
use Rattle.std.specs.Prelude.{◌≡◌, ◌&&◌, ◌||◌, ℕ, ◌^◌, ◌%◌, ◌<◌, Bool, true, ◌==◌, nat_lt, if◌then◌else◌, IsTrue, Option, Some, None, option_and_then, List, [], ◌∷◌, codes, nat_eq}
use Rattle.std.specs.Option.{option_map}
use Rattle.std.specs.Str.{bytes_eq}
use Rattle.std.specs.List.{list_all, starts_with}
use Rattle.jh_script.specs.declared.op.Op.{Op}
use Rattle.jh_script.specs.declared.op.Op.TheVariants.{Read, Write, Fetch, Await, Irq, Hvc}
use Rattle.jh_script.specs.declared.line.Line.{Line}
use Rattle.jh_script.specs.declared.line.Line.TheVariants.{Blank, Operation, Syntax, Width}
use Rattle.jh_script.specs.Numbers.{number_written}
use Rattle.jh_script.specs.Words.{words, line_gaps}

infixl 10 ◌>>=◌
-- the next step of a `do`, where this one tells something
abbrev pub ◌>>=◌ : {A B : Type 0} → Option A → (A → Option B) → Option B
o >>= f = option_and_then f o

-- there is no word
unfoldable pub none_of : List (List ℕ) → Option (Unit {0})
none_of [] = Some tt
none_of (a ∷ more) = None

-- the number of the words, where they are just one and it is a number
unfoldable pub one_of : List (List ℕ) → Option ℕ
one_of [] = None
one_of (a ∷ []) = number_written a
one_of (a ∷ b ∷ more) = None

-- the numbers of the words, where they are just two and each is a number
unfoldable pub two_of : List (List ℕ) → Option (ℕ × ℕ)
two_of [] = None
two_of (a ∷ []) = None
two_of (a ∷ b ∷ []) = do
  x ← number_written a
  y ← number_written b
  Some (x, y)
two_of (a ∷ b ∷ c ∷ more) = None

-- the numbers of the words, where they are just three and each is a number
unfoldable pub three_of : List (List ℕ) → Option (ℕ × ℕ × ℕ)
three_of [] = None
three_of (a ∷ []) = None
three_of (a ∷ b ∷ []) = None
three_of (a ∷ b ∷ c ∷ []) = do
  x ← number_written a
  y ← number_written b
  z ← number_written c
  Some (x, y, z)
three_of (a ∷ b ∷ c ∷ d ∷ more) = None

-- the operation with this name and these words behind it, whatever its numbers
unfoldable pub op_of : List ℕ → List (List ℕ) → Option Op
op_of name behind =
    if bytes_eq name (codes "read") then option_map (λ n. Read n.0 n.1) (two_of behind)
    else (if bytes_eq name (codes "write") then option_map (λ n. Write n.0 n.1 n.2) (three_of behind)
    else (if bytes_eq name (codes "fetch") then option_map (λ n. Fetch n) (one_of behind)
    else (if bytes_eq name (codes "await") then option_map (λ n. Await n.0 n.1 n.2) (three_of behind)
    else (if bytes_eq name (codes "irq") then option_map (λ n. Irq) (none_of behind)
    else (if bytes_eq name (codes "hvc") then option_map (λ n. Hvc n.0 n.1 n.2) (three_of behind)
    else None)))))

-- an access may have so many bytes
abbrev pub is_width : ℕ → Bool
is_width width = (width == 1) || (width == 2) || (width == 4) || (width == 8)

-- the operation is within its limits: its width is one that an access may have, its value fits that
-- width, and an instruction is fetched at a multiple of 4
unfoldable pub is_well_formed : Op → Bool
is_well_formed (Read width at) = is_width width
is_well_formed (Write width at value) = is_width width && nat_lt value (256 ^ width)
is_well_formed (Fetch at) = (at % 4) == 0
is_well_formed (Await width at value) = is_width width && nat_lt value (256 ^ width)
is_well_formed Irq = true
is_well_formed (Hvc code a b) = true

-- the operation is within its limits, as a fact: of its width, its value and its address
abbrev pub IsWellFormed : Op → Type 0
IsWellFormed (Read width at) = IsTrue (is_width width)
IsWellFormed (Write width at value) = IsTrue (is_width width) × (value < 256 ^ width)
IsWellFormed (Fetch at) = at % 4 ≡ 0
IsWellFormed (Await width at value) = IsTrue (is_width width) × (value < 256 ^ width)
IsWellFormed Irq = Unit {0}
IsWellFormed (Hvc code a b) = Unit {0}

-- what a line tells that is of this operation, or of none
unfoldable pub line_of_op : Option Op → Line
line_of_op None = Syntax
line_of_op (Some op) = if is_well_formed op then Operation op else Width

-- what a line of these words tells; a first word that begins with `#` begins a comment
unfoldable pub line_of_words : List (List ℕ) → Line
line_of_words [] = Blank
line_of_words (name ∷ behind) = if starts_with nat_eq name (codes "#") then Blank else line_of_op (op_of name behind)

-- all bytes are below 128
abbrev pub is_ascii : List ℕ → Bool
is_ascii text = list_all (λ byte. nat_lt byte 128) text

-- what a line of these bytes tells: a byte of 128 or more is a fault, in a comment too
unfoldable pub line_of : List ℕ → Line
line_of line = if is_ascii line then line_of_words (words line_gaps line) else Syntax
