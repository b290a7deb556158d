-- The lines of operations, from the operation to its words: a text may write each operation in many ways, and each
-- line writes one operation at most.
use Rattle.std.specs.Prelude.{◌≡◌, ℕ, ◌^◌, ◌<◌, ◌≤◌, ◌⊎◌, true, nat_eq, List, [], ◌∷◌, ◌++◌, length, codes}
use Rattle.std.specs.List.{starts_with}
use Rattle.std.specs.Fmt.{decimal}
use Rattle.std.specs.Str.Parse.{AllDigits, digits_value}
use Rattle.jh_script.specs.declared.op.Op.{Op}
use Rattle.jh_script.specs.declared.op.Op.TheVariants.{Read, Write, Fetch, Await, Irq, Hvc}
use Rattle.jh_script.specs.Operations.{IsWellFormed, is_ascii}
use Rattle.jh_script.specs.Words.{line_gaps, words}

-- the word is the number in decimal, and the number is below 2 ^ 64
pub record IsDecimal (word : List ℕ) (n : ℕ) : Type 0 where
  pub small : n < 2 ^ 64
  pub text : word ≡ decimal n

-- the word is `0x` and 1 to 16 hexadecimal digits that write the number
pub record IsHexadecimal (word : List ℕ) (n : ℕ) : Type 0 where
  pub digits : List ℕ
  pub text : word ≡ codes "0x" ++ digits
  pub some : 0 < length digits
  pub few : length digits ≤ 16
  pub are : AllDigits 16 digits
  pub value : n ≡ digits_value 16 digits

-- the word is the number, in decimal or in hexadecimal
abbrev pub IsNumber : List ℕ → ℕ → Type 0
IsNumber word n = IsDecimal word n ⊎ IsHexadecimal word n

-- the words are this name alone
pub record IsNameAlone (name : List ℕ) (words : List (List ℕ)) : Type 0 where
  pub are : words ≡ name ∷ []

-- the words are this name and one number
pub record IsNameAndOne (name : List ℕ) (words : List (List ℕ)) (x : ℕ) : Type 0 where
  pub a : List ℕ
  pub are : words ≡ name ∷ a ∷ []
  pub first : IsNumber a x

-- the words are this name and two numbers
pub record IsNameAndTwo (name : List ℕ) (words : List (List ℕ)) (x y : ℕ) : Type 0 where
  pub a : List ℕ
  pub b : List ℕ
  pub are : words ≡ name ∷ a ∷ b ∷ []
  pub first : IsNumber a x
  pub second : IsNumber b y

-- the words are this name and three numbers
pub record IsNameAndThree (name : List ℕ) (words : List (List ℕ)) (x y z : ℕ) : Type 0 where
  pub a : List ℕ
  pub b : List ℕ
  pub c : List ℕ
  pub are : words ≡ name ∷ a ∷ b ∷ c ∷ []
  pub first : IsNumber a x
  pub second : IsNumber b y
  pub third : IsNumber c z

-- the words write the operation
abbrev pub Writes : List (List ℕ) → Op → Type 0
Writes words (Read width at) = IsNameAndTwo (codes "read") words width at
Writes words (Write width at value) = IsNameAndThree (codes "write") words width at value
Writes words (Fetch at) = IsNameAndOne (codes "fetch") words at
Writes words (Await width at value) = IsNameAndThree (codes "await") words width at value
Writes words Irq = IsNameAlone (codes "irq") words
Writes words (Hvc code a b) = IsNameAndThree (codes "hvc") words code a b

-- the words are those of a line that is skipped: none, or a comment's
abbrev pub IsSkipped : List (List ℕ) → Type 0
IsSkipped [] = Unit {0}
IsSkipped (word ∷ more) = starts_with nat_eq word (codes "#") ≡ true

-- the line is that of an operation that isn't within its limits
pub record IsIllFormed (text : List ℕ) : Type 0 where
  pub ascii : is_ascii text ≡ true
  pub op : Op
  pub written : Writes (words line_gaps text) op
  pub ill : IsWellFormed op → ⊥
