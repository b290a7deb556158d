-- The reads of a call, one after another.
use Rattle.std.specs.Prelude.{◌≡◌, ℕ, List, [], ◌∷◌, ◌++◌, map}
use Rattle.jh_outside.specs.declared.files.Files.{Ghosts}
use Rattle.jh_outside.specs.Ask.{Ask, handed, kept_name}

-- `files` says what each read does to the files, and which name they keep
module _ {S : Type 0} (files : Ghosts S) where
  -- these reads, in this order and no other, take the files from the one state to the other
  pub data Asks : S → List Ask → S → Type 0 where
    no_ask : (s : S) → Asks s [] s
    one_more_ask : (s t u : S) (ask : Ask) (asks : List Ask) → files.asks s ask t → files.failed t ≡ kept_name (files.failed s) ask.name ask.answer → Asks t asks u
        → Asks s (ask ∷ asks) u

  -- these files were read, one after another, each once, and no other; each handed out bytes
  abbrev pub AsksAll : List (List ℕ) → S → S → Type 0
  AsksAll names s t = Asks s (map handed names) t

  -- these files were read, one after another, each once; each handed out bytes. Behind them came this last read, and no
  -- other
  abbrev pub AsksUpTo : List (List ℕ) → Ask → S → S → Type 0
  AsksUpTo names last s t = Asks s (map handed names ++ last ∷ []) t
