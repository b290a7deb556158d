-- Lists of findings, made from numbered items.
use Rattle.std.specs.Prelude.{ℕ, ◌+◌, Bool, true, false, List, [], ◌∷◌, ◌++◌, take, if◌then◌else◌}
use Rattle.jh_check.specs.declared.finding.Finding.{Finding}

-- what is found at each item in turn, where the items are numbered from `n` on
unfoldable pub found_from : {X : Type 0} → (ℕ → X → List Finding) → ℕ → List X → List Finding
found_from found n [] = []
found_from found n (item ∷ items) = found n item ++ found_from found (n + 1) items

-- the finding alone, where the test holds, and else none
unfoldable pub only_if : Bool → Finding → List Finding
only_if test finding = if test then finding ∷ [] else []

-- the first thousand of the findings
unfoldable pub capped : List Finding → List Finding
capped found = take 1000 found

-- something is found
abbrev pub is_any : List Finding → Bool
is_any [] = false
is_any (finding ∷ more) = true
