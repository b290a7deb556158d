-- What one write to a writer of the system does.
use Rattle.std.specs.Prelude.{ℕ, List, take, Option, Some, None}
use Rattle.std.specs.Io.KnownBytes.{Keeps, Appends}

-- the writer took so many bytes of the piece, and nothing where it was interrupted
abbrev pub Took : Option (List ℕ) → Option (List ℕ) → List ℕ → Option ℕ → Type 0
Took old new piece None = Keeps old new
Took old new piece (Some count) = Appends old new (take count piece)
