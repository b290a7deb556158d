-- What has been appended to a sink, where the sink tells it.
use Rattle.std.specs.Prelude.{◌≡◌, ℕ, ◌<◌, List, length, take, Option}
use Rattle.std.specs.Io.KnownBytes.{append_known}

-- these bytes were appended where the sink tells what it has, and a sink that tells nothing still tells nothing
abbrev pub Appended : Option (List ℕ) → Option (List ℕ) → List ℕ → Type 0
Appended old new bytes = new ≡ append_known old bytes

-- a proper front of the text was appended
abbrev pub AppendedPart : Option (List ℕ) → Option (List ℕ) → List ℕ → Type 0
AppendedPart old new text = (count : ℕ) × (count < length text) × Appended old new (take count text)
