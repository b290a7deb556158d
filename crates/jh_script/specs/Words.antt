-- The words of a text.
use Rattle.std.specs.Prelude.{ℕ, Bool, ◌==◌, nat_lt, List, [], ◌∷◌, length, filter}
use Rattle.std.specs.List.{list_any, slice_split}

-- the byte is one of those that part words
abbrev pub is_gap : List ℕ → ℕ → Bool
is_gap gaps byte = list_any (λ gap. gap == byte) gaps

-- the words of a text: what stands between the bytes that part them, without the empty pieces
unfoldable pub words : List ℕ → List ℕ → List (List ℕ)
words gaps text = filter (λ word. nat_lt 0 (length word)) (slice_split (is_gap gaps) text)

-- the bytes that part words in a line: the space and the tab
abbrev pub line_gaps : List ℕ
line_gaps = 32 ∷ 9 ∷ []

-- the bytes that part words in a schedule: the space, the tab, the line feed and the carriage return
abbrev pub schedule_gaps : List ℕ
schedule_gaps = 32 ∷ 9 ∷ 10 ∷ 13 ∷ []
