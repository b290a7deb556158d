-- How much a text may have.
use Rattle.std.specs.Prelude.{ℕ}

-- how many operations a program may have
abbrev pub most_ops : ℕ
most_ops = 4096

-- how many items a schedule may have
abbrev pub most_items : ℕ
most_items = 262144
