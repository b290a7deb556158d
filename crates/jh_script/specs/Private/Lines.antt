-- What is known of each line that the reader tells, and of its numbers.
use Rattle.std.specs.Prelude.{◌&&◌, ℕ, ◌^◌, nat_lt, if◌then◌else◌, Option, Some, None, Result, Ok, Err}
use Rattle.jh_script.specs.declared.line.Line.{Line}
use Rattle.jh_script.specs.declared.line.Line.TheVariants.{Blank, Operation, Syntax, Width}
use Rattle.jh_script.specs.Operations.{IsWellFormed, is_width}

-- the operation of the line, where it is one of an operation, is within its limits
abbrev pub IsWellFormedLine : Line → Type 0
IsWellFormedLine Blank = Unit {0}
IsWellFormedLine (Operation op) = IsWellFormed op
IsWellFormedLine Syntax = Unit {0}
IsWellFormedLine Width = Unit {0}

-- the numbers, where they are a width, an address and a value that fits the width; or else what the line tells
unfoldable pub valued_of : Option (ℕ × ℕ × ℕ) → Result (ℕ × ℕ × ℕ) Line
valued_of None = Err Syntax
valued_of (Some numbers) =
    if is_width numbers.0 && nat_lt numbers.2 (256 ^ numbers.0) then Ok numbers else Err Width
