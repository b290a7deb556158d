-- What the text of a program tells.
use Rattle.std.specs.Prelude.{ℕ, ◌+◌, ◌-◌, ◌^◌, ◌==◌, if◌then◌else◌, min, Option, Some, None, Result, Ok, Err, List, [], ◌∷◌, map}
use Rattle.std.specs.Str.Lines.{lines}
use Rattle.jh_script.specs.declared.op.Op.{Op}
use Rattle.jh_script.specs.declared.line.Line.{Line}
use Rattle.jh_script.specs.declared.line.Line.TheVariants.{Blank, Operation, Syntax, Width}
use Rattle.jh_script.specs.declared.fault.ProgramFault.{ProgramFault}
use Rattle.jh_script.specs.declared.fault.ProgramFault.TheVariants as faults
use Rattle.jh_script.specs.Operations.{line_of}
use Rattle.jh_script.specs.Limits.{most_ops}

-- what each line of the text tells, in order; a line ends at its line feed, and loses a carriage return before that; the
-- last may lack the line feed, and keeps a carriage return then
unfoldable pub lines_of : List ℕ → List Line
lines_of text = map line_of (lines text)

-- the number of the line behind so many others: the first is 1, and numbers end at 2 ^ 32 - 1
abbrev pub line_number : ℕ → ℕ
line_number before = min (before + 1) (2 ^ 32 - 1)

-- the first fault of lines that stand behind others, where so many operations more are allowed
unfoldable pub first_fault : ℕ → ℕ → List Line → Option ProgramFault
first_fault before room [] = None
first_fault before room (Blank ∷ more) = first_fault (line_number before) room more
first_fault before room (Operation op ∷ more) = if room == 0 then Some faults.TooLong else first_fault (line_number before) (room - 1) more
first_fault before room (Syntax ∷ more) = Some (faults.Syntax (line_number before))
first_fault before room (Width ∷ more) = Some (faults.Width (line_number before))

-- the operations of the lines, in order
unfoldable pub ops_of_lines : List Line → List Op
ops_of_lines [] = []
ops_of_lines (Blank ∷ more) = ops_of_lines more
ops_of_lines (Operation op ∷ more) = op ∷ ops_of_lines more
ops_of_lines (Syntax ∷ more) = ops_of_lines more
ops_of_lines (Width ∷ more) = ops_of_lines more

-- what is made, or the fault where there is one
abbrev pub unless : {X F : Type 0} → Option F → X → Result X F
unless None x = Ok x
unless (Some fault) x = Err fault

-- the operations of the text, or its first fault
unfoldable pub program_of : List ℕ → Result (List Op) ProgramFault
program_of text = unless (first_fault 0 most_ops (lines_of text)) (ops_of_lines (lines_of text))
