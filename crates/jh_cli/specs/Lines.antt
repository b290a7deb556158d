-- The lines that tell how a call ended.
use Rattle.std.specs.Prelude.{ℕ, List, [], ◌∷◌, ◌++◌, codes}
use Rattle.jh_cli.specs.declared.status.Status.{Status}
use Rattle.jh_cli.specs.declared.status.Status.TheVariants.{Good, Found, Usage, Refused, ReadFault, WriteFault, NoMemory, Full}

-- the number that the program exits with
abbrev pub exit_number : Status → ℕ
exit_number Good = 0
exit_number Found = 1
exit_number Usage = 2
exit_number Refused = 3
exit_number ReadFault = 4
exit_number WriteFault = 5
exit_number NoMemory = 6
exit_number Full = 7

-- the line that tells how the program is used
abbrev pub usage_line : List ℕ
usage_line = codes "usage: jailhouse check SYSTEM CELL... | pack SPEC | play BOARD SCHEDULE | run BOARD | map BOARD SCHEDULE | tables BOARD SCHEDULE | audit BOARD JOURNAL | soak N | plan SYSTEM DEMANDS | pins BOARD SCHEDULE" ++ 10 ∷ []

-- the line that tells that the word for a number of rounds tells none
abbrev pub rounds_line : List ℕ
rounds_line = codes "refused: N" ++ 10 ∷ []

-- the line that tells that the file of this name could not be read
abbrev pub fault_line : List ℕ → List ℕ
fault_line name = codes "read fault: " ++ name ++ 10 ∷ []

-- the line that tells that the file of this name is refused for what the words say
abbrev pub refusal_line : List ℕ → List ℕ → List ℕ
refusal_line name words = codes "refused: " ++ name ++ codes ": " ++ words ++ 10 ∷ []
