-- What holds of the reply with which a step of a command ended, where one was told.
use Rattle.std.specs.Prelude.{⊤, Result, Ok, Err}
use Rattle.jh_cli.specs.declared.ending.Ending.{Ending}
use Rattle.jh_cli.specs.declared.ending.CallFault.{CallFault}
use Rattle.jh_cli.specs.declared.ending.CallFault.TheVariants.{Ended, NoMemory}
use Rattle.jh_cli.specs.Reading.{Reply}

-- the reply that the ending tells
abbrev pub reply_of : Ending → Reply
reply_of ending = record { status = ending.status; text = ending.text.items }

-- P holds of the reply, where the stop isn't for want of memory
abbrev pub OnEnded : CallFault → (Reply → Type 0) → Type 0
OnEnded (Ended ending) P = P (reply_of ending)
OnEnded NoMemory P = ⊤

-- P holds of the reply of a command, where it ends at a file too; for want of memory nothing is told
abbrev pub OnEnding : Result Ending CallFault → (Reply → Type 0) → Type 0
OnEnding (Ok ending) P = P (reply_of ending)
OnEnding (Err stop) P = OnEnded stop P
