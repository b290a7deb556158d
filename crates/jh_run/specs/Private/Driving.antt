-- Why no turn follows another.
use Rattle.std.specs.Prelude.{Option, Some, None, Result, Ok, Err}
use Rattle.std.specs.declared.ops.ControlFlow.{ControlFlow}
use Rattle.std.specs.declared.ops.ControlFlow.TheVariants.{Continue, Break}
use Rattle.jh_board.specs.declared.turn.Turn.{Turn}
use Rattle.jh_board.specs.declared.turn.Turn.TheVariants.{Made, Edited, NotNow, Done}
use Rattle.jh_board.specs.declared.turn.TurnFault.{TurnFault}
use Rattle.jh_board.specs.declared.turn.TurnFault.TheVariants.{Full}
use Rattle.jh_run.specs.declared.ended.Ended.{Ended}
use Rattle.jh_run.specs.declared.ended.Ended.TheVariants.{Unstopped as EndedUnstopped, Full as EndedFull}

-- whether a turn follows the one that answers this; where none does, for what this one was refused, if it was
abbrev pub end_after : Result Turn TurnFault → ControlFlow (Option TurnFault) (Unit {0})
end_after (Ok (Made entry)) = Continue tt
end_after (Ok (Edited left)) = Continue tt
end_after (Ok (NotNow other)) = Continue tt
end_after (Ok Done) = Break None
end_after (Err fault) = Break (Some fault)

-- for what the last turn of a run was refused that ended so, if it was
abbrev pub last_fault : Ended → Option TurnFault
last_fault EndedUnstopped = None
last_fault EndedFull = Some Full
