-- What is known of each line that the reader tells.
use Rattle.jh_plan.specs.declared.line.Line.{Line}
use Rattle.jh_plan.specs.declared.line.Line.TheVariants.{Blank, Wanted, Syntax}
use Rattle.jh_plan.specs.Demands.{IsDemand}

-- the demand of the line, where it is one of a demand, is within its limits
abbrev pub IsGoodLine : Line → Type 0
IsGoodLine Blank = Unit {0}
IsGoodLine (Wanted demand) = IsDemand demand
IsGoodLine Syntax = Unit {0}
