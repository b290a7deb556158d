-- What a call ends with: the status and the text of its request, by what the files hand out.
use Rattle.std.specs.Prelude.{◌≡◌, ◌≢◌, ℕ, ◌⊎◌, List, Option, Some, None}
use Rattle.jh_outside.specs.Writes.{Appended, AppendedPart}
use Rattle.jh_cli.specs.Words.{Request, CheckOf, PackOf, PlayOf, RunOf, MapOf, AuditOf, SoakOf, PlanOf, PinsOf, TablesOf}
use Rattle.jh_cli.specs.Lines.{usage_line}
use Rattle.jh_image.specs.Files.{Contents}
use Rattle.jh_cli.specs.Reading.{Reply}
use Rattle.jh_cli.specs.Check.{Checks}
use Rattle.jh_cli.specs.Pack.{Packs}
use Rattle.jh_cli.specs.Play.{Plays}
use Rattle.jh_cli.specs.Run.{Runs}
use Rattle.jh_cli.specs.Map.{Maps}
use Rattle.jh_cli.specs.Audit.{Audits}
use Rattle.jh_cli.specs.Soak.{Soaks}
use Rattle.jh_cli.specs.Plan.{Plans}
use Rattle.jh_cli.specs.Pins.{Pins}
use Rattle.jh_cli.specs.Tables.{Tables}
use Rattle.jh_cli.specs.declared.status.Status.{Status}
use Rattle.jh_cli.specs.declared.status.Status.TheVariants.{Usage, ReadFault, WriteFault}

-- what a call with this request ends with; without a request the line of usage
abbrev pub Outcome : Contents → Option Request → Reply → Type 0
Outcome contents None reply = reply ≡ record { status = Usage; text = usage_line }
Outcome contents (Some (CheckOf system cells)) reply = Checks contents system cells reply
Outcome contents (Some (PackOf spec)) reply = Packs contents spec reply
Outcome contents (Some (PlayOf board schedule)) reply = Plays contents board schedule reply
Outcome contents (Some (RunOf board)) reply = Runs contents board reply
Outcome contents (Some (MapOf board schedule)) reply = Maps contents board schedule reply
Outcome contents (Some (AuditOf board journal)) reply = Audits contents board journal reply
Outcome contents (Some (SoakOf rounds)) reply = Soaks rounds reply
Outcome contents (Some (PlanOf system demands)) reply = Plans contents system demands reply
Outcome contents (Some (PinsOf board schedule)) reply = Pins contents board schedule reply
Outcome contents (Some (TablesOf board schedule)) reply = Tables contents board schedule reply

-- the reply is an outcome of the request, and a certain one: it isn't that a file could not be read, so what the files
-- hold decides it
pub record IsCertainOutcome (contents : Contents) (request : Option Request) (reply : Reply) : Type 0 where
  pub outcome : Outcome contents request reply
  pub read : reply.status ≢ ReadFault

-- the text was appended and the status is its own, or a proper front of it was and the status tells so
abbrev pub Sent : Option (List ℕ) → Option (List ℕ) → Reply → Status → Type 0
Sent old new reply status = ((status ≡ reply.status) × Appended old new reply.text) ⊎ ((status ≡ WriteFault) × AppendedPart old new reply.text)
