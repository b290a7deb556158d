-- No outcome has the status of a sink that failed.
use Rattle.std.proofs.Common.{◌≡◌, ◌≢◌, ℕ, ◌⊎◌, List, Bool, true, false, cond, Option, Some, None, refl, sym, ◌∙◌, ap, arith, inl, inr}
use Rattle.jh_cellcfg.specs.declared.config.SystemConfig.{SystemConfig}
use Rattle.jh_script.specs.declared.image.Image.{Image}
use Rattle.jh_history.specs.declared.form.Form.TheVariants.{Two}
use Rattle.jh_history.specs.declared.entry.Entry.{Entry}
use Rattle.jh_history.specs.Items.{played}
use Rattle.jh_image.specs.declared.fault.ImageCause.{ImageCause}
use Rattle.jh_image.specs.declared.fault.ImageCause.TheVariants.{ReadFault as CantBeRead, Oversize, Json, Member, System, Findings, PoolSmall, Preload as BadPreload, Program as BadProgram}
use Rattle.jh_spec.specs.declared.spec.Spec.{Spec}
use Rattle.jh_run.specs.Soak.{soak_image}
use Rattle.jh_plan.specs.declared.demand.Demand.{Demand}
use Rattle.jh_audit.specs.declared.verdict.Verdict.{Verdict}
use Rattle.jh_audit.specs.declared.verdict.Verdict.TheVariants.{Legal, Illegal}
use Rattle.jh_check.specs.Lists.{is_any, capped}
use Rattle.jh_check.specs.Findings.{findings}
use Rattle.jh_text.specs.Faults.{max_entries}
use Rattle.jh_cli.specs.declared.status.Status.{Status}
use Rattle.jh_cli.specs.declared.status.Status.TheVariants.{Good, Found, Usage, Refused, ReadFault, WriteFault, NoMemory, Full}
use Rattle.jh_cli.specs.Lines.{exit_number}
use Rattle.jh_cli.specs.Words.{Request, CheckOf, PackOf, PlayOf, RunOf, MapOf, AuditOf, SoakOf, PlanOf, PinsOf, TablesOf}
use Rattle.jh_image.specs.Files.{Contents}
use Rattle.jh_cli.specs.Reading.{Reply, FileKind, EndsAt, Reads}
use Rattle.jh_cli.specs.Check.{system_file, CellRefusal, ChecksCells, checked_status}
use Rattle.jh_cli.specs.Pack.{spec_file, packed}
use Rattle.jh_cli.specs.Boards.{stopped, Opens}
use Rattle.jh_cli.specs.Play.{schedule_file, IsPlayed, played_status, PlaysBy}
use Rattle.jh_cli.specs.Run.{EndsRun, IsToldRun}
use Rattle.jh_cli.specs.Map.{IsMapped, map_reply, MapsBy}
use Rattle.jh_cli.specs.Pins.{ArePinsTold, pins_reply, PinsBy}
use Rattle.jh_cli.specs.Tables.{tables_reply, AreTablesTold, TablesBy}
use Rattle.jh_cli.specs.Audit.{journal_file, SpelledJournal, IsAudited, AuditsBy, verdict_status}
use Rattle.jh_cli.specs.Soak.{Soaks}
use Rattle.jh_cli.specs.Plan.{admitted_file, demands_file, IsPlanned, PlansBy}
use Rattle.jh_cli.specs.Limits.{asked_of_a_file}
use Rattle.jh_cli.specs.Outcome.{Outcome}

abbrev IsOther : Reply → Type 0
IsOther reply = reply.status ≢ WriteFault

-- a status with another number than 5
other : (reply : Reply) (status : Status) → reply.status ≡ status → exit_number status ≢ 5 → IsOther reply
other reply status is differs h = differs (ap exit_number (sym is ∙ h))

stops_other : (most : ℕ) (contents : Contents) (name : List ℕ) (Why : List ℕ → List ℕ → Type 0) (reply : Reply) → EndsAt most contents name Why reply → IsOther reply
stops_other most contents name Why reply (inl fault) = other reply ReadFault (ap (λ (s : Reply). s.status) fault) (omega arith)
stops_other most contents name Why reply (inr is) = other reply Refused (ap (λ (s : Reply). s.status) is.told) (omega arith)

reads_other : {A : Type 0} (contents : Contents) (name : List ℕ) (kind : FileKind A) (next : A → Reply → Type 0) (reply : Reply)
    → ((value : A) → next value reply → IsOther reply) → Reads contents name kind next reply → IsOther reply
reads_other contents name kind next reply rest (inl stops) = stops_other kind.most contents name kind.Refusal reply stops
reads_other contents name kind next reply rest (inr went) = rest went.0 went.2

played_other : (full : Bool) → exit_number (played_status full) ≢ 5
played_other true = omega arith
played_other false = omega arith

checked_other : (any : Bool) → exit_number (cond any Found Good) ≢ 5
checked_other true = omega arith
checked_other false = omega arith

cells_other : (contents : Contents) (names : List (List ℕ)) (system : SystemConfig) (reply : Reply) → ChecksCells contents names system reply → IsOther reply
cells_other contents names system reply (inl among) = stops_other asked_of_a_file contents among.name CellRefusal reply among.stops
cells_other contents names system reply (inr all) =
    other reply (checked_status (capped (findings system all.0))) (ap (λ (s : Reply). s.status) all.2) (checked_other (is_any (capped (findings system all.0))))

played_ends_other : (image : Image) (cpus : List ℕ) (reply : Reply) → IsPlayed image cpus reply → IsOther reply
played_ends_other image cpus reply is =
    other reply (played_status (played image Two max_entries cpus).full) (ap (λ (s : Reply). s.status) is.told) (played_other (played image Two max_entries cpus).full)

mapped_other : (found : Option (List ℕ)) → exit_number (map_reply found).status ≢ 5
mapped_other (Some text) = omega arith
mapped_other None = omega arith

map_ends_other : (image : Image) (cpus : List ℕ) (reply : Reply) → IsMapped image cpus reply → IsOther reply
map_ends_other image cpus reply (found, is, told) = other reply (map_reply found).status (ap (λ (s : Reply). s.status) told) (mapped_other found)

pins_other : (found : Option (List ℕ)) → exit_number (pins_reply found).status ≢ 5
pins_other (Some text) = omega arith
pins_other None = omega arith

pins_end_other : (image : Image) (cpus : List ℕ) (reply : Reply) → ArePinsTold image cpus reply → IsOther reply
pins_end_other image cpus reply (found, is, told) = other reply (pins_reply found).status (ap (λ (s : Reply). s.status) told) (pins_other found)

tables_other : (found : Option (List ℕ)) → exit_number (tables_reply found).status ≢ 5
tables_other (Some text) = omega arith
tables_other None = omega arith

tables_end_other : (image : Image) (cpus : List ℕ) (reply : Reply) → AreTablesTold image cpus reply → IsOther reply
tables_end_other image cpus reply (found, is, told) = other reply (tables_reply found).status (ap (λ (s : Reply). s.status) told) (tables_other found)

-- a run ends with one of two statuses
pub run_ends : (image : Image) (entries : List Entry) (status : Status) → EndsRun image entries status → (status ≡ Good) ⊎ (status ≡ Full)
run_ends image entries Good h = inl refl
run_ends image entries Full h = inr refl
run_ends image entries Found h = absurd h
run_ends image entries Usage h = absurd h
run_ends image entries Refused h = absurd h
run_ends image entries ReadFault h = absurd h
run_ends image entries WriteFault h = absurd h
run_ends image entries NoMemory h = absurd h

run_other : (reply : Reply) → (reply.status ≡ Good) ⊎ (reply.status ≡ Full) → IsOther reply
run_other reply (inl is) = other reply Good is (omega arith)
run_other reply (inr is) = other reply Full is (omega arith)

soak_other : (word : List ℕ) (reply : Reply) → Soaks word reply → IsOther reply
soak_other word reply (inl none) = other reply Refused (ap (λ (s : Reply). s.status) none.1) (omega arith)
soak_other word reply (inr (rounds, are, soaked)) = run_other reply (run_ends (soak_image rounds) soaked.entries reply.status soaked.run.ends)

audited_other : (verdict : Verdict) → exit_number (verdict_status verdict) ≢ 5
audited_other (Legal count quiet) = omega arith
audited_other (Illegal line expected) = omega arith

audit_ends_other : (image : Image) (journal : SpelledJournal) (reply : Reply) → IsAudited image journal reply → IsOther reply
audit_ends_other image journal reply is = other reply (verdict_status is.verdict) (ap (λ (s : Reply). s.status) is.told) (audited_other is.verdict)

planned_other : (name : List ℕ) (system : SystemConfig) (demands : List Demand) (reply : Reply) → IsPlanned name system demands reply → IsOther reply
planned_other name system demands reply (inl tells) = other reply Good (ap (λ (s : Reply). s.status) tells.told) (omega arith)
planned_other name system demands reply (inr tells) = other reply Refused (ap (λ (s : Reply). s.status) tells.told) (omega arith)

cause_other : (file : List ℕ) (cause : ImageCause) → exit_number (stopped file cause).status ≢ 5
cause_other file CantBeRead = omega arith
cause_other file Oversize = omega arith
cause_other file Json = omega arith
cause_other file (Member name) = omega arith
cause_other file (System fault) = omega arith
cause_other file (Findings found) = omega arith
cause_other file (PoolSmall need have) = omega arith
cause_other file (BadPreload number) = omega arith
cause_other file (BadProgram fault) = omega arith

opens_other : (contents : Contents) (board : List ℕ) (next : Image → Reply → Type 0) (reply : Reply)
    → ((image : Image) → next image reply → IsOther reply) → Opens contents board next reply → IsOther reply
opens_other contents board next reply rest (inl ends) = other reply (stopped ends.file ends.cause).status (ap (λ (s : Reply). s.status) ends.told) (cause_other ends.file ends.cause)
opens_other contents board next reply rest (inr went) = rest went.0 went.3

pub outcome_other : (contents : Contents) (request : Option Request) (reply : Reply) → Outcome contents request reply → reply.status ≢ WriteFault
outcome_other contents None reply h = other reply Usage (ap (λ (s : Reply). s.status) h) (omega arith)
outcome_other contents (Some (CheckOf system cells)) reply h =
    reads_other contents system system_file (ChecksCells contents cells) reply (λ s rest. cells_other contents cells s reply rest) h
outcome_other contents (Some (PackOf name)) reply h =
    reads_other contents name spec_file (λ (spec : Spec) (s : Reply). s ≡ record { status = Good; text = packed spec }) reply (λ spec is. other reply Good (ap (λ (s : Reply). s.status) is) (omega arith)) h
outcome_other contents (Some (PlayOf board schedule)) reply h =
    opens_other contents board (PlaysBy contents schedule) reply
    (λ image reads. reads_other contents schedule (schedule_file image) (IsPlayed image) reply (λ cpus is. played_ends_other image cpus reply is) reads) h
outcome_other contents (Some (RunOf board)) reply h =
    opens_other contents board IsToldRun reply (λ image ran. run_other reply (run_ends image ran.entries reply.status ran.run.ends)) h
outcome_other contents (Some (MapOf board schedule)) reply h =
    opens_other contents board (MapsBy contents schedule) reply
    (λ image reads. reads_other contents schedule (schedule_file image) (IsMapped image) reply (λ cpus is. map_ends_other image cpus reply is) reads) h
outcome_other contents (Some (SoakOf rounds)) reply h = soak_other rounds reply h
outcome_other contents (Some (PlanOf system demands)) reply h =
    reads_other contents system admitted_file (PlansBy contents demands) reply
    (λ s reads. reads_other contents demands demands_file (IsPlanned demands s) reply (λ ds is. planned_other demands s ds reply is) reads) h
outcome_other contents (Some (PinsOf board schedule)) reply h =
    opens_other contents board (PinsBy contents schedule) reply
    (λ image reads. reads_other contents schedule (schedule_file image) (ArePinsTold image) reply (λ cpus is. pins_end_other image cpus reply is) reads) h
outcome_other contents (Some (TablesOf board schedule)) reply h =
    opens_other contents board (TablesBy contents schedule) reply
    (λ image reads. reads_other contents schedule (schedule_file image) (AreTablesTold image) reply (λ cpus is. tables_end_other image cpus reply is) reads) h
outcome_other contents (Some (AuditOf board journal)) reply h =
    opens_other contents board (AuditsBy contents journal) reply
    (λ image reads. reads_other contents journal journal_file (IsAudited image) reply (λ spelled is. audit_ends_other image spelled reply is) reads) h
