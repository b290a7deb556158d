-- The files that a call reads, one after another.
use Rattle.std.proofs.Common.{◌≡◌, ◌≢◌, List, [], ◌∷◌, ◌++◌, ℕ, Bool, true, false, cond, Option, None, Some, Result, refl, sym, ap, subst, ◌∙◌, inl, inr, arith}
use Rattle.std.specs.Prelude.{map, ⊤}
use Rattle.jh_outside.specs.declared.files.Files.{Ghosts}
use Rattle.jh_outside.specs.Ask.{Ask, Handed, kept_name, handed, faulted}
use Rattle.jh_outside.specs.Trail.{Asks, no_ask, one_more_ask, AsksAll, AsksUpTo}
use Rattle.jh_cellcfg.specs.declared.config.CellConfig.{CellConfig}
use Rattle.jh_cellcfg.specs.declared.config.SystemConfig.{SystemConfig}
use Rattle.jh_script.specs.declared.image.Image.{Image}
use Rattle.jh_history.specs.declared.form.Form.TheVariants.{Two}
use Rattle.jh_history.specs.Items.{played}
use Rattle.jh_check.specs.Lists.{is_any, capped}
use Rattle.jh_check.specs.Findings.{findings}
use Rattle.jh_text.specs.Faults.{max_entries}
use Rattle.jh_audit.specs.declared.verdict.Verdict.{Verdict}
use Rattle.jh_audit.specs.declared.verdict.Verdict.TheVariants.{Legal, Illegal}
use Rattle.jh_image.specs.declared.fault.ImageCause.{ImageCause}
use Rattle.jh_image.specs.declared.fault.ImageCause.TheVariants.{ReadFault, Oversize, Json, Member, System, Findings, PoolSmall, Preload as BadPreload, Program as BadProgram}
use Rattle.jh_image.specs.declared.fault.ImageFault.{ImageFault}
use Rattle.jh_image.specs.declared.fault.ImageFault.TheVariants.{Refused, NoMemory}
use Rattle.jh_image.specs.Causes.{OnRefused}
use Rattle.jh_image.specs.Images.{IsImage}
use Rattle.jh_image.specs.Order.{board_files, files_read, last_ask as ask_at, AsksBoard, AsksBoardUntil}
use Rattle.jh_cli.specs.declared.ending.Ending.{Ending}
use Rattle.jh_cli.specs.declared.ending.CallFault.{CallFault}
use Rattle.jh_cli.specs.declared.ending.CallFault.TheVariants as stop
use Rattle.jh_cli.specs.declared.status.Status.{Status}
use Rattle.jh_cli.specs.declared.status.Status.TheVariants as status
use Rattle.jh_image.specs.Files.{Contents}
use Rattle.jh_cli.specs.Reading.{Reply, FileKind, EndsAt}
use Rattle.jh_cli.specs.Boards.{stopped}
use Rattle.jh_cli.specs.Check.{checked}
use Rattle.jh_cli.specs.Play.{schedule_file, IsPlayed, played_status}
use Rattle.jh_cli.specs.Map.{map_reply, IsMapped}
use Rattle.jh_cli.specs.Pins.{pins_reply, ArePinsTold}
use Rattle.jh_cli.specs.Tables.{tables_reply, AreTablesTold}
use Rattle.jh_cli.specs.Audit.{journal_file, verdict_status}
use Rattle.jh_cli.specs.Run.{IsToldRun}
use Rattle.jh_cli.specs.Plan.{IsPlanned}
use Rattle.jh_cli.specs.Lines.{exit_number}
use Rattle.jh_plan.specs.declared.demand.Demand.{Demand}
use Rattle.jh_cli.specs.Private.Endings.{OnEnded, OnEnding}
use Rattle.jh_cli.specs.Words.{Request, CheckOf, PackOf, PlayOf, RunOf, MapOf, AuditOf, SoakOf, PlanOf, PinsOf, TablesOf}
use Rattle.jh_cli.specs.Order.{IsNoFileStatus, last_ask, AsksTo, AsksFile, AsksCells, AsksWhole, AsksCheck, AsksPlan, AsksToCause, AsksBoardAnd, AsksFor}
use Rattle.jh_cli.proofs.StopLemmas.{on_ended, both_ended, on_ending}
use Rattle.jh_cli.proofs.StatusLemmas.{run_ends}
use Rattle.jh_cli.proofs.BoardLemmas.{nothing}

-- ---- calls that end at no file

played_is_none : (full : Bool) → IsNoFileStatus (played_status full)
played_is_none true = tt
played_is_none false = tt

pub played_at_none : (image : Image) (cpus : List ℕ) (reply : Reply) → IsPlayed image cpus reply → IsNoFileStatus reply.status
played_at_none image cpus reply is =
    subst IsNoFileStatus (sym (ap (λ (s : Reply). s.status) is.told)) (played_is_none (played image Two max_entries cpus).full)

mapped_is_none : (found : Option (List ℕ)) → IsNoFileStatus (map_reply found).status
mapped_is_none (Some text) = tt
mapped_is_none None = tt

pub mapped_at_none : (image : Image) (cpus : List ℕ) (reply : Reply) → IsMapped image cpus reply → IsNoFileStatus reply.status
mapped_at_none image cpus reply (found, is, told) = subst IsNoFileStatus (sym (ap (λ (s : Reply). s.status) told)) (mapped_is_none found)

pins_are_none : (found : Option (List ℕ)) → IsNoFileStatus (pins_reply found).status
pins_are_none (Some text) = tt
pins_are_none None = tt

pub pins_at_none : (image : Image) (cpus : List ℕ) (reply : Reply) → ArePinsTold image cpus reply → IsNoFileStatus reply.status
pins_at_none image cpus reply (found, is, told) = subst IsNoFileStatus (sym (ap (λ (s : Reply). s.status) told)) (pins_are_none found)

tables_are_none : (found : Option (List ℕ)) → IsNoFileStatus (tables_reply found).status
tables_are_none (Some text) = tt
tables_are_none None = tt

pub tables_at_none : (image : Image) (cpus : List ℕ) (reply : Reply) → AreTablesTold image cpus reply → IsNoFileStatus reply.status
tables_at_none image cpus reply (found, is, told) = subst IsNoFileStatus (sym (ap (λ (s : Reply). s.status) told)) (tables_are_none found)

checked_is_none : (any : Bool) → IsNoFileStatus (cond any status.Found status.Good)
checked_is_none true = tt
checked_is_none false = tt

pub checked_at_none : (system : SystemConfig) (cells : List CellConfig) (reply : Reply) → reply ≡ checked system cells → IsNoFileStatus reply.status
checked_at_none system cells reply told = subst IsNoFileStatus (sym (ap (λ (s : Reply). s.status) told)) (checked_is_none (is_any (capped (findings system cells))))

audited_is_none : (verdict : Verdict) → IsNoFileStatus (verdict_status verdict)
audited_is_none (Legal count quiet) = tt
audited_is_none (Illegal line expected) = tt

pub audited_at_none : (reply : Reply) (verdict : Verdict) → reply.status ≡ verdict_status verdict → IsNoFileStatus reply.status
audited_at_none reply verdict told = subst IsNoFileStatus (sym told) (audited_is_none verdict)

pub ran_at_none : (image : Image) (reply : Reply) → IsToldRun image reply → IsNoFileStatus reply.status
ran_at_none image reply ran = elim (run_ends image ran.entries reply.status ran.run.ends) [
  | inl is ↦ subst IsNoFileStatus (sym is) tt
  | inr is ↦ subst IsNoFileStatus (sym is) tt
]

-- the last read of such a call handed out bytes
none_is_handed : (s : Status) (name : List ℕ) → IsNoFileStatus s → handed name ≡ last_ask s name
none_is_handed status.ReadFault name none = absurd none
none_is_handed _ name none = refl

-- so did that of one which ends with any other status than that a file can't be read
other_is_handed : (s : Status) (name : List ℕ) → s ≢ status.ReadFault → handed name ≡ last_ask s name
other_is_handed status.ReadFault name other = absurd (other refl)
other_is_handed _ name other = refl

-- a plan, or the first demand that isn't met, is no file that can't be read
pub planned_was_read : (name : List ℕ) (system : SystemConfig) (demands : List Demand) (reply : Reply) → IsPlanned name system demands reply → reply.status ≢ status.ReadFault
planned_was_read name system demands reply (inl tells) is =
    let e : exit_number status.Good ≡ exit_number status.ReadFault = ap exit_number (sym (ap (λ (s : Reply). s.status) tells.told) ∙ is) in omega arith
planned_was_read name system demands reply (inr tells) is =
    let e : exit_number status.Refused ≡ exit_number status.ReadFault = ap exit_number (sym (ap (λ (s : Reply). s.status) tells.told) ∙ is) in omega arith

module _ {S : Type 0} (files : Ghosts S) where
  -- ---- one file

  -- the file is the last that is read, and was
  pub read_last : (name : List ℕ) (s t : S) (reply : Reply) → AsksAll files (name ∷ []) s t → reply.status ≢ status.ReadFault → AsksTo files s t [] name reply
  read_last name s t reply asked other = subst (λ ask. Asks files s (ask ∷ []) t) (other_is_handed reply.status name other) asked

  -- where the call ends at a file, the read of that file is the last
  pub stops_one : (name text : List ℕ) (s t : S) (stop : CallFault) → Asks files s (faulted name ∷ []) t → OnEnded stop (λ reply. reply ≡ record { status = status.ReadFault; text = text }) → OnEnded stop (AsksTo files s t [] name)
  stops_one name text s t stop asked h =
      on_ended (λ reply. reply ≡ record { status = status.ReadFault; text = text }) (AsksTo files s t [] name) stop (λ reply is. subst (AsksTo files s t [] name) (sym is) asked) h

  pub refuses_one : (name text : List ℕ) (s t : S) (stop : CallFault) → AsksAll files (name ∷ []) s t → OnEnded stop (λ reply. reply ≡ record { status = status.Refused; text = text }) → OnEnded stop (AsksTo files s t [] name)
  refuses_one name text s t stop asked h =
      on_ended (λ reply. reply ≡ record { status = status.Refused; text = text }) (AsksTo files s t [] name) stop (λ reply is. subst (AsksTo files s t [] name) (sym is) asked) h

  module _ {A : Type 0} (contents : Contents) (name : List ℕ) (kind : FileKind A) (s t : S) where
    -- the call ends at the file
    pub file_ends : (stop : CallFault) → OnEnded stop (EndsAt kind.most contents name kind.Refusal) → OnEnded stop (AsksTo files s t [] name) → OnEnded stop (AsksFile files s t contents name kind)
    file_ends stop ends asked =
        both_ended (EndsAt kind.most contents name kind.Refusal) (AsksTo files s t [] name) (AsksFile files s t contents name kind) stop (λ reply at last. (last, inl at)) ends asked

    -- or at none
    pub file_read : (reply : Reply) → AsksAll files (name ∷ []) s t → IsNoFileStatus reply.status → AsksFile files s t contents name kind reply
    file_read reply asked none = (subst (λ ask. Asks files s (ask ∷ []) t) (none_is_handed reply.status name none) asked, inr none)

  -- ---- a board

  module _ (contents : Contents) (board : List ℕ) where
    -- the call ends at one of a board's files
    pub stops_in_board : (s t : S) (fault : ImageFault) → OnRefused (λ file cause. AsksBoardUntil files contents board file cause s t) fault
        → (r : CallFault) → OnRefused (λ file cause. OnEnded r (λ reply. reply ≡ stopped file cause)) fault → (fault ≡ NoMemory → r ≡ stop.NoMemory) → OnEnded r (AsksToCause files s t contents board)
    stops_in_board s t (Refused file cause) until r told memory =
        on_ended (λ reply. reply ≡ stopped file cause) (AsksToCause files s t contents board) r (λ reply is. record { file = file; cause = cause; until = until; told = is }) told
    stops_in_board s t NoMemory until r told memory = nothing (AsksToCause files s t contents board) r (memory refl)

    pub board_ends : (Rest : Image → S → Reply → Type 0) (s t : S) (r : CallFault) → OnEnded r (AsksToCause files s t contents board) → OnEnded r (AsksBoardAnd files s t contents board Rest)
    board_ends Rest s t r h = on_ended (AsksToCause files s t contents board) (AsksBoardAnd files s t contents board Rest) r (λ reply stops. inl stops) h

    -- the call goes on behind a board's files
    pub board_behind : (Rest : Image → S → Reply → Type 0) (image : Image) (s t u : S) → IsImage contents board image → AsksBoard files contents board s t
        → (r : Result Ending CallFault) → OnEnding r (Rest image t) → OnEnding r (AsksBoardAnd files s u contents board Rest)
    board_behind Rest image s t u is opened r h =
        on_ending (Rest image t) (AsksBoardAnd files s u contents board Rest) r (λ reply rest. inr (record { image = image; is = is; behind = t; asked = opened; rest = rest })) h

-- ---- reads that all handed out bytes

abbrev AreHanded : List Ask → Type 0
AreHanded [] = ⊤
AreHanded (ask ∷ asks) = (ask.answer ≡ Handed) × AreHanded asks

are_handed : (names : List (List ℕ)) → AreHanded (map handed names)
are_handed [] = tt
are_handed (name ∷ names) = (refl, are_handed names)

are_handed_up_to : (names : List (List ℕ)) (last : Ask) → last.answer ≡ Handed → AreHanded (map handed names ++ last ∷ [])
are_handed_up_to [] last is = (is, tt)
are_handed_up_to (name ∷ names) last is = (refl, are_handed_up_to names last is)

is_handed : (s : Status) (name : List ℕ) → s ≢ status.ReadFault → (last_ask s name).answer ≡ Handed
is_handed status.ReadFault name other = absurd (other refl)
is_handed _ name other = refl

cause_is_handed : (file : List ℕ) (cause : ImageCause) (name : List ℕ) → (stopped file cause).status ≢ status.ReadFault → (ask_at cause name).answer ≡ Handed
cause_is_handed file ReadFault name other = absurd (other refl)
cause_is_handed file Oversize name other = refl
cause_is_handed file Json name other = refl
cause_is_handed file (Member member) name other = refl
cause_is_handed file (System fault) name other = refl
cause_is_handed file (Findings found) name other = refl
cause_is_handed file (PoolSmall need have) name other = refl
cause_is_handed file (BadPreload number) name other = refl
cause_is_handed file (BadProgram fault) name other = refl

module _ {S : Type 0} (files : Ghosts S) where
  keep : (s t : S) (asks : List Ask) → Asks files s asks t → AreHanded asks → files.failed t ≡ files.failed s
  keep s t asks (no_ask u) are = refl
  keep s t asks (one_more_ask u v w ask more is named rest) are = keep v w more rest are.1 ∙ named ∙ ap (kept_name (files.failed u) ask.name) are.0

  all_keep : (names : List (List ℕ)) (s t : S) → AsksAll files names s t → files.failed t ≡ files.failed s
  all_keep names s t all = keep s t (map handed names) all (are_handed names)

  up_to_keeps : (names : List (List ℕ)) (last : Ask) (s t : S) → last.answer ≡ Handed → AsksUpTo files names last s t → files.failed t ≡ files.failed s
  up_to_keeps names last s t is asked = keep s t (map handed names ++ last ∷ []) asked (are_handed_up_to names last is)

  -- where it isn't told that a file can't be read, the name of the read that failed is what it was

  to_keeps : (before : List (List ℕ)) (name : List ℕ) (s t : S) (reply : Reply) → reply.status ≢ status.ReadFault → AsksTo files s t before name reply → files.failed t ≡ files.failed s
  to_keeps before name s t reply read asked = up_to_keeps before (last_ask reply.status name) s t (is_handed reply.status name read) asked

  cells_keep : (contents : Contents) (names : List (List ℕ)) (s t : S) (reply : Reply) → reply.status ≢ status.ReadFault → AsksCells files s t contents names reply → files.failed t ≡ files.failed s
  cells_keep contents names s t reply read (inl stops) = to_keeps stops.ends.before stops.ends.name s t reply read stops.asked
  cells_keep contents names s t reply read (inr whole) = all_keep names s t whole.0

  check_keeps : (contents : Contents) (system : List ℕ) (cells : List (List ℕ)) (s t : S) (reply : Reply) → reply.status ≢ status.ReadFault → AsksCheck files s t contents system cells reply → files.failed t ≡ files.failed s
  check_keeps contents system cells s t reply read (inl stops) = to_keeps [] system s t reply read stops.1
  check_keeps contents system cells s t reply read (inr on) = cells_keep contents cells on.behind t reply read on.rest ∙ all_keep (system ∷ []) s on.behind on.asked

  plan_keeps : (contents : Contents) (system demands : List ℕ) (s t : S) (reply : Reply) → reply.status ≢ status.ReadFault → AsksPlan files s t contents system demands reply → files.failed t ≡ files.failed s
  plan_keeps contents system demands s t reply read (inl stops) = to_keeps [] system s t reply read stops.1
  plan_keeps contents system demands s t reply read (inr on) = to_keeps [] demands on.behind t reply read on.rest ∙ all_keep (system ∷ []) s on.behind on.asked

  cause_keeps : (contents : Contents) (board : List ℕ) (s t : S) (reply : Reply) → reply.status ≢ status.ReadFault → AsksToCause files s t contents board reply → files.failed t ≡ files.failed s
  cause_keeps contents board s t reply read at =
      let other : (stopped at.file at.cause).status ≢ status.ReadFault = λ is. read (ap (λ (s : Reply). s.status) at.told ∙ is) in
      up_to_keeps (files_read board at.until.stops.stage) (ask_at at.cause at.until.name) s t (cause_is_handed at.file at.cause at.until.name other) at.until.asked

  board_keeps : (contents : Contents) (board : List ℕ) (Rest : Image → S → Reply → Type 0) (s t : S) (reply : Reply) → reply.status ≢ status.ReadFault
      → ((image : Image) (behind : S) → Rest image behind reply → files.failed t ≡ files.failed behind) → AsksBoardAnd files s t contents board Rest reply → files.failed t ≡ files.failed s
  board_keeps contents board Rest s t reply read rest (inl stops) = cause_keeps contents board s t reply read stops
  board_keeps contents board Rest s t reply read rest (inr on) = rest on.image on.behind on.rest ∙ all_keep (board_files board on.asked.listing) s on.behind on.asked.all

  pub call_keeps : (contents : Contents) (request : Option Request) (s t : S) (reply : Reply) → AsksFor files s t contents request reply → reply.status ≢ status.ReadFault → files.failed t ≡ files.failed s
  call_keeps contents None s t reply reads read = keep s t [] reads tt
  call_keeps contents (Some (CheckOf system cells)) s t reply reads read = check_keeps contents system cells s t reply read reads
  call_keeps contents (Some (PackOf spec)) s t reply reads read = to_keeps [] spec s t reply read reads.0
  call_keeps contents (Some (PlayOf board schedule)) s t reply reads read =
      board_keeps contents board (λ image behind. AsksFile files behind t contents schedule (schedule_file image)) s t reply read (λ image behind rest. to_keeps [] schedule behind t reply read rest.0) reads
  call_keeps contents (Some (RunOf board)) s t reply reads read =
      board_keeps contents board (λ image behind. AsksWhole files behind t []) s t reply read (λ image behind rest. all_keep [] behind t rest.0) reads
  call_keeps contents (Some (MapOf board schedule)) s t reply reads read =
      board_keeps contents board (λ image behind. AsksFile files behind t contents schedule (schedule_file image)) s t reply read (λ image behind rest. to_keeps [] schedule behind t reply read rest.0) reads
  call_keeps contents (Some (SoakOf rounds)) s t reply reads read = keep s t [] reads tt
  call_keeps contents (Some (PlanOf system demands)) s t reply reads read = plan_keeps contents system demands s t reply read reads
  call_keeps contents (Some (PinsOf board schedule)) s t reply reads read =
      board_keeps contents board (λ image behind. AsksFile files behind t contents schedule (schedule_file image)) s t reply read (λ image behind rest. to_keeps [] schedule behind t reply read rest.0) reads
  call_keeps contents (Some (TablesOf board schedule)) s t reply reads read =
      board_keeps contents board (λ image behind. AsksFile files behind t contents schedule (schedule_file image)) s t reply read (λ image behind rest. to_keeps [] schedule behind t reply read rest.0) reads
  call_keeps contents (Some (AuditOf board journal)) s t reply reads read =
      board_keeps contents board (λ image behind. AsksFile files behind t contents journal journal_file) s t reply read (λ image behind rest. to_keeps [] journal behind t reply read rest.0) reads
