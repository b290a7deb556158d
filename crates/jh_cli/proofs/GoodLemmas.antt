-- Good words and files are answered.
use Rattle.std.proofs.Common.{◌≡◌, ◌≢◌, ℕ, ◌<◌, ◌≤◌, Bool, true, false, cond, ◌&&◌, List, [], ◌∷◌, ◌++◌, length, take, Option, None, Some, ◌⊎◌, inl, inr, refl, sym, ◌∙◌, ap, subst, arith}
use Rattle.std.specs.Prelude.{map, nat_lt}
use Rattle.std.proofs.lemmas.List.{take_all}
use Rattle.std.proofs.lemmas.Bool.{cases_Bool}
use Rattle.jh_num.proofs.Public.{ok_err, ok_one}
use Rattle.jh_outside.specs.Count.{Rose}
use Rattle.jh_outside.specs.Reads.{KnownFile, HandsOut}
use Rattle.jh_outside.specs.Writes.{Appended}
use Rattle.jh_cellcfg.specs.declared.config.CellConfig.{CellConfig}
use Rattle.jh_cellcfg.specs.declared.config.SystemConfig.{SystemConfig}
use Rattle.jh_cellcfg.specs.Faults.{first_fault}
use Rattle.jh_cellcfg.specs.Limits.{IsWithinLimits}
use Rattle.jh_cellcfg.specs.Spelling.{spelling}
use Rattle.jh_cellcfg.specs.Typed.{IsCell}
use Rattle.jh_syscfg.specs.SystemFaults.{system_fault}
use Rattle.jh_check.specs.Lists.{is_any, capped}
use Rattle.jh_check.specs.Findings.{findings}
use Rattle.jh_spec.specs.declared.spec.Spec.{Spec}
use Rattle.jh_spec.specs.declared.fault.JsonFault.TheVariants as specs
use Rattle.jh_spec.specs.Specs.{spec_told}
use Rattle.jh_script.specs.declared.image.Image.{Image}
use Rattle.jh_script.specs.Numbers.{decimal_of}
use Rattle.jh_script.specs.Programs.{unless}
use Rattle.jh_script.specs.Schedules.{has_cpu, cpu_of, items_of, first_refusal, cpus_of, schedule_of}
use Rattle.jh_script.specs.Words.{words, schedule_gaps}
use Rattle.jh_history.specs.declared.form.Form.TheVariants.{Two}
use Rattle.jh_history.specs.Items.{items, played}
use Rattle.jh_text.specs.declared.fault.JournalFault.{JournalFault}
use Rattle.jh_text.specs.declared.fault.JournalFault.TheVariants as journals
use Rattle.jh_text.specs.Faults.{IsFault, max_entries}
use Rattle.jh_text.proofs.Public.{NoBadLine, NotLong}
use Rattle.jh_audit.specs.declared.verdict.Verdict.{Verdict}
use Rattle.jh_audit.specs.declared.verdict.Verdict.TheVariants.{Legal, Illegal}
use Rattle.jh_image.specs.declared.fault.ImageCause.{ImageCause}
use Rattle.jh_image.specs.declared.fault.ImageCause.TheVariants.{ReadFault as CantBeRead, Oversize, Json, Member, System, Findings, PoolSmall, Preload as BadPreload, Program as BadProgram}
use Rattle.jh_image.specs.Causes.{IsCauseOf}
use Rattle.jh_image.specs.Images.{IsImage}
use Rattle.jh_image.specs.Laws.{AreKnown}
use Rattle.jh_image.proofs.Public.{OneSpelling, SpellingsAreFaultless}
use Rattle.jh_pins.specs.After.{IsPinsAnswer}
use Rattle.jh_run.specs.Maps.{IsMapsAnswer}
use Rattle.jh_run.specs.Tables.{IsTablesAnswer}
use Rattle.jh_history.specs.Admitted.{IsAdmittedSystem}
use Rattle.jh_plan.specs.declared.demand.Demand.{Demand}
use Rattle.jh_plan.specs.Demands.{demands_of}
use Rattle.jh_plan.proofs.Public.{no_fault}
use Rattle.jh_run.specs.Soak.{soak_image}
use Rattle.jh_cli.specs.declared.status.Status.{Status}
use Rattle.jh_cli.specs.declared.status.Status.TheVariants.{Good, Found, ReadFault, WriteFault, NoMemory, Full}
use Rattle.jh_cli.specs.Limits.{asked_of_a_file, asked_of_a_journal}
use Rattle.jh_cli.specs.Lines.{exit_number, fault_line}
use Rattle.jh_cli.specs.Words.{Request, CheckOf, PackOf, PlayOf, RunOf, MapOf, AuditOf, SoakOf, PlanOf, PinsOf, TablesOf}
use Rattle.jh_image.specs.Files.{Contents}
use Rattle.jh_cli.specs.Reading.{Reply, FileKind, EndsAt, Reads, IsCountedFault}
use Rattle.jh_cli.specs.Check.{IsCellFile, CellRefusal, IsSystemFile, SystemRefusal, system_file, EndsAmong, ChecksCells, Checks, checked_status}
use Rattle.jh_cli.specs.Pack.{IsSpecFile, SpecRefusal, spec_file, Packs, packed}
use Rattle.jh_cli.specs.Boards.{stopped, EndsAtBoard}
use Rattle.jh_cli.specs.Play.{AreCpus, IsScheduleFile, ScheduleRefusal, schedule_file, IsPlayed, played_status, PlaysBy, Plays}
use Rattle.jh_cli.specs.Run.{Runs}
use Rattle.jh_cli.specs.Map.{map_reply, IsMapped, MapsBy, Maps}
use Rattle.jh_cli.specs.Pins.{pins_reply, ArePinsTold, PinsBy, Pins}
use Rattle.jh_cli.specs.Tables.{tables_reply, AreTablesTold, TablesBy, Tables}
use Rattle.jh_cli.specs.Soak.{AreRounds, Soaks}
use Rattle.jh_cli.specs.Plan.{admitted_file, demands_file, AdmittedRefusal, AreDemands, DemandsRefusal, IsAdmittedSystemFile, IsPlanned, IsUnadmitted, Plans, PlansBy}
use Rattle.jh_cli.specs.Audit.{SpelledJournal, IsJournalFile, JournalRefusal, journal_file, IsAudited, AuditsBy, Audits, verdict_status}
use Rattle.jh_cli.specs.Outcome.{Outcome, Sent}
use Rattle.jh_cli.specs.Complete.{IsKnownBoard, FileHolds, HoldCells, AreGoodToCheck, IsGoodToPack, AreGoodToPlay, AreGoodToRun, AreGoodToAudit, AreGoodToPlan, AreGood, MayEndWith}
use Rattle.jh_cli.proofs.StatusLemmas.{run_ends}
use Rattle.jh_cli.proofs.KnownLemmas.{all_told, each_is_told, is_image, stops}

-- ---- the laws of the layers below

abbrev pub CellsAreFaultless : Type 0
CellsAreFaultless = (config : CellConfig) → IsCell config → IsWithinLimits config → first_fault (spelling config) ≡ None

abbrev pub OneImage : Type 0
OneImage = (contents : Contents) (board : List ℕ) (one other : Image) → AreKnown contents → IsImage contents board one → IsImage contents board other → one ≡ other

abbrev pub BoardsAreUnrefused : Type 0
BoardsAreUnrefused = (contents : Contents) (board file : List ℕ) (image : Image) (cause : ImageCause) → AreKnown contents → IsImage contents board image → IsCauseOf contents board file cause → cause ≡ CantBeRead

-- ---- one file

-- what a file with these bytes hands out, where more are asked, is all of them
handed_held : (told : KnownFile) (most : ℕ) (bytes handed : List ℕ) → told ≡ Some (Some bytes) → length bytes < most → HandsOut told most handed → handed ≡ bytes
handed_held told most bytes handed is within h =
    let hands : handed ≡ take most bytes = subst (λ (t : KnownFile). HandsOut t most handed) is h in
    hands ∙ take_all most bytes (omega arith)

-- what spells a value isn't refused
abbrev pub IsSound : {A : Type 0} → (List ℕ → List ℕ → Type 0) → (List ℕ → A → Type 0) → A → Type 0
IsSound Why Form value = (bytes words : List ℕ) → Form bytes value → Why bytes words → ⊥

-- what spells a value is less than is asked of its file
abbrev IsWithin : {A : Type 0} → (List ℕ → A → Type 0) → ℕ → A → Type 0
IsWithin Form most value = (bytes : List ℕ) → Form bytes value → length bytes < most

-- it is answered so, or could not be read
abbrev pub IsAnswered : (Status → Type 0) → Reply → Type 0
IsAnswered Answer reply = Answer reply.status ⊎ (reply.status ≡ ReadFault)

-- the answer is that something is found, or nothing
abbrev IsVerdict : Status → Type 0
IsVerdict status = (status ≡ Good) ⊎ (status ≡ Found)

of_verdict : (reply : Reply) (status : Status) → reply.status ≡ status → IsVerdict status → IsAnswered IsVerdict reply
of_verdict reply status is one = inl (subst IsVerdict (sym is) one)

stops_unrefused : {A : Type 0} (Answer : Status → Type 0) (most : ℕ) (contents : Contents) (name : List ℕ) (Why : List ℕ → List ℕ → Type 0) (Form : List ℕ → A → Type 0) (value : A) (reply : Reply)
    → IsSound Why Form value → IsWithin Form most value → FileHolds contents name Form value → EndsAt most contents name Why reply → IsAnswered Answer reply
stops_unrefused Answer most contents name Why Form value reply sound within held (inl fault) = inr (ap (λ (s : Reply). s.status) fault)
stops_unrefused Answer most contents name Why Form value reply sound within held (inr is) =
    let same : is.bytes ≡ held.bytes = handed_held (contents name) most held.bytes is.bytes held.holds (within held.bytes held.spelled) is.handed in
    absurd (sound held.bytes is.words held.spelled (subst (λ bytes. Why bytes is.words) same is.why))

-- what follows a file that holds a value is what was read of it
reads_unrefused : {A : Type 0} (Answer : Status → Type 0) (contents : Contents) (name : List ℕ) (kind : FileKind A) (next : A → Reply → Type 0) (value : A) (reply : Reply)
    → IsSound kind.Refusal kind.Form value → IsWithin kind.Form kind.most value → FileHolds contents name kind.Form value
    → ((bytes : List ℕ) (other : A) → kind.Form bytes value → kind.Form bytes other → next other reply → IsAnswered Answer reply)
    → Reads contents name kind next reply → IsAnswered Answer reply
reads_unrefused Answer contents name kind next value reply sound within held rest (inl stops) = stops_unrefused Answer kind.most contents name kind.Refusal kind.Form value reply sound within held stops
reads_unrefused Answer contents name kind next value reply sound within held rest (inr (other, spells, went)) =
    let same : spells.bytes ≡ held.bytes = handed_held (contents name) kind.most held.bytes spells.bytes held.holds (within held.bytes held.spelled) spells.handed in
    rest held.bytes other held.spelled (subst (λ bytes. kind.Form bytes other) same spells.spelled) went

pub no_more : (most : ℕ) (bytes : List ℕ) → length bytes < most → most ≤ length bytes → ⊥
no_more most bytes few many = omega arith

pub some_none : {A : Type 0} (o : Option A) (x : A) → o ≡ None → o ≡ Some x → ⊥
some_none o x h k = cc

-- ---- check

pub system_sound : SpellingsAreFaultless → (system : SystemConfig) → IsSound SystemRefusal IsSystemFile system
system_sound faultless system bytes words form (inl over) = no_more asked_of_a_file bytes form.within over.0
system_sound faultless system bytes words form (inr bad) =
    some_none (system_fault bytes) bad.fault (ap system_fault form.is.spelled ∙ faultless system form.is.typed form.is.limits) bad.first

pub cell_sound : CellsAreFaultless → (cell : CellConfig) → IsSound CellRefusal IsCellFile cell
cell_sound faultless cell bytes words form (inl over) = no_more asked_of_a_file bytes form.within over.0
cell_sound faultless cell bytes words form (inr bad) =
    some_none (first_fault bytes) bad.fault (ap first_fault form.spelled ∙ faultless cell form.typed form.limits) bad.first

-- each of the files holds a cell
one_of_cells : (contents : Contents) (before : List (List ℕ)) (name : List ℕ) (rest : List (List ℕ)) (cells : List CellConfig)
    → HoldCells contents (before ++ name ∷ rest) cells → (cell : CellConfig) × FileHolds contents name IsCellFile cell
one_of_cells contents [] name rest [] held = absurd held
one_of_cells contents [] name rest (cell ∷ cells) held = (cell, held.0)
one_of_cells contents (b ∷ before) name rest [] held = absurd held
one_of_cells contents (b ∷ before) name rest (cell ∷ cells) held = one_of_cells contents before name rest cells held.1

among_unrefused : CellsAreFaultless → (contents : Contents) (names : List (List ℕ)) (cells : List CellConfig) (reply : Reply) → HoldCells contents names cells → EndsAmong contents names reply → IsAnswered IsVerdict reply
among_unrefused faultless contents names cells reply held among =
    let split : HoldCells contents (among.before ++ among.name ∷ among.rest) cells = subst (λ (ns : List (List ℕ)). HoldCells contents ns cells) among.split held in
    let one = one_of_cells contents among.before among.name among.rest cells split in
    stops_unrefused IsVerdict asked_of_a_file contents among.name CellRefusal IsCellFile one.0 reply (cell_sound faultless one.0) (λ bytes form. form.within) one.1 among.stops

checked_unrefused : (any : Bool) → IsVerdict (cond any Found Good)
checked_unrefused true = inr refl
checked_unrefused false = inl refl

cells_unrefused : CellsAreFaultless → (contents : Contents) (names : List (List ℕ)) (cells : List CellConfig) (system : SystemConfig) (reply : Reply) → HoldCells contents names cells → ChecksCells contents names system reply → IsAnswered IsVerdict reply
cells_unrefused faultless contents names cells system reply held (inl among) = among_unrefused faultless contents names cells reply held among
cells_unrefused faultless contents names cells system reply held (inr all) =
    of_verdict reply (checked_status (capped (findings system all.0))) (ap (λ (s : Reply). s.status) all.2) (checked_unrefused (is_any (capped (findings system all.0))))

check_unrefused : CellsAreFaultless → SpellingsAreFaultless → (contents : Contents) (system : List ℕ) (cells : List (List ℕ)) (reply : Reply) → AreGoodToCheck contents system cells → Checks contents system cells reply → IsAnswered IsVerdict reply
check_unrefused cells_faultless systems_faultless contents system cells reply good h =
    reads_unrefused IsVerdict contents system system_file (ChecksCells contents cells) good.of_system reply (system_sound systems_faultless good.of_system) (λ bytes form. form.within) good.system_held
    (λ bytes other form form_other went. cells_unrefused cells_faultless contents cells good.of_cells other reply good.cells_held went) h

-- ---- pack

pub spec_sound : (spec : Spec) → IsSound SpecRefusal IsSpecFile spec
spec_sound spec bytes words form (inl over) = no_more asked_of_a_file bytes form.0 over.0
spec_sound spec bytes words form (inr (inl bad)) =
    let told = form.1 in
    ok_err (spec_told told.0) spec specs.Json told.2 (bad.1 told.0 told.1)
spec_sound spec bytes words form (inr (inr bad)) =
    let told = form.1 in
    let faulty = bad.faulty in
    let read : Some faulty.0 ≡ Some told.0 = sym faulty.1.value ∙ told.1.value in
    let same : faulty.0 ≡ told.0 = cc read in
    ok_err (spec_told told.0) spec (specs.Member bad.name) told.2 (ap spec_told (sym same) ∙ faulty.2)

pack_unrefused : (contents : Contents) (name : List ℕ) (reply : Reply) → IsGoodToPack contents name → Packs contents name reply → IsAnswered (λ status. status ≡ Good) reply
pack_unrefused contents name reply good h =
    reads_unrefused (λ status. status ≡ Good) contents name spec_file (λ (spec : Spec) (s : Reply). s ≡ record { status = Good; text = packed spec }) good.spec reply (spec_sound good.spec) (λ bytes form. form.0) good.spells
    (λ bytes other form form_other went. inl (ap (λ (s : Reply). s.status) went)) h

-- ---- boards

pub board_unrefused : BoardsAreUnrefused → (Answer : Status → Type 0) (contents : Contents) (board : List ℕ) (image : Image) (reply : Reply) → IsKnownBoard contents board → IsImage contents board image → EndsAtBoard contents board reply → IsAnswered Answer reply
board_unrefused unrefused Answer contents board image reply told is ends =
    let cause : ends.cause ≡ CantBeRead =
    unrefused (all_told contents) board ends.file image ends.cause (each_is_told contents) (is_image contents board told image is) (stops contents board told ends.file ends.cause ends.stops) in
    inr (ap (λ (s : Reply). s.status) ends.told ∙ ap (λ (c : ImageCause). (stopped ends.file c).status) cause)

-- ---- play

-- a number is a CPU of both or of neither
same_if : (n : ℕ) (one other : Bool) → (n < 16 → one ≡ other) → cond (nat_lt n 16 && one) (Some n) None ≡ cond (nat_lt n 16 && other) (Some n) None
same_if n one other h = elim (cases_Bool (nat_lt n 16)) [
  | inl is ↦ ap (λ (b : Bool). cond (nat_lt n 16 && b) (Some n) None) (h (grind arith))
  | inr not ↦ rw not refl
]

same_cpu : (one other : ℕ) → ((n : ℕ) → n < 16 → has_cpu one n ≡ has_cpu other n) → (o : Option ℕ) → cpu_of one o ≡ cpu_of other o
same_cpu one other same None = refl
same_cpu one other same (Some n) = same_if n (has_cpu one n) (has_cpu other n) (same n)

same_items : (one other : ℕ) → ((n : ℕ) → n < 16 → has_cpu one n ≡ has_cpu other n) → (text : List ℕ) → items_of one text ≡ items_of other text
unfolding items_of
same_items one other same text = λ i. map (λ word. same_cpu one other same (decimal_of word) i) (words schedule_gaps text)

-- a schedule depends on the board's CPUs alone
same_schedule : (one other : ℕ) → ((n : ℕ) → n < 16 → has_cpu one n ≡ has_cpu other n) → (text : List ℕ) → schedule_of one text ≡ schedule_of other text
unfolding schedule_of
same_schedule one other same text = ap (λ (items : List (Option ℕ)). unless (first_refusal 0 items) (cpus_of items)) (same_items one other same text)

pub same_for_image : (image : Image) (one other : ℕ) (text : List ℕ) → AreCpus image one → AreCpus image other → schedule_of one text ≡ schedule_of other text
same_for_image image one other text h k = same_schedule one other (λ n lt. h n lt ∙ sym (k n lt)) text

pub schedule_sound : (image : Image) (items : List ℕ) → IsSound (ScheduleRefusal image) (IsScheduleFile image) items
schedule_sound image items bytes words form (inl over) = no_more asked_of_a_file bytes form.within over.0
schedule_sound image items bytes words form (inr bad) =
    ok_err (schedule_of form.cpus bytes) items bad.fault form.spelled (same_for_image image form.cpus bad.cpus bytes form.are bad.are ∙ bad.first)

pub one_schedule : (image : Image) (bytes one other : List ℕ) → IsScheduleFile image bytes one → IsScheduleFile image bytes other → one ≡ other
one_schedule image bytes one other h k = ok_one (schedule_of h.cpus bytes) one other h.spelled (same_for_image image h.cpus k.cpus bytes h.are k.are ∙ k.spelled)

-- what a play of the items ends with
abbrev IsPlayOf : Image → List ℕ → Status → Type 0
IsPlayOf image items status = status ≡ played_status (played image Two max_entries items).full

played_unrefused : (image : Image) (items other : List ℕ) (reply : Reply) → items ≡ other → IsPlayed image other reply → IsAnswered (IsPlayOf image items) reply
played_unrefused image items other reply same is =
    inl (ap (λ (s : Reply). s.status) is.told ∙ ap (λ (xs : List ℕ). played_status (played image Two max_entries xs).full) (sym same))

plays_unrefused : (contents : Contents) (schedule : List ℕ) (image : Image) (items : List ℕ) (reply : Reply) → FileHolds contents schedule (IsScheduleFile image) items
    → PlaysBy contents schedule image reply → IsAnswered (IsPlayOf image items) reply
plays_unrefused contents schedule image items reply held h =
    reads_unrefused (IsPlayOf image items) contents schedule (schedule_file image) (IsPlayed image) items reply (schedule_sound image items) (λ bytes form. form.within) held
    (λ bytes other form form_other is. played_unrefused image items other reply (one_schedule image bytes items other form form_other) is) h

play_unrefused : OneImage → BoardsAreUnrefused → (contents : Contents) (board schedule : List ℕ) (reply : Reply) (good : AreGoodToPlay contents board schedule) → Plays contents board schedule reply
    → IsAnswered (IsPlayOf good.image good.items) reply
play_unrefused one_image unrefused contents board schedule reply good (inl ends) = board_unrefused unrefused (IsPlayOf good.image good.items) contents board good.image reply good.known good.is ends
play_unrefused one_image unrefused contents board schedule reply good (inr (image, is, admitted, plays)) =
    let same : image ≡ good.image =
    one_image (all_told contents) board image good.image (each_is_told contents) (is_image contents board good.known image is) (is_image contents board good.known good.image good.is) in
    plays_unrefused contents schedule good.image good.items reply good.spells (subst (λ (i : Image). PlaysBy contents schedule i reply) same plays)

-- ---- audit

pub journal_sound : NoBadLine → NotLong → (journal : SpelledJournal) → IsSound JournalRefusal IsJournalFile journal
journal_sound no_bad not_long journal bytes words form (inl over) = no_more asked_of_a_journal bytes form.within over.0
journal_sound no_bad not_long journal bytes words form (inr bad) = faultless bad.fault bad.is_of_text bad.first where
  faultless : (fault : JournalFault) → fault ≢ journals.NoMemory → IsFault bytes fault → ⊥
  faultless (journals.Line number) other first = no_bad bytes journal.form journal.entries number form.spelled first
  faultless journals.TooLong other first = not_long bytes journal.form journal.entries form.spelled first
  faultless journals.NoMemory other first = other refl

verdict_unrefused : (verdict : Verdict) → IsVerdict (verdict_status verdict)
verdict_unrefused (Legal count quiet) = inl refl
verdict_unrefused (Illegal line expected) = inr refl

audits_unrefused : NoBadLine → NotLong → (contents : Contents) (name : List ℕ) (image : Image) (journal : SpelledJournal) (reply : Reply) → FileHolds contents name IsJournalFile journal
    → AuditsBy contents name image reply → IsAnswered IsVerdict reply
audits_unrefused no_bad not_long contents name image journal reply held h =
    reads_unrefused IsVerdict contents name journal_file (IsAudited image) journal reply (journal_sound no_bad not_long journal) (λ bytes form. form.within) held
    (λ bytes other form form_other is. of_verdict reply (verdict_status is.verdict) (ap (λ (s : Reply). s.status) is.told) (verdict_unrefused is.verdict)) h

audit_unrefused : BoardsAreUnrefused → NoBadLine → NotLong → (contents : Contents) (board journal : List ℕ) (reply : Reply) → AreGoodToAudit contents board journal → Audits contents board journal reply → IsAnswered IsVerdict reply
audit_unrefused unrefused no_bad not_long contents board journal reply good (inl ends) = board_unrefused unrefused IsVerdict contents board good.image reply good.known good.is ends
audit_unrefused unrefused no_bad not_long contents board journal reply good (inr (image, is, admitted, audits)) =
    audits_unrefused no_bad not_long contents journal image good.spelled reply good.spells audits

-- ---- map

-- what the maps after the items end with
abbrev IsMapOf : Image → List ℕ → Status → Type 0
IsMapOf image cpus status = status ≡ played_status (items image Two max_entries cpus []).full

mapped_status : (image : Image) (cpus : List ℕ) (found : Option (List ℕ)) → IsMapsAnswer image max_entries cpus found → IsMapOf image cpus (map_reply found).status
mapped_status image cpus (Some text) is = ap played_status (sym is.0)
mapped_status image cpus None is = ap played_status (sym is.0)

mapped_unrefused : (image : Image) (cpus other : List ℕ) (reply : Reply) → cpus ≡ other → IsMapped image other reply → IsAnswered (IsMapOf image cpus) reply
mapped_unrefused image cpus other reply same (found, is, told) =
    inl (ap (λ (s : Reply). s.status) told ∙ mapped_status image other found is ∙ ap (λ (xs : List ℕ). played_status (items image Two max_entries xs []).full) (sym same))

maps_unrefused : (contents : Contents) (schedule : List ℕ) (image : Image) (cpus : List ℕ) (reply : Reply) → FileHolds contents schedule (IsScheduleFile image) cpus
    → MapsBy contents schedule image reply → IsAnswered (IsMapOf image cpus) reply
maps_unrefused contents schedule image cpus reply held h =
    reads_unrefused (IsMapOf image cpus) contents schedule (schedule_file image) (IsMapped image) cpus reply (schedule_sound image cpus) (λ bytes form. form.within) held
    (λ bytes other form form_other is. mapped_unrefused image cpus other reply (one_schedule image bytes cpus other form form_other) is) h

map_unrefused : OneImage → BoardsAreUnrefused → (contents : Contents) (board schedule : List ℕ) (reply : Reply) (good : AreGoodToPlay contents board schedule) → Maps contents board schedule reply
    → IsAnswered (IsMapOf good.image good.items) reply
map_unrefused one_image unrefused contents board schedule reply good (inl ends) = board_unrefused unrefused (IsMapOf good.image good.items) contents board good.image reply good.known good.is ends
map_unrefused one_image unrefused contents board schedule reply good (inr (image, is, admitted, maps)) =
    let same : image ≡ good.image =
    one_image (all_told contents) board image good.image (each_is_told contents) (is_image contents board good.known image is) (is_image contents board good.known good.image good.is) in
    maps_unrefused contents schedule good.image good.items reply good.spells (subst (λ (i : Image). MapsBy contents schedule i reply) same maps)

-- ---- pins

-- what the pins after the items end with
abbrev ArePinsOfItems : Image → List ℕ → Status → Type 0
ArePinsOfItems image cpus status = status ≡ played_status (items image Two max_entries cpus []).full

pins_status : (image : Image) (cpus : List ℕ) (found : Option (List ℕ)) → IsPinsAnswer image Two max_entries cpus found → ArePinsOfItems image cpus (pins_reply found).status
pins_status image cpus (Some text) is = ap played_status (sym is.0)
pins_status image cpus None is = ap played_status (sym is.0)

told_pins_unrefused : (image : Image) (cpus other : List ℕ) (reply : Reply) → cpus ≡ other → ArePinsTold image other reply → IsAnswered (ArePinsOfItems image cpus) reply
told_pins_unrefused image cpus other reply same (found, is, told) =
    inl (ap (λ (s : Reply). s.status) told ∙ pins_status image other found is ∙ ap (λ (xs : List ℕ). played_status (items image Two max_entries xs []).full) (sym same))

pins_by_unrefused : (contents : Contents) (schedule : List ℕ) (image : Image) (cpus : List ℕ) (reply : Reply) → FileHolds contents schedule (IsScheduleFile image) cpus
    → PinsBy contents schedule image reply → IsAnswered (ArePinsOfItems image cpus) reply
pins_by_unrefused contents schedule image cpus reply held h =
    reads_unrefused (ArePinsOfItems image cpus) contents schedule (schedule_file image) (ArePinsTold image) cpus reply (schedule_sound image cpus) (λ bytes form. form.within) held
    (λ bytes other form form_other is. told_pins_unrefused image cpus other reply (one_schedule image bytes cpus other form form_other) is) h

pins_unrefused : OneImage → BoardsAreUnrefused → (contents : Contents) (board schedule : List ℕ) (reply : Reply) (good : AreGoodToPlay contents board schedule) → Pins contents board schedule reply
    → IsAnswered (ArePinsOfItems good.image good.items) reply
pins_unrefused one_image unrefused contents board schedule reply good (inl ends) = board_unrefused unrefused (ArePinsOfItems good.image good.items) contents board good.image reply good.known good.is ends
pins_unrefused one_image unrefused contents board schedule reply good (inr (image, is, admitted, pins)) =
    let same : image ≡ good.image =
    one_image (all_told contents) board image good.image (each_is_told contents) (is_image contents board good.known image is) (is_image contents board good.known good.image good.is) in
    pins_by_unrefused contents schedule good.image good.items reply good.spells (subst (λ (i : Image). PinsBy contents schedule i reply) same pins)

-- ---- tables

-- what the tables after the items end with
abbrev AreTablesOfItems : Image → List ℕ → Status → Type 0
AreTablesOfItems image cpus status = status ≡ played_status (items image Two max_entries cpus []).full

tables_status : (image : Image) (cpus : List ℕ) (found : Option (List ℕ)) → IsTablesAnswer image max_entries cpus found → AreTablesOfItems image cpus (tables_reply found).status
tables_status image cpus (Some text) is = ap played_status (sym is.0)
tables_status image cpus None is = ap played_status (sym is.0)

told_tables_unrefused : (image : Image) (cpus other : List ℕ) (reply : Reply) → cpus ≡ other → AreTablesTold image other reply → IsAnswered (AreTablesOfItems image cpus) reply
told_tables_unrefused image cpus other reply same (found, is, told) =
    inl (ap (λ (s : Reply). s.status) told ∙ tables_status image other found is ∙ ap (λ (xs : List ℕ). played_status (items image Two max_entries xs []).full) (sym same))

tables_by_unrefused : (contents : Contents) (schedule : List ℕ) (image : Image) (cpus : List ℕ) (reply : Reply) → FileHolds contents schedule (IsScheduleFile image) cpus
    → TablesBy contents schedule image reply → IsAnswered (AreTablesOfItems image cpus) reply
tables_by_unrefused contents schedule image cpus reply held h =
    reads_unrefused (AreTablesOfItems image cpus) contents schedule (schedule_file image) (AreTablesTold image) cpus reply (schedule_sound image cpus) (λ bytes form. form.within) held
    (λ bytes other form form_other is. told_tables_unrefused image cpus other reply (one_schedule image bytes cpus other form form_other) is) h

tables_unrefused : OneImage → BoardsAreUnrefused → (contents : Contents) (board schedule : List ℕ) (reply : Reply) (good : AreGoodToPlay contents board schedule) → Tables contents board schedule reply
    → IsAnswered (AreTablesOfItems good.image good.items) reply
tables_unrefused one_image unrefused contents board schedule reply good (inl ends) = board_unrefused unrefused (AreTablesOfItems good.image good.items) contents board good.image reply good.known good.is ends
tables_unrefused one_image unrefused contents board schedule reply good (inr (image, is, admitted, tables)) =
    let same : image ≡ good.image =
    one_image (all_told contents) board image good.image (each_is_told contents) (is_image contents board good.known image is) (is_image contents board good.known good.image good.is) in
    tables_by_unrefused contents schedule good.image good.items reply good.spells (subst (λ (i : Image). TablesBy contents schedule i reply) same tables)

-- ---- run and soak

-- a run ends with nothing due, or at its limit
abbrev IsRunEnd : Status → Type 0
IsRunEnd status = (status ≡ Good) ⊎ (status ≡ Full)

run_unrefused : BoardsAreUnrefused → (contents : Contents) (board : List ℕ) (reply : Reply) → AreGoodToRun contents board → Runs contents board reply → IsAnswered IsRunEnd reply
run_unrefused unrefused contents board reply good (inl ends) = board_unrefused unrefused IsRunEnd contents board good.image reply good.known good.is ends
run_unrefused unrefused contents board reply good (inr (image, is, admitted, ran)) = inl (run_ends image ran.entries reply.status ran.run.ends)

soak_unrefused : (word : List ℕ) (reply : Reply) (rounds : ℕ) → AreRounds word rounds → Soaks word reply → IsAnswered IsRunEnd reply
soak_unrefused word reply rounds are (inl none) = absurd (none.0 rounds are)
soak_unrefused word reply rounds are (inr (n, others, soaked)) = inl (run_ends (soak_image n) soaked.entries reply.status soaked.run.ends)

-- ---- plan

-- a system that a board may have isn't one that none has
pub admitted_or_not : (system : SystemConfig) (cause : ImageCause) → IsAdmittedSystem system → IsUnadmitted system cause → ⊥
admitted_or_not system (Findings found) may is = is.0 may.clean
admitted_or_not system (PoolSmall need have) may is = omega (arith, is.1, may.room)
admitted_or_not system CantBeRead may is = is
admitted_or_not system Oversize may is = is
admitted_or_not system Json may is = is
admitted_or_not system (Member name) may is = is
admitted_or_not system (System fault) may is = is
admitted_or_not system (BadPreload number) may is = is
admitted_or_not system (BadProgram fault) may is = is

-- two systems of the same bytes are one
pub system_values : OneSpelling → (bytes : List ℕ) (a b : SystemConfig) → IsSystemFile bytes a → IsSystemFile bytes b → a ≡ b
system_values one bytes a b h k = one a b h.is.typed k.is.typed h.is.limits k.is.limits (sym h.is.spelled ∙ k.is.spelled)

pub admitted_sound : SpellingsAreFaultless → OneSpelling → (system : SystemConfig) → IsSound AdmittedRefusal IsAdmittedSystemFile system
admitted_sound faultless one system bytes words form (inl no_system) = system_sound faultless system bytes words form.file no_system
admitted_sound faultless one system bytes words form (inr bad) =
    let same : bad.system ≡ system = system_values one bytes bad.system system bad.file form.file in
    admitted_or_not system bad.cause form.admitted (subst (λ (s : SystemConfig). IsUnadmitted s bad.cause) same bad.is)

pub demands_sound : (demands : List Demand) → IsSound DemandsRefusal AreDemands demands
demands_sound demands bytes words form (inl over) = no_more asked_of_a_file bytes form.0 over.0
demands_sound demands bytes words form (inr bad) = ok_err (demands_of bytes) demands bad.fault form.1 bad.first

-- demands that a plan meets
planned_unrefused : (contents : Contents) (system demands : List ℕ) (good : AreGoodToPlan contents system demands) (reply : Reply) → IsPlanned demands good.of_system good.of_demands reply → IsAnswered (λ status. status ≡ Good) reply
planned_unrefused contents system demands good reply (inl tells) = inl (ap (λ (s : Reply). s.status) tells.told)
planned_unrefused contents system demands good reply (inr tells) = absurd (no_fault good.of_system good.of_demands good.planned tells.number tells.why good.is tells.first)

plan_unrefused : SpellingsAreFaultless → OneSpelling → (contents : Contents) (system demands : List ℕ) (reply : Reply) → AreGoodToPlan contents system demands → Plans contents system demands reply → IsAnswered (λ status. status ≡ Good) reply
plan_unrefused faultless one contents system demands reply good h =
    reads_unrefused (λ status. status ≡ Good) contents system admitted_file (PlansBy contents demands) good.of_system reply (admitted_sound faultless one good.of_system) (λ bytes form. form.file.within) good.system_held
    (λ bytes other form form_other went.
    let same : other ≡ good.of_system = system_values one bytes other good.of_system form_other.file form.file in
    reads_unrefused (λ status. status ≡ Good) contents demands demands_file (IsPlanned demands good.of_system) good.of_demands reply (demands_sound good.of_demands) (λ text told. told.0) good.demands_held
    (λ text more told told_more is.
    let listed : more ≡ good.of_demands = ok_one (demands_of text) more good.of_demands told_more.1 told.1 in
    planned_unrefused contents system demands good reply (subst (λ (ds : List Demand). IsPlanned demands good.of_system ds reply) listed is))
    (subst (λ (s : SystemConfig). PlansBy contents demands s reply) same went)) h

-- ---- all of them

pub good_answered : CellsAreFaultless → SpellingsAreFaultless → OneSpelling → NoBadLine → NotLong → OneImage → BoardsAreUnrefused
    → (contents : Contents) (request : Option Request) (reply : Reply) (good : AreGood contents request) → Outcome contents request reply → MayEndWith contents request good reply.status ⊎ (reply.status ≡ ReadFault)
good_answered cells systems one_system no_bad not_long one_image unrefused contents None reply good h = absurd good
good_answered cells systems one_system no_bad not_long one_image unrefused contents (Some (CheckOf system names)) reply good h = check_unrefused cells systems contents system names reply good h
good_answered cells systems one_system no_bad not_long one_image unrefused contents (Some (PackOf spec)) reply good h = pack_unrefused contents spec reply good h
good_answered cells systems one_system no_bad not_long one_image unrefused contents (Some (PlayOf board schedule)) reply good h = play_unrefused one_image unrefused contents board schedule reply good h
good_answered cells systems one_system no_bad not_long one_image unrefused contents (Some (RunOf board)) reply good h = run_unrefused unrefused contents board reply good h
good_answered cells systems one_system no_bad not_long one_image unrefused contents (Some (MapOf board schedule)) reply good h = map_unrefused one_image unrefused contents board schedule reply good h
good_answered cells systems one_system no_bad not_long one_image unrefused contents (Some (SoakOf rounds)) reply good h = soak_unrefused rounds reply good.0 good.1 h
good_answered cells systems one_system no_bad not_long one_image unrefused contents (Some (PlanOf system demands)) reply good h = plan_unrefused systems one_system contents system demands reply good h
good_answered cells systems one_system no_bad not_long one_image unrefused contents (Some (PinsOf board schedule)) reply good h = pins_unrefused one_image unrefused contents board schedule reply good h
good_answered cells systems one_system no_bad not_long one_image unrefused contents (Some (TablesOf board schedule)) reply good h = tables_unrefused one_image unrefused contents board schedule reply good h
good_answered cells systems one_system no_bad not_long one_image unrefused contents (Some (AuditOf board journal)) reply good h = audit_unrefused unrefused no_bad not_long contents board journal reply good h

-- ---- the status

-- the status that is answered is the reply's, unless a count rose
pub answered_or_rose : (Answer : Status → Type 0) (old new old_sink new_sink : ℕ) (failed : List ℕ) (before after : Option (List ℕ)) (reply : Reply) (status : Status)
    → IsAnswered Answer reply → IsCountedFault old new failed reply → Sent before after reply status → (status ≡ WriteFault → Rose old_sink new_sink)
    → Answer status ⊎ (status ≡ NoMemory) ⊎ Rose old new ⊎ Rose old_sink new_sink
answered_or_rose Answer old new old_sink new_sink failed before after reply status (inl answer) counted (inl whole) fault = inl (subst Answer (sym whole.0) answer)
answered_or_rose Answer old new old_sink new_sink failed before after reply status (inr unread) counted (inl whole) fault = inr (inr (inl (counted unread).0))
answered_or_rose Answer old new old_sink new_sink failed before after reply status one counted (inr part) fault = inr (inr (inr (fault part.0)))

-- that a file couldn't be read is answered only where the count rose
pub unread : (old new : ℕ) (failed : List ℕ) (before after : Option (List ℕ)) (reply : Reply) (status : Status)
    → IsCountedFault old new failed reply → Sent before after reply status → status ≡ ReadFault → Rose old new × Appended before after (fault_line failed)
unread old new failed before after reply status counted (inl whole) is =
    let rose = counted (sym whole.0 ∙ is) in
    (rose.0, subst (λ (text : List ℕ). Appended before after text) rose.1 whole.1)
unread old new failed before after reply status counted (inr part) is =
    let same : exit_number WriteFault ≡ exit_number ReadFault = ap exit_number (sym part.0 ∙ is) in
    absurd (omega arith)

-- another status than that and a sink's is the reply's
pub reply_read : (before after : Option (List ℕ)) (reply : Reply) (status : Status) → Sent before after reply status → status ≢ ReadFault → status ≢ WriteFault → reply.status ≢ ReadFault
reply_read before after reply status (inl whole) read written is = read (whole.0 ∙ is)
reply_read before after reply status (inr part) read written is = written part.0
