-- Words have one outcome.
use Rattle.std.proofs.Common.{◌≡◌, ◌≢◌, ℕ, List, [], Option, None, Some, inl, inr, refl, sym, ◌∙◌, ap, subst}
use Rattle.std.proofs.lemmas.Bool.{false≢true}
use Rattle.jh_spec.specs.declared.spec.Spec.{Spec}
use Rattle.jh_script.specs.declared.image.Image.{Image}
use Rattle.jh_history.specs.declared.form.Form.{Form}
use Rattle.jh_history.specs.declared.form.Form.TheVariants.{Two}
use Rattle.jh_history.specs.declared.entry.Entry.{Entry}
use Rattle.jh_history.specs.Items.{items}
use Rattle.jh_image.specs.declared.fault.ImageCause.{ImageCause}
use Rattle.jh_image.specs.declared.fault.ImageCause.TheVariants.{ReadFault as CantBeRead}
use Rattle.jh_image.specs.Laws.{AreKnown, IsCertainCause}
use Rattle.jh_image.proofs.Public.{OneSpelling, SpellingsAreFaultless}
use Rattle.jh_pins.specs.After.{IsPinsText, IsPinsAnswer}
use Rattle.jh_run.specs.Maps.{IsMapsText, IsMapsAnswer}
use Rattle.jh_run.specs.Tables.{IsTablesAnswer}
use Rattle.jh_text.specs.Faults.{max_entries}
use Rattle.jh_text.proofs.Public.{OneJournal, NoBadLine, NotLong, NotBoth, OneLine}
use Rattle.jh_cli.specs.declared.status.Status.TheVariants.{Good, ReadFault}
use Rattle.jh_cli.specs.Limits.{asked_of_a_file, asked_of_a_journal}
use Rattle.jh_cli.specs.Words.{Request, CheckOf, PackOf, PlayOf, RunOf, MapOf, AuditOf, SoakOf, PlanOf, PinsOf, TablesOf, IsSerial}
use Rattle.jh_image.specs.Files.{Contents}
use Rattle.jh_cli.specs.Reading.{Reply}
use Rattle.jh_cli.specs.Check.{IsSystemFile, SystemRefusal, ChecksCells}
use Rattle.jh_cli.specs.Pack.{IsSpecFile, SpecRefusal, packed}
use Rattle.jh_cli.specs.Boards.{stopped, EndsAtBoard, Opens}
use Rattle.jh_cli.specs.Play.{IsScheduleFile, ScheduleRefusal, IsPlayed, PlaysBy}
use Rattle.jh_cli.specs.Map.{map_reply, IsMapped, MapsBy}
use Rattle.jh_cli.specs.Pins.{pins_reply, ArePinsTold, PinsBy}
use Rattle.jh_cli.specs.Tables.{tables_reply, AreTablesTold, TablesBy}
use Rattle.jh_cli.specs.Audit.{IsJournalFile, JournalRefusal, IsAudited, AuditsBy}
use Rattle.jh_cli.specs.Outcome.{Outcome}
use Rattle.jh_cli.specs.Complete.{IsKnownBoard, AreKnownFiles}
use Rattle.jh_cli.proofs.GoodLemmas.{CellsAreFaultless, OneImage, BoardsAreUnrefused, IsAnswered, system_sound, system_values, spec_sound, schedule_sound, one_schedule, journal_sound, board_unrefused}
use Rattle.jh_cli.proofs.KnownLemmas.{all_told, each_is_told, is_image, stops}
use Rattle.jh_cli.proofs.OneLemmas.{OneCell, IsRead, one_reading, system_words, one_check, spec_words, spec_values, schedule_words, journal_words, one_spelled_journal, one_audited}
use Rattle.jh_cli.proofs.PlanLemmas.{one_plan_reply}

-- ---- boards

abbrev pub OneCause : Type 0
OneCause = (contents : Contents) (board file other : List ℕ) (cause more : ImageCause) → AreKnown contents
    → IsCertainCause contents board file cause → IsCertainCause contents board other more → (cause ≡ more) × (file ≡ other)

is_unread : (file : List ℕ) (cause : ImageCause) (reply : Reply) → reply ≡ stopped file cause → IsRead reply → cause ≢ CantBeRead
is_unread file cause reply is read fault = read (ap (λ (s : Reply). s.status) is ∙ ap (λ (c : ImageCause). (stopped file c).status) fault)

-- a call ends at one file of a board for one cause
one_end : OneCause → (contents : Contents) (board : List ℕ) → IsKnownBoard contents board → (one other : Reply) → EndsAtBoard contents board one → EndsAtBoard contents board other → IsRead one → IsRead other → one ≡ other
one_end one_cause contents board told one other h k read also =
    let same : (h.cause ≡ k.cause) × (h.file ≡ k.file) = one_cause (all_told contents) board h.file k.file h.cause k.cause (each_is_told contents)
    (record { stops = stops contents board told h.file h.cause h.stops; read = is_unread h.file h.cause one h.told read })
    (record { stops = stops contents board told k.file k.cause k.stops; read = is_unread k.file k.cause other k.told also }) in
    h.told ∙ ap (λ (f : List ℕ). stopped f h.cause) same.1 ∙ ap (λ (c : ImageCause). stopped k.file c) same.0 ∙ sym k.told

unread_end : (reply : Reply) → IsAnswered (λ status. ⊥) reply → reply.status ≡ ReadFault
unread_end reply (inl never) = absurd never
unread_end reply (inr is) = is

one_opening : OneCause → OneImage → BoardsAreUnrefused → (contents : Contents) (board : List ℕ) (next : Image → Reply → Type 0) (one other : Reply) → IsKnownBoard contents board
    → ((image : Image) → next image one → next image other → one ≡ other)
    → Opens contents board next one → Opens contents board next other → IsRead one → IsRead other → one ≡ other
one_opening one_cause one_image unrefused contents board next one other told rest (inl h) (inl k) read also = one_end one_cause contents board told one other h k read also
one_opening one_cause one_image unrefused contents board next one other told rest (inl h) (inr k) read also = absurd (read (unread_end one (board_unrefused unrefused (λ status. ⊥) contents board k.0 one told k.1 h)))
one_opening one_cause one_image unrefused contents board next one other told rest (inr h) (inl k) read also = absurd (also (unread_end other (board_unrefused unrefused (λ status. ⊥) contents board h.0 other told h.1 k)))
one_opening one_cause one_image unrefused contents board next one other told rest (inr h) (inr k) read also =
    let same : h.0 ≡ k.0 = one_image (all_told contents) board h.0 k.0 (each_is_told contents) (is_image contents board told h.0 h.1) (is_image contents board told k.0 k.1) in
    rest k.0 (subst (λ (i : Image). next i one) same h.3) k.3

-- ---- map

abbrev pub OneMaps : Type 0
OneMaps = (image : Image) (form : Form) (entries : List Entry) (one other : List ℕ) → IsMapsText image form entries one → IsMapsText image form entries other → one ≡ other

-- the limit stops the items or it doesn't
same_found : OneMaps → (image : Image) (cpus : List ℕ) (one other : Option (List ℕ)) → IsMapsAnswer image max_entries cpus one → IsMapsAnswer image max_entries cpus other → one ≡ other
same_found one_maps image cpus None None h k = refl
same_found one_maps image cpus None (Some text) h k = absurd (false≢true (sym k.0 ∙ h.0))
same_found one_maps image cpus (Some text) None h k = absurd (false≢true (sym h.0 ∙ k.0))
same_found one_maps image cpus (Some text) (Some more) h k = ap Some (one_maps image Two (items image Two max_entries cpus []).entries text more h.2 k.2)

one_mapped : OneMaps → (image : Image) (cpus : List ℕ) (one other : Reply) → IsMapped image cpus one → IsMapped image cpus other → one ≡ other
one_mapped one_maps image cpus one other (found, is, told) (more, also, told_also) = told ∙ ap map_reply (same_found one_maps image cpus found more is also) ∙ sym told_also

-- ---- pins

abbrev pub OnePins : Type 0
OnePins = (image : Image) (form : Form) (entries : List Entry) (one other : List ℕ) → IsPinsText image form entries one → IsPinsText image form entries other → one ≡ other

-- the limit stops the items or it doesn't
same_pins : OnePins → (image : Image) (cpus : List ℕ) (one other : Option (List ℕ)) → IsPinsAnswer image Two max_entries cpus one → IsPinsAnswer image Two max_entries cpus other → one ≡ other
same_pins one_pins image cpus None None h k = refl
same_pins one_pins image cpus None (Some text) h k = absurd (false≢true (sym k.0 ∙ h.0))
same_pins one_pins image cpus (Some text) None h k = absurd (false≢true (sym h.0 ∙ k.0))
same_pins one_pins image cpus (Some text) (Some more) h k = ap Some (one_pins image Two (items image Two max_entries cpus []).entries text more h.2 k.2)

one_told_pins : OnePins → (image : Image) (cpus : List ℕ) (one other : Reply) → ArePinsTold image cpus one → ArePinsTold image cpus other → one ≡ other
one_told_pins one_pins image cpus one other (found, is, told) (more, also, told_also) = told ∙ ap pins_reply (same_pins one_pins image cpus found more is also) ∙ sym told_also

-- ---- tables

-- the limit stops the items or it doesn't
same_tables : (image : Image) (cpus : List ℕ) (one other : Option (List ℕ)) → IsTablesAnswer image max_entries cpus one → IsTablesAnswer image max_entries cpus other → one ≡ other
same_tables image cpus None None h k = refl
same_tables image cpus None (Some text) h k = absurd (false≢true (sym k.0 ∙ h.0))
same_tables image cpus (Some text) None h k = absurd (false≢true (sym h.0 ∙ k.0))
same_tables image cpus (Some text) (Some more) h k = ap Some (h.2 ∙ sym k.2)

one_told_tables : (image : Image) (cpus : List ℕ) (one other : Reply) → AreTablesTold image cpus one → AreTablesTold image cpus other → one ≡ other
one_told_tables image cpus one other (found, is, told) (more, also, told_also) = told ∙ ap tables_reply (same_tables image cpus found more is also) ∙ sym told_also

-- ---- all of them

pub one_outcome : CellsAreFaultless → SpellingsAreFaultless → OneCell → OneSpelling → NoBadLine → NotLong → OneJournal → NotBoth → OneLine → OneImage → BoardsAreUnrefused → OneCause → OneMaps → OnePins
    → (contents : Contents) (request : Option Request) (one other : Reply) → IsSerial request → AreKnownFiles contents request → Outcome contents request one → Outcome contents request other → IsRead one → IsRead other → one ≡ other
one_outcome cells systems one_cell one_system no_bad not_long one_journal not_both one_line one_image unrefused one_cause one_maps one_pins contents None one other serial told h k read also = h ∙ sym k
one_outcome cells systems one_cell one_system no_bad not_long one_journal not_both one_line one_image unrefused one_cause one_maps one_pins contents (Some (CheckOf system names)) one other serial told h k read also =
    one_reading asked_of_a_file contents system told.0 SystemRefusal IsSystemFile system_words (system_values one_system) (λ bytes s words form why. system_sound systems s bytes words form why)
    (ChecksCells contents names) one other (λ s a b. one_check cells one_cell contents names s one other told.1 a b) h k read also
one_outcome cells systems one_cell one_system no_bad not_long one_journal not_both one_line one_image unrefused one_cause one_maps one_pins contents (Some (PackOf name)) one other serial told h k read also =
    one_reading asked_of_a_file contents name told.0 SpecRefusal IsSpecFile spec_words spec_values (λ bytes s words form why. spec_sound s bytes words form why)
    (λ (spec : Spec) (s : Reply). s ≡ record { status = Good; text = packed spec }) one other (λ s a b r q. a ∙ sym b) h k read also
one_outcome cells systems one_cell one_system no_bad not_long one_journal not_both one_line one_image unrefused one_cause one_maps one_pins contents (Some (PlayOf board schedule)) one other serial told h k read also =
    one_opening one_cause one_image unrefused contents board (PlaysBy contents schedule) one other told.0
    (λ image a b. one_reading asked_of_a_file contents schedule told.1.0 (ScheduleRefusal image) (IsScheduleFile image) (schedule_words image) (one_schedule image) (λ bytes s words form why. schedule_sound image s bytes words form why)
    (IsPlayed image) one other (λ s x y r q. x.told ∙ sym y.told) a b read also) h k read also
one_outcome cells systems one_cell one_system no_bad not_long one_journal not_both one_line one_image unrefused one_cause one_maps one_pins contents (Some (RunOf board)) one other serial told h k read also = absurd serial
one_outcome cells systems one_cell one_system no_bad not_long one_journal not_both one_line one_image unrefused one_cause one_maps one_pins contents (Some (SoakOf rounds)) one other serial told h k read also = absurd serial
one_outcome cells systems one_cell one_system no_bad not_long one_journal not_both one_line one_image unrefused one_cause one_maps one_pins contents (Some (PlanOf system demands)) one other serial told h k read also =
    one_plan_reply systems one_system contents system demands one other told h k read also
one_outcome cells systems one_cell one_system no_bad not_long one_journal not_both one_line one_image unrefused one_cause one_maps one_pins contents (Some (MapOf board schedule)) one other serial told h k read also =
    one_opening one_cause one_image unrefused contents board (MapsBy contents schedule) one other told.0
    (λ image a b. one_reading asked_of_a_file contents schedule told.1.0 (ScheduleRefusal image) (IsScheduleFile image) (schedule_words image) (one_schedule image) (λ bytes s words form why. schedule_sound image s bytes words form why)
    (IsMapped image) one other (λ s x y r q. one_mapped one_maps image s one other x y) a b read also) h k read also
one_outcome cells systems one_cell one_system no_bad not_long one_journal not_both one_line one_image unrefused one_cause one_maps one_pins contents (Some (PinsOf board schedule)) one other serial told h k read also =
    one_opening one_cause one_image unrefused contents board (PinsBy contents schedule) one other told.0
    (λ image a b. one_reading asked_of_a_file contents schedule told.1.0 (ScheduleRefusal image) (IsScheduleFile image) (schedule_words image) (one_schedule image) (λ bytes s words form why. schedule_sound image s bytes words form why)
    (ArePinsTold image) one other (λ s x y r q. one_told_pins one_pins image s one other x y) a b read also) h k read also
one_outcome cells systems one_cell one_system no_bad not_long one_journal not_both one_line one_image unrefused one_cause one_maps one_pins contents (Some (TablesOf board schedule)) one other serial told h k read also =
    one_opening one_cause one_image unrefused contents board (TablesBy contents schedule) one other told.0
    (λ image a b. one_reading asked_of_a_file contents schedule told.1.0 (ScheduleRefusal image) (IsScheduleFile image) (schedule_words image) (one_schedule image) (λ bytes s words form why. schedule_sound image s bytes words form why)
    (AreTablesTold image) one other (λ s x y r q. one_told_tables image s one other x y) a b read also) h k read also
one_outcome cells systems one_cell one_system no_bad not_long one_journal not_both one_line one_image unrefused one_cause one_maps one_pins contents (Some (AuditOf board journal)) one other serial told h k read also =
    one_opening one_cause one_image unrefused contents board (AuditsBy contents journal) one other told.0
    (λ image a b. one_reading asked_of_a_journal contents journal told.1.0 JournalRefusal IsJournalFile (journal_words not_both one_line) (one_spelled_journal one_journal)
    (λ bytes s words form why. journal_sound no_bad not_long s bytes words form why)
    (IsAudited image) one other (λ spelled x y r q. one_audited image spelled one other x y) a b read also) h k read also
