-- What `play` ends with.
use Rattle.std.specs.Prelude.{◌≡◌, ◌<◌, ◌↔◌, ℕ, ◌⊎◌, Bool, if◌then◌else◌, List, length, Ok, Err}
use Rattle.jh_script.specs.declared.image.Image.{Image}
use Rattle.jh_script.specs.declared.fault.ScheduleFault.{ScheduleFault}
use Rattle.jh_script.specs.FaultText.{schedule_fault_text}
use Rattle.jh_script.specs.Schedules.{has_cpu, schedule_of}
use Rattle.jh_history.specs.declared.form.Form.TheVariants.{Two}
use Rattle.jh_history.specs.Lives.{is_on_board}
use Rattle.jh_history.specs.Due.{IsLegal, IsQuiet}
use Rattle.jh_history.specs.Items.{played}
use Rattle.jh_text.specs.Faults.{max_entries}
use Rattle.jh_text.specs.Text.{journal_text}
use Rattle.jh_run.specs.Plays.{IsFullAtCpu}
use Rattle.jh_image.specs.Files.{Contents}
use Rattle.jh_cli.specs.Reading.{Reply, FileKind, Reads, RefusesOversize}
use Rattle.jh_cli.specs.Boards.{Opens}
use Rattle.jh_cli.specs.declared.status.Status.{Status}
use Rattle.jh_cli.specs.declared.status.Status.TheVariants.{Good, Full}
use Rattle.jh_cli.specs.Limits.{asked_of_a_file}

-- bit n of the set says whether the board has CPU n
abbrev pub AreCpus : Image → ℕ → Type 0
AreCpus image cpus = (n : ℕ) → n < 16 → has_cpu cpus n ≡ is_on_board image n

-- the bytes are the text of a schedule for the board, and these are its items
pub record IsScheduleFile (image : Image) (bytes items : List ℕ) : Type 0 where
  pub within : length bytes < asked_of_a_file
  pub cpus : ℕ
  pub are : AreCpus image cpus
  pub spelled : schedule_of cpus bytes ≡ Ok items

-- the bytes are no text of a schedule for the board, for the fault that these words tell
pub record IsNoSchedule (image : Image) (bytes words : List ℕ) : Type 0 where
  pub within : length bytes < asked_of_a_file
  pub cpus : ℕ
  pub are : AreCpus image cpus
  pub fault : ScheduleFault
  pub first : schedule_of cpus bytes ≡ Err fault
  pub told : words ≡ schedule_fault_text fault

-- a schedule's file of these bytes is refused by these words: it is too large, or no schedule for the board
abbrev pub ScheduleRefusal : Image → List ℕ → List ℕ → Type 0
ScheduleRefusal image bytes words = RefusesOversize bytes words ⊎ IsNoSchedule image bytes words

-- a schedule's file for the board
abbrev pub schedule_file : Image → FileKind (List ℕ)
schedule_file image = record { most = asked_of_a_file; Refusal = ScheduleRefusal image; Form = IsScheduleFile image }

-- the status of a play, by whether the journal stopped at its limit
abbrev pub played_status : Bool → Status
played_status full = if full then Full else Good

-- the text of the played journal, which has form Two; the journal is legal, and with status `Good` nothing is due after it. The status is
-- `Full` exactly where the journal is at its limit and some CPU has an entry due
pub record IsPlayed (image : Image) (cpus : List ℕ) (reply : Reply) : Type 0 where
  pub told : reply ≡ record { status = played_status (played image Two max_entries cpus).full; text = journal_text Two (played image Two max_entries cpus).entries }
  pub legal : IsLegal image Two (played image Two max_entries cpus).entries
  pub quiet : reply.status ≡ Good → IsQuiet image Two (played image Two max_entries cpus).entries
  pub full : (reply.status ≡ Full) ↔ IsFullAtCpu image max_entries (played image Two max_entries cpus).entries

-- what a play of the image by the schedule ends with
abbrev pub PlaysBy : Contents → List ℕ → Image → Reply → Type 0
PlaysBy contents schedule image = Reads contents schedule (schedule_file image) (IsPlayed image)

-- what a play of the board by the schedule ends with: the board's files are read, then the schedule's, and the
-- first that stops the call ends it
abbrev pub Plays : Contents → List ℕ → List ℕ → Reply → Type 0
Plays contents board schedule = Opens contents board (PlaysBy contents schedule)
