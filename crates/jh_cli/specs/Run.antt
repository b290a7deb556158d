-- What `run` ends with. Threads take their turns in any order, so it is one of several texts.
use Rattle.std.specs.Prelude.{◌≡◌, ◌≤◌, ℕ, List, length}
use Rattle.jh_script.specs.declared.image.Image.{Image}
use Rattle.jh_history.specs.declared.form.Form.TheVariants.{Two}
use Rattle.jh_history.specs.declared.entry.Entry.{Entry}
use Rattle.jh_history.specs.Due.{IsLegal, IsQuiet}
use Rattle.jh_run.specs.Ends.{IsFullAndBusy}
use Rattle.jh_text.specs.Faults.{max_entries}
use Rattle.jh_text.specs.Text.{journal_text}
use Rattle.jh_image.specs.Files.{Contents}
use Rattle.jh_cli.specs.Reading.{Reply}
use Rattle.jh_cli.specs.Boards.{Opens}
use Rattle.jh_cli.specs.declared.status.Status.{Status}
use Rattle.jh_cli.specs.declared.status.Status.TheVariants.{Good, Full}

-- the journal of a run that ends with `Good` is quiet; one that ends with `Full` is at its limit and not quiet
abbrev pub EndsRun : Image → List Entry → Status → Type 0
EndsRun image entries Good = IsQuiet image Two entries
EndsRun image entries Full = IsFullAndBusy image Two max_entries entries
EndsRun image entries _ = ⊥

-- a run of the image may make these entries in a journal of form Two, which are no more than a journal may have, and end with this status
pub record IsMadeByRun (image : Image) (entries : List Entry) (status : Status) : Type 0 where
  pub legal : IsLegal image Two entries
  pub few : length entries ≤ max_entries
  pub ends : EndsRun image entries status

-- the reply has the text of a journal that a run of the image may make, and the status that it ends with
pub record IsToldRun (image : Image) (reply : Reply) : Type 0 where
  pub entries : List Entry
  pub run : IsMadeByRun image entries reply.status
  pub told : reply.text ≡ journal_text Two entries

-- what a run of the board ends with: the board's files are read, and the first that stops the call ends it
abbrev pub Runs : Contents → List ℕ → Reply → Type 0
Runs contents board = Opens contents board IsToldRun
