-- What `tables` ends with.
use Rattle.std.specs.Prelude.{◌≡◌, ℕ, List, [], Option, Some, None}
use Rattle.jh_script.specs.declared.image.Image.{Image}
use Rattle.jh_run.specs.Tables.{IsTablesAnswer}
use Rattle.jh_image.specs.Files.{Contents}
use Rattle.jh_text.specs.Faults.{max_entries}
use Rattle.jh_cli.specs.Reading.{Reply, Reads}
use Rattle.jh_cli.specs.Boards.{Opens}
use Rattle.jh_cli.specs.Play.{schedule_file}
use Rattle.jh_cli.specs.declared.status.Status.TheVariants.{Good, Full}

-- the reply that tells these tables, or, where the limit stopped an item, that has the status Full and no text
abbrev pub tables_reply : Option (List ℕ) → Reply
tables_reply (Some text) = record { status = Good; text = text }
tables_reply None = record { status = Full; text = [] }

-- the reply that tells the tables of the image's cells after the items alone, or that the limit stopped an item
abbrev pub AreTablesTold : Image → List ℕ → Reply → Type 0
AreTablesTold image cpus reply = (found : Option (List ℕ)) × IsTablesAnswer image max_entries cpus found × (reply ≡ tables_reply found)

-- what `tables` with the image and the schedule ends with
abbrev pub TablesBy : Contents → List ℕ → Image → Reply → Type 0
TablesBy contents schedule image = Reads contents schedule (schedule_file image) (AreTablesTold image)

-- what `tables` with the board and the schedule ends with: the board's files are read, then the schedule's, and the first
-- that stops the call ends it
abbrev pub Tables : Contents → List ℕ → List ℕ → Reply → Type 0
Tables contents board schedule = Opens contents board (TablesBy contents schedule)
