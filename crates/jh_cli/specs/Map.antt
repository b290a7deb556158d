-- What `map` ends with.
use Rattle.std.specs.Prelude.{◌≡◌, ℕ, List, [], Option, Some, None}
use Rattle.jh_script.specs.declared.image.Image.{Image}
use Rattle.jh_run.specs.Maps.{IsMapsAnswer}
use Rattle.jh_image.specs.Files.{Contents}
use Rattle.jh_text.specs.Faults.{max_entries}
use Rattle.jh_cli.specs.Reading.{Reply, Reads}
use Rattle.jh_cli.specs.Boards.{Opens}
use Rattle.jh_cli.specs.Play.{schedule_file}
use Rattle.jh_cli.specs.declared.status.Status.TheVariants.{Good, Full}

-- the reply that tells these maps, or, where the limit stopped an item, that has the status Full and no text
abbrev pub map_reply : Option (List ℕ) → Reply
map_reply (Some text) = record { status = Good; text = text }
map_reply None = record { status = Full; text = [] }

-- the reply to a map of the image after the items alone: the maps, or that the limit stopped an item
abbrev pub IsMapped : Image → List ℕ → Reply → Type 0
IsMapped image cpus reply = (found : Option (List ℕ)) × IsMapsAnswer image max_entries cpus found × (reply ≡ map_reply found)

-- what a map of the image after the schedule ends with
abbrev pub MapsBy : Contents → List ℕ → Image → Reply → Type 0
MapsBy contents schedule image = Reads contents schedule (schedule_file image) (IsMapped image)

-- what a map of the board after the schedule ends with: the board's files are read, then the schedule's, and the first
-- that stops the call ends it
abbrev pub Maps : Contents → List ℕ → List ℕ → Reply → Type 0
Maps contents board schedule = Opens contents board (MapsBy contents schedule)
