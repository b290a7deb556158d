-- What `pins` ends with.
use Rattle.std.specs.Prelude.{◌≡◌, ℕ, List, [], Option, Some, None}
use Rattle.jh_script.specs.declared.image.Image.{Image}
use Rattle.jh_history.specs.declared.form.Form.TheVariants.{Two}
use Rattle.jh_pins.specs.After.{IsPinsAnswer}
use Rattle.jh_image.specs.Files.{Contents}
use Rattle.jh_text.specs.Faults.{max_entries}
use Rattle.jh_cli.specs.Reading.{Reply, Reads}
use Rattle.jh_cli.specs.Boards.{Opens}
use Rattle.jh_cli.specs.Play.{schedule_file}
use Rattle.jh_cli.specs.declared.status.Status.TheVariants.{Good, Full}

-- the reply that tells these pins, or, where the limit stopped an item, that has the status Full and no text
abbrev pub pins_reply : Option (List ℕ) → Reply
pins_reply (Some text) = record { status = Good; text = text }
pins_reply None = record { status = Full; text = [] }

-- the reply that tells the pins of the image's cells after the items alone, or that the limit stopped an item
abbrev pub ArePinsTold : Image → List ℕ → Reply → Type 0
ArePinsTold image cpus reply = (found : Option (List ℕ)) × IsPinsAnswer image Two max_entries cpus found × (reply ≡ pins_reply found)

-- what `pins` with the image and the schedule ends with
abbrev pub PinsBy : Contents → List ℕ → Image → Reply → Type 0
PinsBy contents schedule image = Reads contents schedule (schedule_file image) (ArePinsTold image)

-- what `pins` with the board and the schedule ends with: the board's files are read, then the schedule's, and the first
-- that stops the call ends it
abbrev pub Pins : Contents → List ℕ → List ℕ → Reply → Type 0
Pins contents board schedule = Opens contents board (PinsBy contents schedule)
