-- What an entry does to bytes, and what they are at opening.
use Rattle.std.specs.Prelude.{ℕ, true, fold}
use Rattle.jh_num.specs.Memory.{stored}
use Rattle.jh_script.specs.declared.image.Image.{Image}
use Rattle.jh_script.specs.declared.image.Preload.{Preload}
use Rattle.jh_history.specs.declared.place.Place.{Place}
use Rattle.jh_history.specs.declared.place.Place.TheVariants.{Physical, Page}
use Rattle.jh_history.specs.declared.access.Access.TheVariants.{Write as ToWrite}
use Rattle.jh_history.specs.declared.entry.Entry.{Entry}
use Rattle.jh_history.specs.declared.entry.Act.{Act}
use Rattle.jh_history.specs.declared.entry.Act.TheVariants.{Write}
use Rattle.jh_history.specs.Access.{write_of}
use Rattle.jh_history.specs.Facts.{Facts}
use Rattle.jh_history.specs.Devices.{specs_of}
use Rattle.jh_history.specs.Endpoints.{with_words, specs_changing}
use Rattle.jh_history.specs.Grants.{reach, devices_of}
use Rattle.jh_history.specs.Pages.{with_page_write, page_write_by}

-- physical memory, with the preload's bytes over it
abbrev pub preloaded : (ℕ → ℕ) → Preload → ℕ → ℕ
preloaded byte preload = stored byte preload.at preload.bytes

-- physical memory is what the preloads put, and 0 elsewhere; each page is 0
abbrev pub loaded_byte : Image → Place → ℕ
loaded_byte image (Physical p) = fold preloaded (λ _. 0) image.preloads p
loaded_byte image (Page cell offset) = 0

-- the bytes at opening: the words of root's devices in their state tables are 0, whatever the preloads put there
abbrev pub opening_byte : Image → Place → ℕ
opening_byte image = with_words (specs_of image.system.root) (loaded_byte image)

-- the bytes after what the act of the cell writes itself: a write that succeeds changes those that it reaches
abbrev pub byte_written : Image → Facts → ℕ → Act → Place → ℕ
byte_written image facts cell (Write width at value true) = write_of facts.byte (devices_of image facts cell) (reach image facts cell ToWrite at width) value
byte_written image facts cell _ = facts.byte

-- the bytes after an entry: what its act writes, and what the hypervisor writes into a communication page with it; by the
-- Commit of a create, a start or a destroy the words of the cell's devices in their state tables become 0, too
abbrev pub byte_after : Image → Facts → Entry → Place → ℕ
byte_after image facts entry =
    with_page_write (page_write_by image facts entry entry.act) (with_words (specs_changing facts entry.act) (byte_written image facts entry.cell entry.act))
