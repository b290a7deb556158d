-- Which bytes an entry of root writes, where root lives alone.
use Rattle.std.specs.Prelude.{ℕ, []}
use Rattle.jh_cellcfg.specs.declared.config.CellConfig.{CellConfig}
use Rattle.jh_script.specs.declared.image.Image.{Image}
use Rattle.jh_history.specs.declared.place.Place.{Place}
use Rattle.jh_history.specs.declared.entry.Entry.{Entry}
use Rattle.jh_history.specs.declared.entry.Act.{Act}
use Rattle.jh_laws.specs.Written.{Puts}

-- the cell's act writes the byte at the place, where no cell lives besides root: it is a write that succeeded
abbrev pub WritesByteAlone : Image → CellConfig → Act → Place → ℕ → Type 0
WritesByteAlone image cell act place byte = Puts image [] cell.id act place byte

-- the entry, made by the cell, writes nothing at the place
abbrev pub WritesNot : Image → CellConfig → Place → Entry → Type 0
WritesNot image cell place entry = (byte : ℕ) → WritesByteAlone image cell entry.act place byte → ⊥
