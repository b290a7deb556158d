-- The files so far spell the cells that were read.
use Rattle.std.proofs.Common.{◌≡◌, ◌≤◌, length}
use Rattle.std.specs.Prelude.{take, map, string_bytes}
use Rattle.jh_outside.specs.Trail.{AsksAll}
use Rattle.jh_cli.specs.Check.{SpellCells}
use Rattle.jh_cli.proofs.check.cells.Given as goal

abbrev pub invariant-loop-name : goal.invariant-loop-name
invariant-loop-name g l = record {
  spelled : SpellCells (g.F.Files.contents l.fn.files) (map string_bytes (take l.name-index l.fn.names)) l.cells;
  few : length l.cells ≡ l.name-index;
  kept : g.F.Files.contents l.files ≡ g.F.Files.contents l.fn.files;
  asked : AsksAll g.F.Files (map string_bytes (take l.name-index l.fn.names)) l.fn.files l.files;
  counted : g.F.Files.faults l.fn.files ≤ g.F.Files.faults l.files;
}
