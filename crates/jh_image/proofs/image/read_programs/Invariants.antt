-- The programs so far are those of the first files.
use Rattle.std.proofs.Common.{◌≡◌, ◌≤◌, map, take}
use Rattle.jh_outside.specs.Trail.{AsksAll}
use Rattle.jh_image.specs.Order.{program_name}
use Rattle.jh_image.proofs.LoadLemmas.{ProgramsSoFar}
use Rattle.jh_image.proofs.image.read_programs.Given as goal

abbrev pub invariant-loop-file : goal.invariant-loop-file
invariant-loop-file g l = record {
  kept : g.F.Files.contents l.files ≡ g.F.Files.contents l.fn.files;
  rises : g.F.Files.faults l.fn.files ≤ g.F.Files.faults l.files;
  asked : AsksAll g.F.Files (map program_name (take l.file-index l.fn.listing.programs)) l.fn.files l.files;
  so_far : ProgramsSoFar (g.F.Files.contents l.fn.files) l.fn.board l.fn.listing l.fn.system l.fn.preloads l.file-index l.programs;
}
