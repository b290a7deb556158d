-- The posts are of the board that is shared.
use Rattle.std.proofs.Common.{Some}
use Rattle.jh_run.proofs.workers.drive_all.Given as goal

abbrev pub ghosts-drive_at : goal.ghosts-drive_at
ghosts-drive_at g a = record { shared = Some a.shared.now }
