-- The index is one of the list.
use Rattle.std.proofs.Common.{◌<◌, length}
use Rattle.jh_run.proofs.roaming.roam_own.Given as goal

abbrev pub invariant-loop : goal.invariant-loop
invariant-loop g l = l.at < length l.own
