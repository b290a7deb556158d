-- The CPUs so far are few and of the board; the rest, and any refusal, are in the items left.
use Rattle.std.proofs.Common.{◌≡◌, ◌≤◌, ◌++◌, length}
use Rattle.std.specs.List.{All}
use Rattle.jh_script.specs.Schedules.{items_of, first_refusal, cpus_of, IsPresent}
use Rattle.jh_script.proofs.schedule.read_schedule.Given as goal
use Rattle.jh_script.specs.Limits.{most_items}

abbrev pub invariant-loop-item : goal.invariant-loop-item
invariant-loop-item l = record {
  faults : first_refusal 0 (items_of l.cpus l.text) ≡ first_refusal (length l.items) (items_of l.cpus l.rest);
  found : cpus_of (items_of l.cpus l.text) ≡ l.items ++ cpus_of (items_of l.cpus l.rest);
  few : length l.items ≤ most_items;
  present : All (IsPresent l.cpus) l.items;
}

abbrev pub decreases-loop-item : goal.decreases-loop-item
decreases-loop-item l = length l.rest
