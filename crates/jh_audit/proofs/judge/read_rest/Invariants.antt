-- So far the lines of some entries are read.
use Rattle.std.proofs.Common.{◌-◌}
use Rattle.jh_text.specs.Faults.{max_entries}
use Rattle.jh_audit.specs.Private.Rest.{ReadsOn}
use Rattle.jh_audit.proofs.judge.read_rest.Given as goal

abbrev pub invariant-loop : goal.invariant-loop
invariant-loop l = ReadsOn l.fn.lines l.lines

abbrev pub decreases-loop : goal.decreases-loop
decreases-loop l = max_entries - l.lines.count
