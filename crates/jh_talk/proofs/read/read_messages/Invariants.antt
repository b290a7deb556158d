-- The messages so far are few; the rest, and any fault, are in the lines left.
use Rattle.std.proofs.Common.{◌≡◌, ◌≤◌, ◌-◌, ◌++◌, length}
use Rattle.jh_talk.specs.Messages.{lines_of, first_fault, sends_of, replies_of}
use Rattle.jh_talk.specs.Limits.{most_messages}
use Rattle.jh_talk.proofs.read.read_messages.Given as goal

abbrev pub invariant-loop-line : goal.invariant-loop-line
invariant-loop-line l = record {
  faults : first_fault 0 most_messages most_messages (lines_of l.text) ≡ first_fault l.number (most_messages - length l.sends) (most_messages - length l.replies) (lines_of l.rest);
  sent : sends_of (lines_of l.text) ≡ l.sends ++ sends_of (lines_of l.rest);
  replied : replies_of (lines_of l.text) ≡ l.replies ++ replies_of (lines_of l.rest);
  few_sends : length l.sends ≤ most_messages;
  few_replies : length l.replies ≤ most_messages;
}

abbrev pub decreases-loop-line : goal.decreases-loop-line
decreases-loop-line l = length l.rest
