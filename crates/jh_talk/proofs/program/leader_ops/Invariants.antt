-- The operations so far, with the rounds that are left, are all.
use Rattle.std.proofs.Common.{◌≡◌, ◌-◌, ◌++◌}
use Rattle.jh_talk.specs.Programs.{leader_ops, leader_round, round_count, rounds_from}
use Rattle.jh_talk.proofs.program.leader_ops.Given as goal

abbrev pub invariant-loop-i : goal.invariant-loop-i
invariant-loop-i l =
    l.ops ++ rounds_from (leader_round l.side l.messages) l.i (round_count l.messages - l.i) ≡ leader_ops l.side l.fn.place l.fn.id l.fn.state l.messages
