-- Round by round.
use Rattle.std.proofs.Common.{◌≡◌, ◌-◌, ◌<◌, ◌≤◌, ◌++◌, rules, arith, ap, ◌∙◌}
use Rattle.jh_talk.specs.Programs.{leader_ops, leader_round, leader_start, round_count, rounds_from}
use Rattle.jh_talk.proofs.ProgramLemmas.{no_round, one_round}
use Rattle.jh_talk.proofs.program.leader_ops.Goals as goal

pub loop-i-init : goal.loop-i-init
unfolding leader_ops
loop-i-init c =
    let side = c.args.side.now in
    let count = round_count c.args.messages.now in
    let begun : c.in_ok-ops.ops ≡ leader_start side c.args.place c.args.id c.args.state = search rules in
    let all : count - 0 ≡ count = omega arith in
    ap (λ w. w ++ rounds_from (leader_round side c.args.messages.now) 0 (count - 0)) begun
    ∙ ap (λ n. leader_start side c.args.place c.args.id c.args.state ++ rounds_from (leader_round side c.args.messages.now) 0 n) all

pub loop-i-preserved : goal.loop-i-preserved
loop-i-preserved c =
    let side = c.args.side.now in
    let count = round_count c.args.messages.now in
    let i = c.loop-i.i in
    let more : i < count = search rules in
    let made : c.push_leader_round.new.ops ≡ c.loop-i.ops ++ leader_round side c.args.messages.now i = search rules in
    one_round (leader_round side c.args.messages.now) c.loop-i.ops c.push_leader_round.new.ops (leader_ops c.args.side.now c.args.place c.args.id c.args.state c.args.messages.now) i count more c.loop-i.invariant made

pub returns : goal.returns
returns c =
    let count = round_count c.args.messages.now in
    let done : count ≤ c.loop-i.i = search rules in
    no_round (leader_round c.args.side.now c.args.messages.now) c.loop-i.ops (leader_ops c.args.side.now c.args.place c.args.id c.args.state c.args.messages.now) c.loop-i.i count done c.loop-i.invariant
