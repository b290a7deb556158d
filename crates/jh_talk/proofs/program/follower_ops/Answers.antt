-- Round by round.
use Rattle.std.proofs.Common.{◌≡◌, ◌-◌, ◌<◌, ◌≤◌, ◌++◌, rules, arith, ap, ◌∙◌}
use Rattle.jh_talk.specs.Programs.{follower_ops, follower_round, follower_start, round_count, rounds_from}
use Rattle.jh_talk.proofs.ProgramLemmas.{no_round, one_round}
use Rattle.jh_talk.proofs.program.follower_ops.Goals as goal

pub loop-i-init : goal.loop-i-init
unfolding follower_ops
loop-i-init c =
    let side = c.args.side.now in
    let count = round_count c.args.messages.now in
    let begun : c.in_ok-ops.ops ≡ follower_start side = search rules in
    let all : count - 0 ≡ count = omega arith in
    ap (λ w. w ++ rounds_from (follower_round side c.args.messages.now) 0 (count - 0)) begun
    ∙ ap (λ n. follower_start side ++ rounds_from (follower_round side c.args.messages.now) 0 n) all

pub loop-i-preserved : goal.loop-i-preserved
loop-i-preserved c =
    let side = c.args.side.now in
    let count = round_count c.args.messages.now in
    let i = c.loop-i.i in
    let more : i < count = search rules in
    let made : c.push_follower_round.new.ops ≡ c.loop-i.ops ++ follower_round side c.args.messages.now i = search rules in
    one_round (follower_round side c.args.messages.now) c.loop-i.ops c.push_follower_round.new.ops (follower_ops c.args.side.now c.args.messages.now) i count more c.loop-i.invariant made

pub returns : goal.returns
returns c =
    let count = round_count c.args.messages.now in
    let done : count ≤ c.loop-i.i = search rules in
    no_round (follower_round c.args.side.now c.args.messages.now) c.loop-i.ops (follower_ops c.args.side.now c.args.messages.now) c.loop-i.i count done c.loop-i.invariant
