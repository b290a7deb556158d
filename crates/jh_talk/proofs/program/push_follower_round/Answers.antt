-- Part by part.
use Rattle.std.proofs.Common.{◌≡◌, List, [], ◌∷◌, ◌++◌, slice_get, rules, ap, ◌∙◌, append_assoc}
use Rattle.jh_script.specs.declared.op.Op.{Op}
use Rattle.jh_script.specs.declared.op.Op.TheVariants.{Irq}
use Rattle.jh_talk.specs.Programs.{tell_ops, hear_ops, ring_op}
use Rattle.jh_talk.proofs.ProgramLemmas.{two_parts}
use Rattle.jh_talk.proofs.program.push_follower_round.Goals as goal

pub returns : goal.returns
returns c =
    let side = c.args.side.now in
    let ops = c.args.ops.now in
    let hear = hear_ops side (slice_get c.args.messages.now.sends c.args.i) in
    let tell = tell_ops side (slice_get c.args.messages.now.replies c.args.i) in
    let ring : List Op = ring_op side ∷ [] in
    let one : c.push.new.self ≡ ops ++ Irq ∷ [] = search rules in
    let two : c.push_hear.new.ops ≡ c.push.new.self ++ hear = search rules in
    let three : c.push_tell.new.ops ≡ c.push_hear.new.ops ++ tell = search rules in
    let four : c.push-2.new.self ≡ c.push_tell.new.ops ++ ring = search rules in
    let heard = two_parts ops (Irq ∷ []) hear c.push.new.self c.push_hear.new.ops one two in
    let told = two_parts ops (Irq ∷ hear) tell c.push_hear.new.ops c.push_tell.new.ops heard three in
    two_parts ops ((Irq ∷ hear) ++ tell) ring c.push_tell.new.ops c.push-2.new.self told four
    ∙ ap (λ w. ops ++ w) (append_assoc (Irq ∷ hear) tell ring)
