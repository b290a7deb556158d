-- Part by part.
use Rattle.std.proofs.Common.{◌≡◌, List, [], ◌∷◌, ◌++◌, slice_get, rules, ap, ◌∙◌, append_assoc}
use Rattle.jh_script.specs.declared.op.Op.{Op}
use Rattle.jh_script.specs.declared.op.Op.TheVariants.{Irq}
use Rattle.jh_talk.specs.Programs.{tell_ops, hear_ops, ring_op}
use Rattle.jh_talk.proofs.ProgramLemmas.{two_parts}
use Rattle.jh_talk.proofs.program.push_leader_round.Goals as goal

pub returns : goal.returns
returns c =
    let side = c.args.side.now in
    let ops = c.args.ops.now in
    let tell = tell_ops side (slice_get c.args.messages.now.sends c.args.i) in
    let hear = hear_ops side (slice_get c.args.messages.now.replies c.args.i) in
    let ring : List Op = ring_op side ∷ Irq ∷ [] in
    let one : c.push_tell.new.ops ≡ ops ++ tell = search rules in
    let two : c.push_all.new.ops ≡ c.push_tell.new.ops ++ ring = search rules in
    let three : c.push_hear.new.ops ≡ c.push_all.new.ops ++ hear = search rules in
    two_parts ops (tell ++ ring) hear c.push_all.new.ops c.push_hear.new.ops (two_parts ops tell ring c.push_tell.new.ops c.push_all.new.ops one two) three
    ∙ ap (λ w. ops ++ w) (append_assoc tell ring hear)
