-- Part by part.
use Rattle.std.proofs.Common.{◌≡◌, ◌+◌, List, [], ◌∷◌, ◌++◌, rules, ap, ◌∙◌}
use Rattle.jh_script.specs.declared.op.Op.{Op}
use Rattle.jh_script.specs.declared.op.Op.TheVariants.{Write}
use Rattle.jh_talk.specs.Programs.{setup_ops}
use Rattle.jh_talk.proofs.program.follower_start.Goals as goal

pub returns : goal.returns
returns c =
    let state : List Op = Write 4 (c.args.side.now.window + 0x10) 0x1 ∷ [] in
    let one : c.push_all.new.ops ≡ setup_ops c.args.side.now = search rules in
    let two : c.push.new.self ≡ c.push_all.new.ops ++ state = search rules in
    two ∙ ap (λ w. w ++ state) one
