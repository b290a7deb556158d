-- Part by part.
use Rattle.std.proofs.Common.{◌≡◌, List, [], ◌∷◌, ◌++◌, rules, ap, ◌∙◌}
use Rattle.jh_script.specs.declared.op.Op.{Op}
use Rattle.jh_script.specs.declared.op.Op.TheVariants.{Await, Hvc}
use Rattle.jh_talk.specs.Programs.{setup_ops}
use Rattle.jh_talk.proofs.program.leader_start.Goals as goal

pub returns : goal.returns
returns c =
    let setup = setup_ops c.args.side.now in
    let wait : List Op = Await 4 c.args.state 1 ∷ [] in
    let one : c.push_all.new.ops ≡ Hvc 1 c.args.place 0 ∷ Hvc 2 c.args.id 0 ∷ [] = search rules in
    let two : c.push_all-2.new.ops ≡ c.push_all.new.ops ++ setup = search rules in
    let three : c.push.new.self ≡ c.push_all-2.new.ops ++ wait = search rules in
    three ∙ ap (λ w. w ++ wait) (two ∙ ap (λ w. w ++ setup) one)
