-- One mark is replaced in its place, so that configurations and marks pair up as before.
use Rattle.std.proofs.Common.{◌≡◌, ◌-◌, Bool, List, length, set, vec_len, rules, sym, ap, ◌∙◌, arith}
use Rattle.std.proofs.lemmas.List.{length-set}
use Rattle.jh_shape.proofs.Public.{configs_joined, length_joined}
use Rattle.jh_life.proofs.JoinedLemmas.{marks_joined}
use Rattle.jh_life.proofs.cells.Cells.set_loadable.Goals as goal

pub index_mut-requires : goal.index_mut-requires
index_mut-requires c =
    let len : vec_len c.self.inside.marks ≡ length c.self.inside.marks.items = search rules in
    let lives : length c.args.self.now.lives ≡ length c.self.inside.configs.items = rw (← c.self.view_is) (length_joined c.self.inside.configs.items c.self.inside.marks.items c.self.invariant.even) in
    omega arith

pub returns-clause-list : goal.returns-clause-list
returns-clause-list c =
    let configs = c.self.inside.configs.items in
    let marks = c.self.inside.marks.items in
    let even : length (set marks (c.args.number - 1) c.args.on) ≡ length configs = length-set marks (c.args.number - 1) c.args.on ∙ c.self.invariant.even in
    rw (← c.self.view_is) (configs_joined configs (set marks (c.args.number - 1) c.args.on) even ∙ sym (configs_joined configs marks c.self.invariant.even))

pub returns-clause-marks : goal.returns-clause-marks
returns-clause-marks c =
    let configs = c.self.inside.configs.items in
    let marks = c.self.inside.marks.items in
    let even : length (set marks (c.args.number - 1) c.args.on) ≡ length configs = length-set marks (c.args.number - 1) c.args.on ∙ c.self.invariant.even in
    rw (← c.self.view_is)
    (marks_joined configs (set marks (c.args.number - 1) c.args.on) even
    ∙ ap (λ (l : List Bool). set l (c.args.number - 1) c.args.on) (sym (marks_joined configs marks c.self.invariant.even)))
