-- Those that are kept are the board's.
use Rattle.std.proofs.Common.{ℕ, List, subst, sym}
use Rattle.std.specs.Prelude.{All, IsTrue}
use Rattle.std.proofs.lemmas.List.Elements.{filter_passes}
use Rattle.jh_history.specs.Lives.{is_on_board}
use Rattle.jh_history.specs.Items.{below}
use Rattle.jh_run.proofs.schedule.cpus_of.Goals as goal

pub returns-clause-present : goal.returns-clause-present
returns-clause-present c =
    let P : List ℕ → Type 0 = λ zs. All (λ cpu. IsTrue (is_on_board c.args.image.now cpu)) zs in
    subst P (sym c.loop-cpu.invariant) (filter_passes (is_on_board c.args.image.now) (below c.loop-cpu.cpu))
