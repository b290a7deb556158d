-- The invariant of the records says it of root and the configurations.
use Rattle.std.proofs.Common.{◌≡◌, ◌∷◌, List, length, AllPairs, sym, ap, subst, arith}
use Rattle.jh_shape.proofs.Public.{configs_joined, length_joined}
use Rattle.jh_cellcfg.specs.declared.config.CellConfig.{CellConfig}
use Rattle.jh_check.specs.Refusals.{AreTwo}
use Rattle.jh_life.specs.Lives.{numbered_cells}
use Rattle.jh_life.proofs.cells.live_cells_differ.Goals as goal

pub returns-clause-differ : goal.returns-clause-differ
returns-clause-differ c =
    let root = c.cells.inside.system.root in
    let configs = c.cells.inside.configs.items in
    let all : numbered_cells c.args.cells.now ≡ root ∷ configs = rw (← c.cells.view_is) (ap (λ (l : List CellConfig). root ∷ l) (configs_joined configs c.cells.inside.marks.items c.cells.invariant.even)) in
    subst (λ (l : List CellConfig). AllPairs AreTwo l) (sym all) c.cells.invariant.differ

pub returns-clause-few : goal.returns-clause-few
returns-clause-few c =
    let lives : length c.args.cells.now.lives ≡ length c.cells.inside.configs.items = rw (← c.cells.view_is) (length_joined c.cells.inside.configs.items c.cells.inside.marks.items c.cells.invariant.even) in
    let few = c.cells.invariant.few in
    omega arith
