-- Each CPU was spare, and the place free.
use Rattle.jh_plan.proofs.FitLemmas.{above_lowest, cpu_alone, of_root, place_alone}
use Rattle.jh_plan.proofs.laws.cells_that_fit_are_apart.Goals as goal

pub returns : goal.returns
returns c = record {
  root = of_root c.args._root.now;
  lowest = above_lowest c.args._root.now;
  cpus = cpu_alone c.args._root.now;
  places = place_alone c.args._root.now;
}
