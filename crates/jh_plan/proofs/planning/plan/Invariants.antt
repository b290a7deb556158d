-- The cells so far meet the demands so far, and their pages are counted and suffice.
use Rattle.std.proofs.Common.{◌≡◌, ◌≤◌, [], length, take, sum_by}
use Rattle.jh_shape.specs.Pages.{own_pages}
use Rattle.jh_history.specs.Admitted.{pool_pages}
use Rattle.jh_plan.specs.Plans.{pages_with, ArePlanned}
use Rattle.jh_plan.proofs.planning.plan.Given as goal

abbrev pub invariant-loop-demand : goal.invariant-loop-demand
invariant-loop-demand l = record {
  count : length l.cells ≡ l.demand-index;
  planned : ArePlanned l.system [] (take l.demand-index l.demands) l.cells;
  taken : l.taken ≡ sum_by own_pages l.cells;
  room : pages_with l.system l.cells ≤ pool_pages l.system;
}
