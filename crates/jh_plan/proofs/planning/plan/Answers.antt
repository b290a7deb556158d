-- One more cell meets one more demand, or the demand is the first that isn't met.
use Rattle.std.proofs.Common.{◌≡◌, ◌≤◌, ◌++◌, List, [], ◌∷◌, length, length-append, sum_by, rules, arith, sym, subst, ap, get_or}
use Rattle.std.proofs.lemmas.List.Sums.{sum_by_push}
use Rattle.jh_num.proofs.Public.{passed_up}
use Rattle.jh_cellcfg.specs.declared.config.CellConfig.{CellConfig}
use Rattle.jh_shape.specs.Pages.{own_pages}
use Rattle.jh_history.specs.Admitted.{pool_pages}
use Rattle.jh_plan.specs.Plans.{pages_with, IsCause, Plans}
use Rattle.jh_plan.specs.Private.Unmet.{IsUnmet}
use Rattle.jh_plan.proofs.PlanLemmas.{cause_at, planned_next}
use Rattle.jh_plan.proofs.planning.plan.Goals as goal

pub returns-in_err-cell-clause-unmet : goal.returns-in_err-cell-clause-unmet
returns-in_err-cell-clause-unmet c =
    let system = c.args.system.now in
    let demands = c.args.demands.now in
    let loop = c.loop-demand in
    let demand = c.demand-item.result in
    let fault = c.in_err-cell.field-0.0 in
    let at : get_or demands loop.demand-index demand ≡ demand = search rules in
    let unmet : IsUnmet system loop.cells demand fault = search rules in
    passed_up c.from_residual.result fault (IsCause system demands) c.from_residual.ensures.1
    (cause_at system demands loop.cells loop.demand-index demand fault c.loop-demand-test.true at loop.invariant.count loop.invariant.planned unmet)

pub loop-demand-preserved : goal.loop-demand-preserved
loop-demand-preserved c =
    let system = c.args.system.now in
    let demands = c.args.demands.now in
    let loop = c.loop-demand in
    let demand = c.demand-item.result in
    let cell = c.in_ok-cell.cell in
    let at : get_or demands loop.demand-index demand ≡ demand = search rules in
    let met : Plans system loop.cells demand cell = search rules in
    let push : c.push.new.self ≡ loop.cells ++ cell ∷ [] = c.in_ok-push.ensures.ok in
    let own : c.cell_pages-taken.result ≡ own_pages cell = c.cell_pages-taken.ensures.value in
    let Room : List CellConfig → Type 0 = λ cells. pages_with system cells ≤ pool_pages system in
    record {
      count = omega (arith, ap length push, length-append loop.cells (cell ∷ []), loop.invariant.count);
      planned = planned_next system demands loop.cells c.push.new.self loop.demand-index demand cell c.loop-demand-test.true at loop.invariant.planned met push;
      taken = omega (arith, loop.invariant.taken, own, sum_by_push own_pages loop.cells cell, ap (sum_by own_pages) push);
      room = subst Room (sym push) met.pages;
    }
