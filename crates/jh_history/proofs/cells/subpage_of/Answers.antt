-- The region that takes the access is the first that does.
use Rattle.std.proofs.Common.{◌≡◌, ℕ, ◌+◌, Bool, true, List, Some, cond, drop, get_or, ap, sym, ◌∙◌}
use Rattle.std.specs.Prelude.{find}
use Rattle.std.proofs.lemmas.List.{drop_more}
use Rattle.jh_cellcfg.specs.declared.region.Region.{Region}
use Rattle.jh_mmio.specs.Dispatch.{takes_all}
use Rattle.jh_history.specs.declared.place.Place.TheVariants.{Physical}
use Rattle.jh_history.specs.Grants.{is_closed_to}
use Rattle.jh_history.proofs.cells.subpage_of.Goals as goal

pub returns-then-takes_all-clause-found : goal.returns-then-takes_all-clause-found
returns-then-takes_all-clause-found c =
    let p : Region → Bool = takes_all (λ q. is_closed_to c.args.image.now c.args.cells.now c.args.cell (Physical q)) c.args.wanted.now.at c.args.wanted.now.width in
    let xs : List Region = c.regions_in-regions.result.now in
    let i : ℕ = c.loop-region.region-index in
    let past : Region = record { phys_start = 0; virt_start = 0; size = 0; flags = 0 } in
    let x : Region = get_or xs i past in
    let passes : p x ≡ true = sym c.takes_all.ensures.takes ∙ c.if-takes_all.true in
    let here : find p (drop i xs) ≡ Some x = ap (find p) (drop_more xs i past c.loop-region-test.true) ∙ ap (λ (b : Bool). cond b (Some x) (find p (drop (i + 1) xs))) passes in
    sym here ∙ c.loop-region.invariant ∙ ap (find p) (c.regions_in-regions.ensures.regions c.args.cells.now (sym c.configs.ensures))
