-- A communication region is one run; of any other the open places are the runs.
use Rattle.std.proofs.Common.{◌≤◌, List, [], ◌∷◌, map, sym, ap, ◌∙◌, subst, arith}
use Rattle.std.specs.Prelude.{All}
use Rattle.jh_num.specs.declared.range.Range.{Range}
use Rattle.jh_cellcfg.specs.Regions.{phys_end}
use Rattle.jh_map.specs.declared.run.Run.{Run}
use Rattle.jh_map.specs.Maps.{IsMap}
use Rattle.jh_map.specs.Private.Places.{run_to}
use Rattle.jh_map.proofs.RunLemmas.{whole_map, own_ranges, left_from, ranges_map}
use Rattle.jh_map.proofs.map.runs_of.Goals as goal

pub returns-then-is_comm : goal.returns-then-is_comm
returns-then-is_comm c closed free =
    let P : List Run → Type 0 = λ xs. IsMap closed (c.args.region.now ∷ []) xs in
    subst P (sym c.in_ok-vec.ensures.items) (whole_map closed c.args.region.now c.whole_page.result (c.whole_page.ensures.run closed) c.whole_page.ensures.start c.whole_page.ensures.end)

pub runs_to_places-requires-clause-own : goal.runs_to_places-requires-clause-own
runs_to_places-requires-clause-own c =
    let P : List Range → Type 0 = λ xs. All (λ (x : Range). (c.args.region.now.phys_start ≤ x.start) × (x.end ≤ phys_end c.args.region.now)) xs in
    subst P (sym c.ranges-2.ensures.ranges) (own_ranges c.args.region.now c.args.free.now.ranges c.in_ok-left.left.ranges c.in_ok-left.ensures.apart c.in_ok-left.ensures.bytes)

pub returns : goal.returns
returns c closed free =
    let P : List Run → Type 0 = λ xs. IsMap closed (c.args.region.now ∷ []) xs in
    let items = c.in_ok-runs_to_places.ensures ∙ ap (map (run_to c.args.region.now)) c.ranges-2.ensures.ranges in
    subst P (sym items)
    (ranges_map closed c.args.region.now c.in_ok-left.left.ranges
    (left_from closed c.args.region.now c.args.free.now.ranges c.in_ok-left.left.ranges (c.requires.within (omega (arith, c.if-region-eq0.false))) (sym c.if-is_comm.ensures) free c.in_ok-left.ensures.apart c.in_ok-left.ensures.bytes)
    (own_ranges c.args.region.now c.args.free.now.ranges c.in_ok-left.left.ranges c.in_ok-left.ensures.apart c.in_ok-left.ensures.bytes))
