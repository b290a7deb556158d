-- Each region's runs stand behind those of the regions that precede it.
use Rattle.std.proofs.Common.{◌+◌, List, ◌++◌, take, sym, ap, ◌∙◌, subst}
use Rattle.std.specs.Prelude.{All}
use Rattle.std.specs.List.Sorted.{IsPermutation, IsNonDecreasingBy}
use Rattle.std.proofs.lemmas.List.{take_all}
use Rattle.std.proofs.lemmas.List.Sorted.{All-permutation}
use Rattle.jh_num.specs.Bytes.{has_byte}
use Rattle.jh_cellcfg.specs.declared.region.Region.{Region}
use Rattle.jh_cellcfg.specs.Regions.{IsEmptyOrInRange}
use Rattle.jh_map.specs.declared.run.Run.{Run}
use Rattle.jh_map.specs.Maps.{IsMap}
use Rattle.jh_map.proofs.MapLemmas.{more_map, moved_map}
use Rattle.jh_map.proofs.map.map_of.Goals as goal

pub runs_of-requires : goal.runs_of-requires
runs_of-requires c =
    let P : Region → Type 0 = IsEmptyOrInRange in
    let Q : List Region → Type 0 = λ xs. All P xs in
    let all = subst Q (sym c.as_slice-region-items.ensures.value) (All-permutation P c.args.regions.now c.in_ok-sorted.sorted.items c.in_ok-sorted.ensures.moved c.requires.within) in
    record { within = all c.loop-region.region-index (record { phys_start = 0; virt_start = 0; size = 0; flags = 0 }) c.loop-region-test.true }

pub loop-region-preserved : goal.loop-region-preserved
loop-region-preserved c =
    let closed = has_byte c.args.closed.now.ranges in
    let k = c.loop-region.region-index in
    let sorted = c.as_slice-region-items.result.now in
    let d : Region = record { phys_start = 0; virt_start = 0; size = 0; flags = 0 } in
    let M : List Region → Type 0 = λ xs. IsPermutation c.args.regions.now xs in
    let S : List Region → Type 0 = λ xs. IsNonDecreasingBy (λ (r : Region). r.virt_start) xs in
    let P : List Run → Type 0 = λ xs. IsMap closed (take (k + 1) sorted) xs in
    let items = c.in_ok-extend_from_slice.ensures.items ∙ ap (λ xs. c.loop-region.runs.items ++ xs) c.as_slice.ensures.value in
    subst P (sym items)
    (more_map closed c.args.regions.now sorted k d c.loop-region.runs.items c.in_ok-more.more.items
    (subst M (sym c.as_slice-region-items.ensures.value) c.in_ok-sorted.ensures.moved)
    (subst S (sym c.as_slice-region-items.ensures.value) c.in_ok-sorted.ensures.sorted)
    c.requires.apart c.loop-region-test.true c.loop-region.invariant (c.in_ok-more.ensures closed c.in_ok-free.ensures))

pub returns : goal.returns
returns c =
    let closed = has_byte c.args.closed.now.ranges in
    let P : List Run → Type 0 = λ xs. IsMap closed c.args.regions.now xs in
    let Q : List Region → Type 0 = λ xs. IsMap closed xs c.loop-region.runs.items in
    let whole = take_all c.loop-region.region-index c.as_slice-region-items.result.now c.loop-region-test.false ∙ c.as_slice-region-items.ensures.value in
    subst P (sym c.from_vec.ensures) (moved_map closed c.args.regions.now c.in_ok-sorted.sorted.items c.loop-region.runs.items c.in_ok-sorted.ensures.moved (subst Q whole c.loop-region.invariant))
