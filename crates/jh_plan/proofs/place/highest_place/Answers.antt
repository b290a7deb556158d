-- A region that has room joins those so far by its greatest free place; another is passed.
use Rattle.std.proofs.Common.{◌≡◌, ◌<◌, ◌≤◌, ◌+◌, ℕ, true, false, List, length, get_or, Option, Some, rules, arith, sym, subst, ap, ◌∙◌}
use Rattle.std.specs.Prelude.{IfSome, slice_get}
use Rattle.std.specs.List.{All}
use Rattle.std.proofs.lemmas.Option.{slice_get-get_or}
use Rattle.jh_cellcfg.specs.declared.region.Region.{Region}
use Rattle.jh_check.specs.Laws.{IsItem}
use Rattle.jh_plan.specs.Places.{is_room, IsFreePlace}
use Rattle.jh_plan.specs.Private.Searches.{EndsWithin, greater}
use Rattle.jh_plan.proofs.PlaceLemmas.{AreBelow, best_more, best_of_all, best_skipped, free_greater, free_of}
use Rattle.jh_plan.proofs.place.highest_place.Goals.{then-is_room, else-is_room}
use Rattle.jh_plan.proofs.place.highest_place.Goals as goal

abbrev nowhere : Region
nowhere = record { phys_start = 0; virt_start = 0; size = 0; flags = 0 }

item_of : (regions list : List Region) (number : ℕ) → list ≡ regions → number < length list → slice_get regions number ≡ Some (get_or list number nowhere)
item_of regions list number e below =
    let At : List Region → Type 0 = λ rs. slice_get rs number ≡ Some (get_or list number nowhere) in
    subst At e (slice_get-get_or list number nowhere below)

pub highest_in-requires-clause-within : goal.highest_in-requires-clause-within
highest_in-requires-clause-within c =
    let Ends : List Region → Type 0 = λ rs. All EndsWithin rs in
    let below : c.loop-number.number < length c.as_slice-regions.result.now = search rules in
    let ends = subst Ends (sym c.as_slice-regions.ensures.value) c.requires.within in
    ends c.loop-number.number nowhere below

pub loop-number-preserved : goal.loop-number-preserved
loop-number-preserved c =
    let root = c.args.root.now in
    let cells = c.args.cells.now in
    let size = c.args.size in
    let number = c.loop-number.number in
    let best = c.loop-number.best in
    let before = c.loop-number.invariant in
    let region = get_or c.as_slice-regions.result.now number nowhere in
    let below : number < length c.as_slice-regions.result.now = search rules in
    let item : IsItem root number region = item_of root.memory_regions c.as_slice-regions.result.now number c.as_slice-regions.ensures.value below in
    let Free : Option ℕ → Type 0 = λ b. IfSome b (IsFreePlace root cells size) in
    let Below : Option ℕ → Type 0 = λ b. AreBelow root cells size (number + 1) b in
    elim c.if-is_room.branch [
      | then-is_room w ↦
          let next = w.highest_in.result in
          let room : is_room root number region ≡ true = sym c.is_room.ensures ∙ w.if-is_room.true in
          let now : c.if-is_room.best ≡ greater best next = w.best-is ∙ w.greater-best.ensures in
          record {
            free = subst Free (sym now) (free_greater (IsFreePlace root cells size) best next before.free (free_of root cells size number region next item room w.highest_in.ensures.free));
            below = subst Below (sym now) (best_more root cells size number region best next item before.below w.highest_in.ensures.highest);
          }
      | else-is_room w ↦
          let none : is_room root number region ≡ false = sym c.is_room.ensures ∙ w.if-is_room.false in
          record {
            free = subst Free (sym w.best-is) before.free;
            below = subst Below (sym w.best-is) (best_skipped root cells size number region best item before.below none);
          }
    ]

pub returns : goal.returns
returns c =
    let all : length c.args.root.now.memory_regions ≤ c.loop-number.number = omega (arith, ap length c.as_slice-regions.ensures.value, c.as_slice-regions.ensures.len, c.loop-number-test.false) in
    best_of_all c.args.root.now c.args.cells.now c.args.size c.loop-number.number c.loop-number.best all c.loop-number.invariant.free c.loop-number.invariant.below
