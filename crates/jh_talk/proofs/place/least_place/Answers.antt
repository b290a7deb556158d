-- A region that has room joins those so far by where it begins; another is passed.
use Rattle.std.proofs.Common.{◌≡◌, ◌<◌, ◌≤◌, ◌+◌, ℕ, true, false, List, length, get_or, Option, Some, rules, arith, sym, subst, ap, ◌∙◌}
use Rattle.std.specs.Prelude.{IfSome, slice_get}
use Rattle.std.proofs.lemmas.Option.{slice_get-get_or}
use Rattle.jh_cellcfg.specs.declared.region.Region.{Region}
use Rattle.jh_check.specs.Laws.{IsItem}
use Rattle.jh_talk.specs.Places.{IsPlace}
use Rattle.jh_talk.specs.Private.Rooms.{is_room, lesser, IsBest}
use Rattle.jh_talk.proofs.PlaceLemmas.{best_more, best_of_all, best_skipped, is_lesser, place_of_room}
use Rattle.jh_talk.proofs.place.least_place.Goals.{then-is_room, else-is_room}
use Rattle.jh_talk.proofs.place.least_place.Goals as goal

abbrev nowhere : Region
nowhere = record { phys_start = 0; virt_start = 0; size = 0; flags = 0 }

item_of : (regions list : List Region) (number : ℕ) → list ≡ regions → number < length list → slice_get regions number ≡ Some (get_or list number nowhere)
item_of regions list number e below =
    let At : List Region → Type 0 = λ rs. slice_get rs number ≡ Some (get_or list number nowhere) in
    subst At e (slice_get-get_or list number nowhere below)

pub loop-number-preserved : goal.loop-number-preserved
loop-number-preserved c =
    let root = c.args.root.now in
    let count = c.args.count in
    let number = c.loop-number.number in
    let best = c.loop-number.best in
    let before = c.loop-number.invariant in
    let region = get_or c.as_slice-regions.result.now number nowhere in
    let below : number < length c.as_slice-regions.result.now = search rules in
    let item : IsItem root number region = item_of root.memory_regions c.as_slice-regions.result.now number c.as_slice-regions.ensures.value below in
    let Is : Option ℕ → Type 0 = λ b. IfSome b (IsPlace root count) in
    let Best : Option ℕ → Type 0 = λ b. IsBest root count (number + 1) b in
    elim c.if-is_room.branch [
      | then-is_room w ↦
          let room : is_room root count number region ≡ true = sym c.is_room.ensures ∙ w.if-is_room.true in
          let now : c.if-is_room.best ≡ lesser best region.phys_start = w.best-is ∙ w.lesser-best.ensures in
          record {
            is = subst Is (sym now) (is_lesser (IsPlace root count) best region.phys_start before.is (place_of_room root count number region c.requires.some c.requires.sound item room));
            least = subst Best (sym now) (best_more root count number region best item before.least);
          }
      | else-is_room w ↦
          let none : is_room root count number region ≡ false = sym c.is_room.ensures ∙ w.if-is_room.false in
          record {
            is = subst Is (sym w.best-is) before.is;
            least = subst Best (sym w.best-is) (best_skipped root count number region best c.requires.some item before.least none);
          }
    ]

pub returns : goal.returns
returns c =
    let all : length c.args.root.now.memory_regions ≤ c.loop-number.number = omega (arith, ap length c.as_slice-regions.ensures.value, c.as_slice-regions.ensures.len, c.loop-number-test.false) in
    best_of_all c.args.root.now c.args.count c.loop-number.number c.loop-number.best all c.loop-number.invariant.is c.loop-number.invariant.least
