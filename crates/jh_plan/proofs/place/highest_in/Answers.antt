-- Where memory is met the next place down is tried; the first place that meets none is the greatest.
use Rattle.std.proofs.Common.{◌≡◌, ◌<◌, ℕ, Option, Some, None, rules, arith, sym, subst}
use Rattle.jh_plan.specs.Places.{bytes_at}
use Rattle.jh_plan.specs.Private.Searches.{IsAtMost, IsLast}
use Rattle.jh_plan.proofs.PlaceLemmas.{begins_before, met_none, met_of, none_below, still_highest}
use Rattle.jh_plan.proofs.place.highest_in.Goals as goal

pub returns-in_default-clause-free : goal.returns-in_default-clause-free
returns-in_default-clause-free c =
    let bytes = bytes_at c.loop-place.place c.args.size in
    let none : met_of bytes c.args.cells.now ≡ None = search rules in
    record {
      aligned = c.loop-place.invariant.aligned;
      begins = c.loop-place-test.true;
      ends = c.loop-place.invariant.ends;
      free = met_none bytes c.args.cells.now none;
    }

pub returns-in_err-place-2-clause-highest : goal.returns-in_err-place-2-clause-highest
returns-in_err-place-2-clause-highest c =
    let taken = c.in-Some.taken.now in
    let met : met_of (bytes_at c.loop-place.place c.args.size) c.args.cells.now ≡ Some taken = search rules in
    let short : taken.phys_start < c.args.size = search rules in
    let none : c.from_residual-in_err-place-2.result ≡ None = search rules in
    λ other free.
    let Most : Option ℕ → Type 0 = λ best. IsAtMost best other in
    subst Most (sym none) (none_below c.args.room.now taken c.args.cells.now c.args.size c.loop-place.place met short c.loop-place.invariant.highest other free)

pub loop-place-smaller : goal.loop-place-smaller
loop-place-smaller c =
    let taken = c.in-Some.taken.now in
    let met : met_of (bytes_at c.loop-place.place c.args.size) c.args.cells.now ≡ Some taken = search rules in
    let last : IsLast taken.phys_start c.args.size c.in_ok-place-2.place = search rules in
    omega (arith, last.ends, begins_before taken c.args.cells.now c.args.size c.loop-place.place met)

pub loop-place-preserved : goal.loop-place-preserved
loop-place-preserved c =
    let taken = c.in-Some.taken.now in
    let met : met_of (bytes_at c.loop-place.place c.args.size) c.args.cells.now ≡ Some taken = search rules in
    let last : IsLast taken.phys_start c.args.size c.in_ok-place-2.place = search rules in
    record {
      aligned = last.aligned;
      ends = omega (arith, last.ends, begins_before taken c.args.cells.now c.args.size c.loop-place.place met, c.loop-place.invariant.ends);
      highest = still_highest c.args.room.now taken c.args.cells.now c.args.size c.loop-place.place c.in_ok-place-2.place met last c.loop-place.invariant.highest;
    }
