-- Of the ranges that meet the one that goes, what sticks out on either side is left.
use Rattle.std.proofs.Common.{ℕ, ◌+◌, ◌-◌, ◌≤◌, ◌<◌, List, length, get_or, arith, sym, refl, subst}
use Rattle.jh_num.specs.declared.range.Range.{Range}
use Rattle.jh_num.specs.Bytes.{AreApart}
use Rattle.jh_num.proofs.RemoveLemmas.{Removed, Cuts, removed_cut, removed_none}
use Rattle.jh_num.proofs.byte_set.ByteSet.remove.Goals as goal

cuts : (xs : List Range) (r : Range) (at upto : ℕ) → AreApart xs → r.start < r.end → at ≤ length xs → upto ≤ length xs → ((k : ℕ) (d : Range) → k < at → (get_or xs k d).end < r.start + 1) → ((d : Range) → at < length xs → r.start + 1 ≤ (get_or xs at d).end) → ((k : ℕ) (d : Range) → k < upto → (get_or xs k d).start ≤ r.end - 1) → ((d : Range) → upto < length xs → r.end - 1 < (get_or xs upto d).start) → Cuts xs r at upto
cuts xs r at upto apart some at_bound upto_bound before at_end by upto_start =
    record {
      apart = apart;
      some = some;
      at_bound = at_bound;
      upto_bound = upto_bound;
      before = λ k d l. let e = before k d l in omega arith;
      at_end = λ d l. let e = at_end d l in omega arith;
      by = λ k d l. let e = by k d l in omega arith;
      upto_start = λ d l. let e = upto_start d l in omega arith;
    }

pub returns-then-at-upto-clause-bytes : goal.returns-then-at-upto-clause-bytes
returns-then-at-upto-clause-bytes c =
    let e = c.as_slice.ensures.value in
    let f = c.as_slice-2.ensures.value in
    let some : c.args.r.start < c.args.r.end = let o = c.args.r.ordered in let n = c.if-r.false in omega arith in
    let h : Cuts c.self.inside.ranges.items c.args.r c.ending_before-at.result c.starting_by-upto.result =
    cuts _ _ _ _ c.self.invariant some (rw e at c.ending_before-at.ensures.bound) (rw f at c.starting_by-upto.ensures.bound) (rw e at c.ending_before-at.ensures.before) (rw e at c.ending_before-at.ensures.at) (rw f at c.starting_by-upto.ensures.before) (rw f at c.starting_by-upto.ensures.at) in
    rw (← c.self.view_is) (removed_none _ _ _ _ h c.if-at-upto.true)

removed : (c : goal.In_ok-cut) → Removed c.self.inside.ranges.items c.cut.new.ranges.items c.args.r
removed c =
    let e = c.as_slice.ensures.value in
    let f = c.as_slice-2.ensures.value in
    let some : c.args.r.start < c.args.r.end = let o = c.args.r.ordered in let n = c.if-r.false in omega arith in
    let h : Cuts c.self.inside.ranges.items c.args.r c.ending_before-at.result c.starting_by-upto.result =
    cuts _ _ _ _ c.self.invariant some (rw e at c.ending_before-at.ensures.bound) (rw f at c.starting_by-upto.ensures.bound) (rw e at c.ending_before-at.ensures.before) (rw e at c.ending_before-at.ensures.at) (rw f at c.starting_by-upto.ensures.before) (rw f at c.starting_by-upto.ensures.at) in
    let P : List Range → Type 0 = λ ys. Removed c.self.inside.ranges.items ys c.args.r in
    subst P (sym c.in_ok-cut.ensures.ok)
    (removed_cut _ _ _ _ c.index.result.now c.index-2.result.now c.ending_before-at.result c.starting_by-upto.result (c.starting_by-upto.result - 1) h
    (record { some = c.if-at-upto.false; last_is = (let t = c.if-at-upto.false in omega arith); first = c.index.ensures; final = c.index-2.ensures; left_start = c.min-start.ensures; left_end = refl; right_start = refl; right_end = c.max-end.ensures }))

pub invariant_of-self-2 : goal.invariant_of-self-2
invariant_of-self-2 c = (removed c).apart

pub returns-clause-bytes : goal.returns-clause-bytes
returns-clause-bytes c = rw (← c.self.view_is) (removed c).bytes

pub returns-clause-apart : goal.returns-clause-apart
returns-clause-apart c = (removed c).apart
