-- The ranges that the new one reaches become one with it; reaching none, it stands between.
use Rattle.std.proofs.Common.{◌-◌, List, arith, ap, sym, subst, ◌∙◌}
use Rattle.jh_num.specs.declared.range.Range.{Range}
use Rattle.jh_num.proofs.InsertLemmas.{Inserted, Reaches, inserted_over, inserted_beside}
use Rattle.jh_num.proofs.byte_set.ByteSet.insert.Goals as goal
use Rattle.jh_num.proofs.byte_set.ByteSet.insert.Goals.{then-at-upto, else-at-upto+in_ok-insert}

reaches : (c : goal.Joined-at-upto) → Reaches c.self.inside.ranges.items c.args.r c.ending_before-at.result c.starting_by-upto.result
reaches c =
    let e = c.as_slice.ensures.value in
    let f = c.as_slice-2.ensures.value in
    record {
      apart = c.self.invariant;
      some = (let o = c.args.r.ordered in let n = c.if-r.false in omega arith);
      at_bound = rw e at c.ending_before-at.ensures.bound;
      upto_bound = rw f at c.starting_by-upto.ensures.bound;
      before = rw e at c.ending_before-at.ensures.before;
      at_end = rw e at c.ending_before-at.ensures.at;
      by = rw f at c.starting_by-upto.ensures.before;
      upto_start = rw f at c.starting_by-upto.ensures.at;
    }

inserted : (c : goal.Joined-at-upto) → Inserted c.self.inside.ranges.items c.if-at-upto.self-inside.ranges.items c.args.r
inserted c =
    let xs = c.self.inside.ranges.items in
    let P : List Range → Type 0 = λ ys. Inserted xs ys c.args.r in
    elim c.if-at-upto.branch [
      | then-at-upto w ↦
          subst P (sym (ap (λ s. s.ranges.items) w.self-inside-is ∙ w.replace.ensures.items))
          (inserted_over xs c.args.r _ w.index.result.now w.index-then-at-upto.result.now c.ending_before-at.result c.starting_by-upto.result (c.starting_by-upto.result - 1) (reaches c)
          (record { some = w.if-at-upto.true; last_is = (let t = w.if-at-upto.true in omega arith); first = w.index.ensures; final = w.index-then-at-upto.ensures; start = w.min-start.ensures; end = w.max-end.ensures }))
      | else-at-upto+in_ok-insert w ↦
          subst P (sym (ap (λ s. s.ranges.items) w.self-inside-is ∙ w.in_ok-insert.ensures.items))
          (inserted_beside xs c.args.r c.ending_before-at.result c.starting_by-upto.result (reaches c) w.if-at-upto.false)
    ]

pub invariant_of-self-2 : goal.invariant_of-self-2
invariant_of-self-2 c = (inserted c).apart

pub returns-clause-bytes : goal.returns-clause-bytes
returns-clause-bytes c = rw (← c.self.view_is) (inserted c).bytes

pub returns-clause-apart : goal.returns-clause-apart
returns-clause-apart c = (inserted c).apart
