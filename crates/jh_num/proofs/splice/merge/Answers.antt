-- The last range that is still to be read is put before what is merged.
use Rattle.std.proofs.Common.{◌≡◌, ℕ, ◌+◌, ◌-◌, ◌<◌, ◌≤◌, List, length, get_or, take, ap, subst, ◌∙◌, arith}
use Rattle.std.specs.Prelude.{vec_len}
use Rattle.jh_num.specs.declared.range.Range.{Range}
use Rattle.jh_num.proofs.SearchLemmas.{ends_rise}
use Rattle.jh_num.proofs.MergeLemmas.{Merges, Puts, swapped, stepped, own_some, own_end, still_unread, reads}
use Rattle.jh_num.proofs.splice.merge.Goals as goal

-- the first ranges
abbrev firsts : List Range → ℕ → List Range → List Range
firsts items len others = take (len - length others) items

pub put_before-at-requires-clause-some : goal.put_before-at-requires-clause-some
put_before-at-requires-clause-some c =
    let xs = firsts c.args.ranges.now.items (vec_len c.args.ranges.now) c.args.others.now in
    let k = c.some_left.i - 1 in
    let x = c.index-next.result.now in
    let bound = c.some_left.invariant.merges.i_bound in
    let some : 0 < c.some_left.i = c.ends_last.ensures.first c.if-ends_last.true in
    own_some xs k x c.requires.apart (omega arith)
    (c.index-next.ensures ∙ reads xs c.some_left.ranges.items c.some_left.i k x (omega arith) c.some_left.invariant.unread)

pub put_before-at-requires-clause-last : goal.put_before-at-requires-clause-last
put_before-at-requires-clause-last c = λ d below.
    let xs = firsts c.args.ranges.now.items (vec_len c.args.ranges.now) c.args.others.now in
    let k = c.some_left.i - 1 in
    let x = c.index-next.result.now in
    let bound = c.some_left.invariant.merges.i_bound in
    let some : 0 < c.some_left.i = c.ends_last.ensures.first c.if-ends_last.true in
    let own : x ≡ get_or xs k x = c.index-next.ensures ∙ reads xs c.some_left.ranges.items c.some_left.i k x (omega arith) c.some_left.invariant.unread in
    let end : x.end ≡ (get_or xs k d).end = own_end xs k x d (omega arith) own in
    let len = c.some_left.ranges.ok.0 in
    let ends = c.some_left.invariant.merges.xs_ends k d d (omega arith) (omega arith) in
    omega arith

pub some_left-preserved-then-ends_last : goal.some_left-preserved-then-ends_last
some_left-preserved-then-ends_last c =
    let xs = firsts c.args.ranges.now.items (vec_len c.args.ranges.now) c.args.others.now in
    let ys = c.args.others.now in
    let items = c.some_left.ranges.items in
    let new = c.put_before-at.new.ranges.items in
    let i = c.some_left.i in
    let j = c.some_left.j in
    let k = c.some_left.i - 1 in
    let at = c.some_left.at in
    let x = c.index-next.result.now in
    let m = c.some_left.invariant.merges in
    let put = c.put_before-at.ensures in
    let i_bound = m.i_bound in
    let j_bound = m.j_bound in
    let space = m.space in
    let within = m.within in
    let inside = put.within in
    let len = c.put_before-at.new.ranges.ok.0 in
    let some : 0 < i = c.ends_last.ensures.first c.if-ends_last.true in
    let own : x ≡ get_or xs k x = c.index-next.ensures ∙ reads xs items i k x (omega arith) c.some_left.invariant.unread in
    let whole : i ≡ k + 1 = omega arith in
    let going : Merges xs ys items (k + 1) j at = subst (λ n. Merges xs ys items n j at) whole m in
    let puts : Puts items new at c.put_before-at.result x = record { bytes = put.bytes; apart = put.apart; first = put.first; near = put.near; within = omega arith } in
    record {
      merges = stepped xs ys items new k j at c.put_before-at.result x c.requires.apart going own
          (λ n d less.
          let rise : (get_or ys n d).end ≤ (get_or ys (j - 1) d).end = ends_rise ys c.requires.others n (j - 1) d (omega arith) (omega arith) in
          let later : (get_or ys (j - 1) d).end ≤ (get_or c.as_slice.result.now k d).end = c.ends_last.ensures.later d c.if-ends_last.true (omega arith) in
          let same : (get_or c.as_slice.result.now k d).end ≡ (get_or items k d).end = ap (λ (rs : List Range). (get_or rs k d).end) c.as_slice.ensures.value in
          let end : x.end ≡ (get_or items k d).end = own_end items k x d (omega arith) c.index-next.ensures in
          omega arith)
          puts;
      unread = still_unread xs items new i k (at - 1) (omega arith) (omega arith) c.some_left.invariant.unread put.before;
      len = put.len ∙ c.some_left.invariant.len;
      capacity = put.capacity ∙ c.some_left.invariant.capacity;
    }

pub put_before-at-requires-else-ends_last-clause-some : goal.put_before-at-requires-else-ends_last-clause-some
put_before-at-requires-else-ends_last-clause-some c =
    let bound = c.some_left.invariant.merges.j_bound in
    let some : 0 < c.some_left.j = c.ends_last.ensures.other c.if-ends_last.false in
    own_some c.args.others.now (c.some_left.j - 1) c.index-others-j.result c.requires.others (omega arith) c.index-others-j.is

pub some_left-preserved : goal.some_left-preserved
some_left-preserved c =
    let xs = firsts c.args.ranges.now.items (vec_len c.args.ranges.now) c.args.others.now in
    let ys = c.args.others.now in
    let items = c.some_left.ranges.items in
    let new = c.put_before-at-else-ends_last.new.ranges.items in
    let to = c.put_before-at-else-ends_last.result in
    let i = c.some_left.i in
    let j = c.some_left.j in
    let k = c.some_left.j - 1 in
    let at = c.some_left.at in
    let y = c.index-others-j.result in
    let m = c.some_left.invariant.merges in
    let put = c.put_before-at-else-ends_last.ensures in
    let i_bound = m.i_bound in
    let j_bound = m.j_bound in
    let space = m.space in
    let within = m.within in
    let inside = put.within in
    let len = c.put_before-at-else-ends_last.new.ranges.ok.0 in
    let some : 0 < j = c.ends_last.ensures.other c.if-ends_last.false in
    let whole : j ≡ k + 1 = omega arith in
    let going : Merges xs ys items i (k + 1) at = subst (λ n. Merges xs ys items i n at) whole m in
    let puts : Puts items new at to y = record { bytes = put.bytes; apart = put.apart; first = put.first; near = put.near; within = omega arith } in
    record {
      merges = swapped ys xs new k i to (stepped ys xs items new k i at to y c.requires.others (swapped xs ys items i (k + 1) at going) c.index-others-j.is
          (λ n d less.
          let rise : (get_or xs n d).end ≤ (get_or xs (i - 1) d).end = ends_rise xs c.requires.apart n (i - 1) d (omega arith) (omega arith) in
          let own : (get_or items (i - 1) d).end ≡ (get_or xs (i - 1) d).end = ap (λ (r : Range). r.end) (reads xs items i (i - 1) d (omega arith) c.some_left.invariant.unread) in
          let earlier : (get_or c.as_slice.result.now (i - 1) d).end ≤ (get_or ys k d).end = c.ends_last.ensures.earlier d c.if-ends_last.false (omega arith) in
          let same : (get_or c.as_slice.result.now (i - 1) d).end ≡ (get_or items (i - 1) d).end = ap (λ (rs : List Range). (get_or rs (i - 1) d).end) c.as_slice.ensures.value in
          let end : y.end ≡ (get_or ys k d).end = own_end ys k y d (omega arith) c.index-others-j.is in
          omega arith)
          puts);
      unread = still_unread xs items new i i (at - 1) (omega arith) (omega arith) c.some_left.invariant.unread put.before;
      len = put.len ∙ c.some_left.invariant.len;
      capacity = put.capacity ∙ c.some_left.invariant.capacity;
    }
