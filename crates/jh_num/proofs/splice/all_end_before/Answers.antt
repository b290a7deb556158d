-- The ends rise, so that the end of the last range is the greatest.
use Rattle.std.proofs.Common.{rules, ◌≡◌, ◌+◌, ◌<◌, ◌≤◌, length, get_or, arith}
use Rattle.std.proofs.lemmas.Bool.{ltb-true}
use Rattle.std.proofs.lemmas.List.{get_or_default}
use Rattle.jh_num.proofs.SearchLemmas.{ends_rise}
use Rattle.jh_num.proofs.splice.all_end_before.Goals as goal

pub returns-in-Some : goal.returns-in-Some
returns-in-Some c = λ h k d within.
    let xs = c.args.ranges.now in
    let last = c.in-Some.last in
    let long : last + 1 ≡ length xs = search rules in
    let same : get_or xs last c.index-ranges-last.result ≡ get_or xs last d = get_or_default xs last c.index-ranges-last.result d (omega arith) in
    let rise : (get_or xs k d).end ≤ (get_or xs last d).end = ends_rise xs c.requires k last d (omega arith) (omega arith) in
    let low : (get_or xs last d).end < c.args.limit = rw (← same) (ltb-true _ _ h) in
    omega arith
