-- The starts rise, so that no range starts after the last one does.
use Rattle.std.proofs.Common.{rules, ◌≡◌, ◌+◌, ◌≤◌, length, get_or, arith}
use Rattle.std.proofs.lemmas.Bool.{leb-true}
use Rattle.std.proofs.lemmas.List.{get_or_default}
use Rattle.jh_num.proofs.SearchLemmas.{starts_rise}
use Rattle.jh_num.proofs.splice.all_start_by.Goals as goal

pub returns-in-Some : goal.returns-in-Some
returns-in-Some c = λ h k d within.
    let xs = c.args.ranges.now in
    let last = c.in-Some.last in
    let long : last + 1 ≡ length xs = search rules in
    let same : get_or xs last c.index-ranges-last.result ≡ get_or xs last d = get_or_default xs last c.index-ranges-last.result d (omega arith) in
    let rise : (get_or xs k d).start ≤ (get_or xs last d).start = starts_rise xs c.requires k last d (omega arith) (omega arith) in
    let low : (get_or xs last d).start ≤ c.args.limit = rw (← same) (leb-true _ _ h) in
    omega arith
