-- A list of 64 loses its first, a shorter one nothing.
use Rattle.std.proofs.Common.{◌≡◌, ◌≤◌, length, rules, sym, ◌∙◌}
use Rattle.jh_cache.proofs.ListLemmas.{newest_full, newest_few}
use Rattle.jh_cache.proofs.cpu_cache.drop_oldest.Goals as goal

pub returns-then-len-eq-HELD-clause-items : goal.returns-then-len-eq-HELD-clause-items
returns-then-len-eq-HELD-clause-items c =
    let full : length c.args.list.now.items ≡ 64 = search rules in
    c.pop_front.ensures.rest ∙ newest_full c.args.list.now.items full

pub returns-else-len-eq-HELD-clause-items : goal.returns-else-len-eq-HELD-clause-items
returns-else-len-eq-HELD-clause-items c =
    let few : length c.args.list.now.items ≤ 63 = search rules in
    sym (newest_few c.args.list.now.items few)
