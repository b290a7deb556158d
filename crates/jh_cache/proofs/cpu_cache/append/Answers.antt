-- The list has room.
use Rattle.std.specs.VecDeque.{deque_capacity, deque_len}
use Rattle.std.proofs.Common.{◌≡◌, ◌<◌, ◌∷◌, ◌++◌, [], is_ok, length, ◌∙◌, rules, arith}
use Rattle.std.proofs.lemmas.Bool.{cond-true}
use Rattle.jh_cache.proofs.cpu_cache.append.Goals as goal

pub returns-clause-items : goal.returns-clause-items
returns-clause-items c =
    let len : deque_len c.args.list.now ≡ length c.args.list.now.items = search rules in
    let room : deque_len c.args.list.now < deque_capacity c.args.list.now = omega arith in
    c.push_back.ensures.items
    ∙ cond-true (is_ok c.push_back.result) (c.args.list.now.items ++ c.args.translation ∷ []) c.args.list.now.items (c.push_back.ensures.succeeds room)
