-- The first to begin ends before the other begins, or they meet.
use Rattle.std.proofs.Common.{arith}
use Rattle.jh_history.proofs.ApartLemmas.{HasNoneOf_decided, HasNoneOf_swapped}
use Rattle.jh_history.proofs.apart.has_none_of.Goals as goal

pub returns-else-b_len-eq0 : goal.returns-else-b_len-eq0
returns-else-b_len-eq0 c = HasNoneOf_decided c.args.a c.args.a_len c.args.b c.args.b_len (omega arith) (omega arith)

pub returns-else-a_len-eq0 : goal.returns-else-a_len-eq0
returns-else-a_len-eq0 c = HasNoneOf_swapped _ c.args.a c.args.a_len c.args.b c.args.b_len (HasNoneOf_decided c.args.b c.args.b_len c.args.a c.args.a_len (omega arith) (omega arith))
