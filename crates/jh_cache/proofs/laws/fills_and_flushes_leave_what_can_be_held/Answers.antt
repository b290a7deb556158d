-- A fill takes out what is of its page, and a flush only takes out.
use Rattle.jh_cache.proofs.MemberLemmas.{filled_held, one_flushed_held}
use Rattle.jh_cache.proofs.laws.fills_and_flushes_leave_what_can_be_held.Goals as goal

pub returns-clause-filled : goal.returns-clause-filled
returns-clause-filled c = filled_held

pub returns-clause-flushed : goal.returns-clause-flushed
returns-clause-flushed c = one_flushed_held
