-- The places so far.
use Rattle.std.proofs.Common.{◌≡◌, vec_len}
use Rattle.jh_run.proofs.posts.Left.new.Given as goal

abbrev pub invariant-loop : goal.invariant-loop
invariant-loop g l = vec_len l.posts ≡ l.counter
