-- The number of the last bytes so far.
use Rattle.std.proofs.Common.{◌≡◌, ◌-◌, ◌^◌, ◌<◌, length, drop}
use Rattle.jh_num.specs.Memory.{spelled}
use Rattle.jh_num.proofs.bytes.spelled.Given as goal

abbrev pub invariant-loop-k : goal.invariant-loop-k
invariant-loop-k l = record {
  number : l.number ≡ spelled (drop (length l.bytes - l.k) l.bytes);
  small : l.number < 256 ^ l.k;
}
