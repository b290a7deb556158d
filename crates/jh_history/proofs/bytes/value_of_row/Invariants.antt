-- The number of the bytes from the k-th place of the row on.
use Rattle.std.proofs.Common.{◌≡◌, ℕ, ◌+◌, ◌-◌, ◌^◌, ◌<◌, ◌≤◌, ◌++◌, List, map}
use Rattle.jh_num.specs.Memory.{spelled}
use Rattle.jh_history.specs.Places.{further, places_in_row}
use Rattle.jh_history.proofs.bytes.value_of_row.Given as goal

abbrev pub invariant-loop-k : goal.invariant-loop-k
invariant-loop-k g l = record {
  spells : (rest : List ℕ) → l.above ≡ spelled rest → l.value ≡ spelled (map (g.B.Bytes.byte_of l.bytes) (places_in_row (further l.row.first l.k) (l.row.count - l.k)) ++ rest);
  fits : (n : ℕ) → l.above < 256 ^ n → n + l.row.count ≤ 8 → l.value < 256 ^ (n + (l.row.count - l.k));
}
