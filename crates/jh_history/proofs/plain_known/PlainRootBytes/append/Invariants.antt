-- The bytes so far, behind those of the buffer.
use Rattle.std.proofs.Common.{◌≡◌, ◌++◌, List, ℕ, Some}
use Rattle.std.specs.Prelude.{option_map}
use Rattle.jh_history.specs.Private.PlainView.{root_byte}
use Rattle.jh_history.specs.ReadView.{bytes_by}
use Rattle.jh_history.proofs.plain_known.PlainRootBytes.append.Given as goal

abbrev pub invariant-loop-k : goal.invariant-loop-k
invariant-loop-k l = option_map (λ (row : List ℕ). l.initial.bytes.items ++ row) (bytes_by (root_byte l.self) l.at l.k) ≡ Some l.bytes.items
