-- The bytes so far.
use Rattle.std.proofs.Common.{◌≡◌, ◌++◌, map}
use Rattle.jh_history.specs.Places.{places_in_row}
use Rattle.jh_board.specs.Pages.{byte_of}
use Rattle.jh_board.proofs.memory.Memory.append_bytes.Given as goal

abbrev pub invariant-loop-k : goal.invariant-loop-k
invariant-loop-k l = l.bytes.items ≡ l.initial.bytes.items ++ map (byte_of l.self) (places_in_row l.first l.k)
