-- The words below the index are those that their items tell, and the array has its length.
use Rattle.std.proofs.Common.{◌≡◌, length, take}
use Rattle.jh_spec.specs.Fields.{u32_told}
use Rattle.jh_spec.proofs.ListPrefixes.{IsListPrefix}
use Rattle.jh_spec.proofs.numbers.ArrayU32FromJson.from_json.Given as goal

abbrev pub invariant-loop-k : goal.invariant-loop-k
invariant-loop-k g l = record { told : IsListPrefix u32_told l.items.items l.k (take l.k l.words); len : length l.words ≡ g.row.N }
