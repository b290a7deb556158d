-- The one test fails after, the other failed before, and all else that the table's slots count is the same.
use Rattle.std.proofs.Common.{◌≡◌, ◌+◌, suc, sym, subst, arith}
use Rattle.jh_edit.specs.Turns.{turns_of}
use Rattle.jh_edit.proofs.FallLemmas.{filled_falls}
use Rattle.jh_edit.proofs.laws.a_filled_table_takes_a_turn_less.Goals as goal

pub returns : goal.returns
returns c = λ want word word' n table start fills below right none some.
    let one : n + 1 ≡ suc n = omega arith in
    subst (λ m. turns_of want word' m table start + 1 ≡ turns_of want word m table start) (sym one) (filled_falls want word word' n table start fills below right some none)
