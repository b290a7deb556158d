-- The one test fails after, and all else that the table's slots count is the same.
use Rattle.std.proofs.Common.{◌≡◌, ◌+◌, suc, sym, subst, arith}
use Rattle.jh_edit.specs.Turns.{turns_of}
use Rattle.jh_edit.proofs.FallLemmas.{emptied_falls}
use Rattle.jh_edit.proofs.laws.an_emptied_table_takes_a_turn_less.Goals as goal

pub returns : goal.returns
returns c = λ want word word' n table start empties below some.
    let one : n + 1 ≡ suc n = omega arith in
    subst (λ m. turns_of want word' m table start + 1 ≡ turns_of want word m table start) (sym one) (emptied_falls want word word' n table start empties below some)
