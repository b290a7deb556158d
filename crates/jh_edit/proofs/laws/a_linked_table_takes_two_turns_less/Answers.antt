-- One slot counts less, and all others as they did.
use Rattle.std.proofs.Common.{◌≡◌, ◌+◌, suc, sym, subst, arith}
use Rattle.jh_edit.specs.Turns.{turns_of}
use Rattle.jh_edit.proofs.LinkLemmas.{linked_falls}
use Rattle.jh_edit.proofs.laws.a_linked_table_takes_two_turns_less.Goals as goal

pub returns : goal.returns
returns c = λ want word word' n table start slot next links below made.
    let more : n + 1 ≡ suc n = omega arith in
    subst (λ m. turns_of want word' m table start + 2 ≡ turns_of want word m table start) (sym more) (linked_falls want word word' n table start slot next links below made)
