-- Its tests fail, no slot leads on, and each lacking table counts twice.
use Rattle.std.proofs.Common.{◌≡◌, ◌+◌, ◌*◌, suc, sym, subst, arith}
use Rattle.jh_shape.specs.Wanted.{tables_under}
use Rattle.jh_edit.specs.Turns.{turns_of}
use Rattle.jh_edit.proofs.MadeLemmas.{made_turns}
use Rattle.jh_edit.proofs.laws.made_tables_lack_tables_alone.Goals as goal

pub returns : goal.returns
returns c = λ want word n table start made.
    let one : n + 1 ≡ suc n = omega arith in
    subst (λ m. turns_of want word m table start + 2 ≡ 2 * tables_under want m start) (sym one) (made_turns want word n table start made)
