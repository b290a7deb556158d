-- Each mark is a copy of one that isn't set, and behind the last one none is set either.
use Rattle.std.proofs.Common.{◌≡◌, false, get_or, sym, subst}
use Rattle.std.proofs.Math.ListN.{replicate}
use Rattle.jh_check.proofs.FitLemmas.{all_false}
use Rattle.jh_check.proofs.fits.none_sure.Goals as goal

pub returns-clause-none : goal.returns-clause-none
returns-clause-none c = λ bdf.
    let all : c.in_ok-sure.sure.items ≡ replicate 65536 false = c.in_ok-sure.ensures.items_if_clones_equal (λ y h. cc) in
    subst (λ xs. get_or xs bdf false ≡ false) (sym all) (all_false 65536 bdf)
