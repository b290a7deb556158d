-- At the bdf just marked the devices were found to fit, at each other they were sure before.
use Rattle.std.proofs.Common.{◌∙◌, true, false, inl, inr, sym}
use Rattle.std.proofs.lemmas.Bool.{cases_eq}
use Rattle.std.proofs.lemmas.List.{get_or-set_other}
use Rattle.jh_check.proofs.fits.look.Goals as goal

pub returns-clause-sure : goal.returns-clause-sure
returns-clause-sure c = λ b t x y cx cy ex ey.
    elim (cases_eq b c.args.bdf) [
      | inl e ↦ c.fit_each_other.ensures c.if-not-fit_each_other.false x y (c.at_bdf.ensures x cx (ex ∙ e)) (c.at_bdf.ensures y cy (ey ∙ e))
      | inr n ↦ c.requires.sure b (sym (get_or-set_other c.args.sure.now.items c.args.bdf b true false n) ∙ t) x y cx cy ex ey
    ]
