-- The bdf has a place among the marks, and the mark there alone becomes the cell's.
use Rattle.std.proofs.Common.{◌≡◌, ◌+◌, ◌<◌, length, get_or, subst, ◌∙◌, arith}
use Rattle.std.proofs.Math.ListN.{set}
use Rattle.std.proofs.lemmas.List.{get_or-set_same, get_or-set_other}
use Rattle.jh_check.proofs.bus.mark.Goals as goal

pub returns-clause-others : goal.returns-clause-others
returns-clause-others c = λ k n. get_or-set_other c.args.marks.now.items c.bdf_of-at.result k c.mark_of-own.result 0 (λ e. n (e ∙ c.bdf_of-at.ensures.value))

pub returns-clause-own : goal.returns-clause-own
returns-clause-own c =
    let marks = c.args.marks.now.items in
    let at = c.bdf_of-at.result in
    let own = c.mark_of-own.result in
    let size = c.requires.length in
    let b = c.bdf_of-at.ensures.bound in
    let within : at < length marks = omega arith in
    subst (λ i. get_or (set marks at own) i 0 ≡ c.args.cell + 1) c.bdf_of-at.ensures.value (get_or-set_same marks at own 0 within ∙ c.mark_of-own.ensures)
