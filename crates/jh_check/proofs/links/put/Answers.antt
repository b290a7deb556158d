-- The one place gets the partner's number, if that is short enough; past the end nothing is noted.
use Rattle.std.proofs.Common.{◌≡◌, ◌<◌, ◌≤◌, ℕ, Option, None, Some, length, sym, ◌∙◌, arith}
use Rattle.std.proofs.lemmas.List.{get_or-set_same, get_or-set_other, get_or_past}
use Rattle.jh_check.proofs.links.put.Goals as goal

pub returns-clause-others : goal.returns-clause-others
returns-clause-others c = λ k n. get_or-set_other c.args.partners.now.items c.args.item k c.short.result None n

pub returns-clause-own : goal.returns-clause-own
returns-clause-own c =
    let size = c.len.ensures in
    let inside = c.if-item-len.false in
    let within : c.args.item < length c.args.partners.now.items = omega arith in
    λ s noted. c.short.ensures s (sym (get_or-set_same c.args.partners.now.items c.args.item c.short.result None within) ∙ noted)

pub returns-then-item-len-clause-own : goal.returns-then-item-len-clause-own
returns-then-item-len-clause-own c =
    let size = c.len.ensures in
    let beyond = c.if-item-len.true in
    let past : length c.args.partners.now.items ≤ c.args.item = omega arith in
    λ s noted.
    let nothing : Option ℕ = None in
    let both : nothing ≡ Some s = sym (get_or_past c.args.partners.now.items c.args.item None past) ∙ noted in
    cc
