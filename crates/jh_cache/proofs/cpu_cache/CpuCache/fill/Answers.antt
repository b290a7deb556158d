-- Out with the same page, out with the oldest, and in at the end.
use Rattle.std.proofs.Common.{◌≡◌, [], ◌∷◌, ◌++◌, ap, subst, sym, rules, ◌∙◌}
use Rattle.jh_cache.specs.Translations.{is_for, filled, newest, without, IsHeld}
use Rattle.jh_cache.proofs.MemberLemmas.{filled_held}
use Rattle.jh_cache.proofs.cpu_cache.CpuCache.fill.Goals as goal

pub invariant_of-self : goal.invariant_of-self
invariant_of-self c =
    let t = c.args.translation in
    let old = c.self.inside.translations.items in
    let new : c.append.new.list.items ≡ filled t old = c.append.ensures.items ∙ ap (λ l. l ++ t ∷ []) (c.drop_oldest.ensures.items ∙ ap (newest 63) c.take_out.ensures.items) in
    (subst IsHeld (sym new) (filled_held t old c.self.invariant.0), search rules)

pub returns-clause-value : goal.returns-clause-value
returns-clause-value c =
    c.append.ensures.items
    ∙ ap (λ l. l ++ c.args.translation ∷ []) (c.drop_oldest.ensures.items
    ∙ ap (newest 63) (c.take_out.ensures.items
    ∙ ap (without (is_for c.args.translation.tag c.args.translation.page)) c.self.view_is))

pub returns-clause-held : goal.returns-clause-held
returns-clause-held c =
    let t = c.args.translation in
    let old = c.self.inside.translations.items in
    let new : c.append.new.list.items ≡ filled t old = c.append.ensures.items ∙ ap (λ l. l ++ t ∷ []) (c.drop_oldest.ensures.items ∙ ap (newest 63) c.take_out.ensures.items) in
    subst IsHeld (sym new) (filled_held t old c.self.invariant.0)
