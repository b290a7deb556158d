-- What `retain` keeps are the translations of other tags.
use Rattle.std.proofs.Common.{◌≡◌, rules, ap, subst, sym, ◌∙◌}
use Rattle.std.proofs.lemmas.Fn.{filter_same}
use Rattle.jh_cache.specs.Translations.{flushed, IsHeld}
use Rattle.jh_cache.proofs.MemberLemmas.{one_flushed_held}
use Rattle.jh_cache.proofs.cpu_cache.CpuCache.flush.Goals as goal

pub invariant_of-self : goal.invariant_of-self
invariant_of-self c =
    let old = c.self.inside.translations.items in
    let new : c.retain.new.self.items ≡ flushed c.args.tag old = filter_same _ _ _ (λ x b f' k. search rules) _ _ c.retain.ensures.filtered in
    (subst IsHeld (sym new) (one_flushed_held old c.args.tag c.self.invariant.0), search rules)

pub returns-clause-value : goal.returns-clause-value
returns-clause-value c =
    filter_same _ _ _ (λ x b f' k. search rules) _ _ c.retain.ensures.filtered ∙ ap (flushed c.args.tag) c.self.view_is

pub returns-clause-held : goal.returns-clause-held
returns-clause-held c =
    let old = c.self.inside.translations.items in
    let new : c.retain.new.self.items ≡ flushed c.args.tag old = filter_same _ _ _ (λ x b f' k. search rules) _ _ c.retain.ensures.filtered in
    subst IsHeld (sym new) (one_flushed_held old c.args.tag c.self.invariant.0)
