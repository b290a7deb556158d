-- Each list is flushed, and can be held as before.
use Rattle.std.proofs.Common.{◌≡◌, length, map, ap, subst, sym, ◌∙◌, arith}
use Rattle.jh_cache.specs.Translations.{flushed, translations_of, IsHeld}
use Rattle.jh_cache.proofs.ListLemmas.{all_written}
use Rattle.jh_cache.proofs.MemberLemmas.{flushed_held}
use Rattle.jh_cache.proofs.cache.Cache.flush.Goals as goal

pub invariant_of-self : goal.invariant_of-self
invariant_of-self c = λ cpu.
    let len : length c.flush_each.new.caches ≡ c.self.inside.caches.len = omega (arith, c.flush_each.auto.caches, c.deref_mut.ensures.len, c.self.inside.caches.ok.0) in
    subst (λ caches. IsHeld (translations_of caches cpu))
    (sym (all_written c.flush_each.new.caches c.self.inside.caches.items c.self.inside.caches.len len ∙ c.flush_each.ensures ∙ ap (map (flushed c.args.tag)) c.deref_mut.ensures.value))
    (flushed_held c.self.inside.caches.items c.args.tag c.self.invariant cpu)
