-- The older half is looked at first.
use Rattle.std.proofs.Common.{ap, sym, ◌∙◌}
use Rattle.jh_cache.specs.Translations.{is_for, looked}
use Rattle.jh_cache.proofs.ListLemmas.{found_before, found_behind}
use Rattle.jh_cache.proofs.cpu_cache.CpuCache.look.Goals as goal

pub returns-in-Some : goal.returns-in-Some
returns-in-Some c =
    rw (← c.self.view_is) (sym (ap (λ l. looked l c.args.tag c.args.page) (sym c.as_slices.ensures.items)
    ∙ found_before _ (is_for c.args.tag c.args.page) c.as_slices.result.0.now c.as_slices.result.1.now c.in-Some.hit (sym c.found.ensures ∙ c.in-Some.is)))

pub returns-in-None : goal.returns-in-None
returns-in-None c =
    rw (← c.self.view_is) (c.found-in-None.ensures ∙ sym (ap (λ l. looked l c.args.tag c.args.page) (sym c.as_slices.ensures.items)
    ∙ found_behind _ (is_for c.args.tag c.args.page) c.as_slices.result.0.now c.as_slices.result.1.now (sym c.found.ensures ∙ c.in-None.is)))
