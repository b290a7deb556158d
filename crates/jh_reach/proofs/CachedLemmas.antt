-- What a CPU has cached of its cell is what a walk finds.
use Rattle.std.proofs.Common.{◌≡◌, ℕ, true, eqb, List, Option, Some, None, refl, sym, ap, subst, ◌∙◌, is_some}
use Rattle.std.specs.List.{find}
use Rattle.std.specs.Option.{option_map}
use Rattle.std.proofs.lemmas.Bool.{and_parts, eqb-true}
use Rattle.jh_num.proofs.Public.{IsFound_from_find}
use Rattle.jh_desc.specs.declared.descriptor.Hit.{Hit}
use Rattle.jh_cache.specs.declared.translation.Translation.{Translation}
use Rattle.jh_cache.specs.Translations.{is_for, looked}
use Rattle.jh_reach.specs.Places.{Sight, hit_at, AreTrueTranslations}
use Rattle.jh_reach.specs.Looks.{look_of}

found_by : (list : List Translation) (tag page : ℕ) (hit : Hit) (o : Option Translation) → find (is_for tag page) list ≡ o → option_map (λ (t : Translation). t.hit) o ≡ Some hit → (t : Translation) × ((find (is_for tag page) list ≡ Some t) × (t.hit ≡ hit))
found_by list tag page hit None is e = cc
found_by list tag page hit (Some t) is e = let same : t.hit ≡ hit = cc in (t, (is, same))

pub cached_hit : (s : Sight) (page : ℕ) (hit : Hit) → AreTrueTranslations s → looked s.cached s.base.tag page ≡ Some hit → hit_at s page ≡ Some hit
cached_hit s page hit all e =
    let f = found_by s.cached s.base.tag page hit (find (is_for s.base.tag page) s.cached) refl e in
    let is = IsFound_from_find (is_for s.base.tag page) s.cached f.0 f.1.0 in
    let parts = and_parts (eqb f.0.tag s.base.tag) (eqb f.0.page page) is.passes in
    let there : f.0.page ≡ page = eqb-true f.0.page page parts.1 in
    subst (λ p. hit_at s p ≡ Some hit) there (all f.0 is.among (eqb-true f.0.tag s.base.tag parts.0) ∙ ap (λ (h : Hit). Some h) f.1.1)

pub cached_look : (s : Sight) (page : ℕ) (hit : Hit) → AreTrueTranslations s → looked s.cached s.base.tag page ≡ Some hit → Some (record { page = page; hit = hit; cached = true }) ≡ option_map (look_of s page) (hit_at s page)
cached_look s page hit all e =
    sym (ap (option_map (look_of s page)) (cached_hit s page hit all e)
    ∙ ap (λ (o : Option Hit). Some (record { page = page; hit = hit; cached = is_some o })) e)
