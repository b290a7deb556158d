-- The places of bytes of one page: all follow the page's place, or none is given.
use Rattle.std.proofs.Common.{◌≡◌, ℕ, ◌+◌, ◌<◌, ◌≤◌, zero, suc, Bool, true, false, if◌then◌else◌, List, ◌∷◌, Option, Some, None, refl, sym, ap, subst, ◌∙◌, arith}
use Rattle.std.specs.List.{range_with_len}
use Rattle.std.specs.Option.{option_map, option_and_then}
use Rattle.jh_desc.specs.declared.descriptor.Hit.{Hit}
use Rattle.jh_walk.specs.Paths.{behind}
use Rattle.jh_reach.specs.declared.access.Needs.{Needs}
use Rattle.jh_reach.specs.declared.looks.Look.{Look}
use Rattle.jh_reach.specs.Places.{Sight, allows, allowed, given, hit_at, place_given, places_from}
use Rattle.jh_reach.specs.Looks.{look_of}

-- where the first address has no place, there are none
pub places_none : (f : ℕ → Option ℕ) (at count : ℕ) → 0 < count → f at ≡ None → places_from f at count ≡ None
places_none f at zero some none = absurd (omega arith)
places_none f at (suc count) some none = ap (option_and_then (λ (p : ℕ). option_map (λ (ps : List ℕ). p ∷ ps) (places_from f (at + 1) count))) none

-- where each address has the place that follows, they are a run
pub places_run : (f : ℕ → Option ℕ) (at to count : ℕ) → ((k : ℕ) → k < count → f (at + k) ≡ Some (to + k)) → places_from f at count ≡ Some (range_with_len to count)
places_run f at to zero each = refl
places_run f at to (suc count) each =
    let here : f at ≡ Some to = subst (λ n. f n ≡ Some to) (omega arith) (each 0 (omega arith) ∙ ap (λ (n : ℕ). Some n) (omega arith)) in
    let rest : places_from f (at + 1) count ≡ Some (range_with_len (to + 1) count) = places_run f (at + 1) (to + 1) count (λ k small.
    subst (λ n. f n ≡ Some (to + 1 + k)) (omega arith) (each (suc k) (omega arith) ∙ ap (λ (n : ℕ). Some n) (omega arith))) in
    ap (option_and_then (λ (p : ℕ). option_map (λ (ps : List ℕ). p ∷ ps) (places_from f (at + 1) count))) here
    ∙ ap (option_map (λ (ps : List ℕ). to ∷ ps)) rest

-- what is given behind a page's first address
allowed_behind : (needs : Needs) (k : ℕ) (hit : Hit) (b : Bool) → allows needs hit.rights ≡ b → option_map (λ (h : Hit). h.out) (allowed needs (behind k hit)) ≡ option_map (λ (h : Hit). h.out + k) (allowed needs hit)
allowed_behind needs k hit true is = rw is refl
allowed_behind needs k hit false is = rw is refl

place_by : (needs : Needs) (k : ℕ) (o : Option Hit) → option_map (λ (h : Hit). h.out) (option_and_then (allowed needs) (option_map (behind k) o)) ≡ option_map (λ (h : Hit). h.out + k) (option_and_then (allowed needs) o)
place_by needs k None = refl
place_by needs k (Some hit) = allowed_behind needs k hit (allows needs hit.rights) refl

pub place_behind : (s : Sight) (needs : Needs) (page k : ℕ) → hit_at s (page + k) ≡ option_map (behind k) (hit_at s page) → place_given s needs (page + k) ≡ option_map (λ (h : Hit). h.out + k) (given s needs page)
place_behind s needs page k whole =
    ap (λ (o : Option Hit). option_map (λ (h : Hit). h.out) (option_and_then (allowed needs) o)) whole ∙ place_by needs k (hit_at s page)

-- the page isn't given, so none of its bytes has a place
pub page_none : (s : Sight) (needs : Needs) (page offset count : ℕ) → ((k : ℕ) → k < 4096 → hit_at s (page + k) ≡ option_map (behind k) (hit_at s page)) → 0 < count → offset + count ≤ 4096 → given s needs page ≡ None → places_from (place_given s needs) (page + offset) count ≡ None
page_none s needs page offset count whole some within none =
    places_none (place_given s needs) (page + offset) count some (place_behind s needs page offset (whole offset (omega arith)) ∙ ap (option_map (λ (h : Hit). h.out + offset)) none)

-- the page is given, so its bytes have places that follow one another
pub page_run : (s : Sight) (needs : Needs) (page offset count : ℕ) (hit : Hit) → ((k : ℕ) → k < 4096 → hit_at s (page + k) ≡ option_map (behind k) (hit_at s page)) → offset + count ≤ 4096 → given s needs page ≡ Some hit → places_from (place_given s needs) (page + offset) count ≡ Some (range_with_len (hit.out + offset) count)
page_run s needs page offset count hit whole within is =
    places_run (place_given s needs) (page + offset) (hit.out + offset) count (λ k small.
    subst (λ n. place_given s needs n ≡ Some (hit.out + offset + k)) (omega arith)
    (place_behind s needs page (offset + k) (whole (offset + k) (omega arith)) ∙ ap (option_map (λ (h : Hit). h.out + (offset + k))) is ∙ ap (λ (n : ℕ). Some n) (omega arith)))

-- ---- what a look at the page says

pub seen : (s : Sight) (page : ℕ) (look : Look) (o : Option Hit) → Some look ≡ option_map (look_of s page) o → o ≡ Some look.hit
seen s page look None is = cc
seen s page look (Some hit) is = let same : look ≡ look_of s page hit = cc in ap (λ (l : Look). Some l.hit) (sym same)

pub given_some : (s : Sight) (needs : Needs) (page : ℕ) (hit : Hit) → hit_at s page ≡ Some hit → allows needs hit.rights ≡ true → given s needs page ≡ Some hit
given_some s needs page hit is may = ap (option_and_then (allowed needs)) is ∙ ap (λ b. if b then Some hit else None) may

pub given_not : (s : Sight) (needs : Needs) (page : ℕ) (hit : Hit) → hit_at s page ≡ Some hit → allows needs hit.rights ≡ false → given s needs page ≡ None
given_not s needs page hit is may = ap (option_and_then (allowed needs)) is ∙ ap (λ b. if b then Some hit else None) may
