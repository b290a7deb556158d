-- Of two fills, one after another, both stay: the second takes out no more than an older one.
use Rattle.std.proofs.Common.{◌≡◌, ℕ, ◌+◌, ◌-◌, ◌≤◌, Bool, false, not, eqb, cond, List, [], ◌∷◌, ◌++◌, length, drop, Contains, Option, Some, None, refl, sym, ap, ◌∙◌, arith, append_assoc}
use Rattle.std.specs.List.{find}
use Rattle.std.specs.Option.{option_map, option_or}
use Rattle.std.proofs.lemmas.Bool.{and_from, eq-eqb, not-true, cond-true}
use Rattle.std.proofs.lemmas.List.{drop-append-le, get_or-drop, length-drop, length_push}
use Rattle.std.proofs.lemmas.List.Elements.{filter-append}
use Rattle.std.proofs.lemmas.List.Folds.{find-append}
use Rattle.jh_num.proofs.Public.{IsFound_from_filter, find_nothing}
use Rattle.jh_cache.specs.declared.translation.Translation.{Translation}
use Rattle.jh_cache.specs.Translations.{filled, is_for, looked, newest, without}

kept_one : (b : Bool) (t : Translation) → b ≡ false → cond (not b) (t ∷ []) [] ≡ t ∷ []
kept_one b t is = ap (λ c. cond (not c) (t ∷ []) []) is

pub first_stays : (t u : Translation) (list : List Translation) → is_for u.tag u.page t ≡ false → looked (filled u (filled t list)) t.tag t.page ≡ Some t.hit
first_stays t u list other =
    let front : List Translation = without (is_for u.tag u.page) (newest 63 (without (is_for t.tag t.page) list)) in
    let all : without (is_for u.tag u.page) (filled t list) ≡ front ++ t ∷ [] =
    filter-append (λ x. not (is_for u.tag u.page x)) (newest 63 (without (is_for t.tag t.page) list)) (t ∷ [])
    ∙ ap (λ (l : List Translation). front ++ l) (kept_one (is_for u.tag u.page t) t other) in
    let few : length (front ++ t ∷ []) - 63 ≤ length front = omega (arith, length_push front t) in
    let rest : List Translation = drop (length (front ++ t ∷ []) - 63) front in
    let newer : newest 63 (without (is_for u.tag u.page) (filled t list)) ≡ rest ++ t ∷ [] =
    ap (newest 63) all ∙ drop-append-le (length (front ++ t ∷ []) - 63) front (t ∷ []) few in
    let none : find (is_for t.tag t.page) rest ≡ None = find_nothing (is_for t.tag t.page) rest (λ x held.
    let old : ℕ = length (front ++ t ∷ []) - 63 in
    let older : ℕ = length (without (is_for t.tag t.page) list) - 63 in
    let inside : Contains front x = (old + held.0, omega (arith, held.1, length-drop old front), sym (get_or-drop old front held.0 x) ∙ held.2) in
    let among = IsFound_from_filter (λ y. not (is_for u.tag u.page y)) (newest 63 (without (is_for t.tag t.page) list)) x inside in
    let kept : Contains (drop older (without (is_for t.tag t.page) list)) x = among.among in
    let first : Contains (without (is_for t.tag t.page) list) x = (older + kept.0, omega (arith, kept.1, length-drop older (without (is_for t.tag t.page) list)), sym (get_or-drop older (without (is_for t.tag t.page) list) kept.0 x) ∙ kept.2) in
    let stays = IsFound_from_filter (λ y. not (is_for t.tag t.page y)) list x first in
    not-true (is_for t.tag t.page x) stays.passes) in
    ap (λ (l : List Translation). looked (l ++ u ∷ []) t.tag t.page) newer
    ∙ ap (λ (l : List Translation). looked l t.tag t.page) (append_assoc rest (t ∷ []) (u ∷ []))
    ∙ ap (option_map (λ (x : Translation). x.hit)) (find-append (is_for t.tag t.page) rest (t ∷ u ∷ [])
    ∙ ap (λ (o : Option Translation). option_or o (find (is_for t.tag t.page) (t ∷ u ∷ []))) none
    ∙ cond-true (is_for t.tag t.page t) (Some t) (find (is_for t.tag t.page) (u ∷ [])) (and_from (eqb t.tag t.tag) (eqb t.page t.page) (eq-eqb t.tag t.tag refl) (eq-eqb t.page t.page refl)))
