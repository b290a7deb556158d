-- Lists of translations after fills and flushes.
use Rattle.std.proofs.Common.{◌≡◌, ℕ, ◌+◌, ◌-◌, ◌<◌, ◌≤◌, Bool, true, false, not, eqb, List, [], ◌∷◌, ◌++◌, length, drop, Option, Some, None, refl, sym, ap, ◌∙◌, arith}
use Rattle.std.specs.List.{find}
use Rattle.std.specs.Option.{option_map}
use Rattle.std.proofs.lemmas.Bool.{and_parts, and_from, and_left, eq-eqb, eqb-true, ne_eqb, not-true, not_from_false, false_from_ne_true, both_ways}
use Rattle.jh_num.proofs.Public.{IsFound_from_filter, filter_all, find_None, find_kept, find_nothing}
use Rattle.jh_desc.specs.declared.descriptor.Hit.{Hit}
use Rattle.jh_cache.specs.declared.translation.Translation.{Translation}
use Rattle.jh_cache.specs.Translations.{is_for, looked, without, newest, filled, flushed}
use Rattle.jh_cache.proofs.ListLemmas.{find_drop, find_last, find_more, filter_few, filter_fewer, newest_few}

abbrev pub hit_in : Option Translation → Option Hit
hit_in = option_map (λ (t : Translation). t.hit)

-- where none that are looked for stay, none is found
pub none_stays : (q out : Translation → Bool) (list : List Translation) → ((x : Translation) → out x ≡ false → q x ≡ false) → find q (without out list) ≡ None
none_stays q out list goes = find_nothing q (without out list) (λ x held.
    goes x (not-true (out x) (IsFound_from_filter (λ y. not (out y)) list x held).passes))

-- where none is found, none is taken out
pub all_stay : (p : Translation → Bool) (list : List Translation) → find p list ≡ None → without p list ≡ list
all_stay p list none = filter_all (λ x. not (p x)) list (λ x held. not_from_false (p x) (find_None p list x none held))

for_itself : (t : Translation) → is_for t.tag t.page t ≡ true
for_itself t = and_from (eqb t.tag t.tag) (eqb t.page t.page) (eq-eqb t.tag t.tag refl) (eq-eqb t.page t.page refl)

-- a translation that is for another page than t stays where t comes in
stays : (t x : Translation) (tag page : ℕ) → is_for tag page t ≡ false → is_for tag page x ≡ true → not (is_for t.tag t.page x) ≡ true
stays t x tag page other is =
    not_from_false (is_for t.tag t.page x) (false_from_ne_true (is_for t.tag t.page x) (λ too.
    let a = and_parts (eqb x.tag tag) (eqb x.page page) is in
    let b = and_parts (eqb x.tag t.tag) (eqb x.page t.page) too in
    let tags : t.tag ≡ tag = sym (eqb-true x.tag t.tag b.0) ∙ eqb-true x.tag tag a.0 in
    let pages : t.page ≡ page = sym (eqb-true x.page t.page b.1) ∙ eqb-true x.page page a.1 in
    both_ways (is_for tag page t) other (and_from (eqb t.tag tag) (eqb t.page page) (eq-eqb t.tag tag tags) (eq-eqb t.page page pages))))

pub filled_found : (t : Translation) (list : List Translation) → looked (filled t list) t.tag t.page ≡ Some t.hit
filled_found t list =
    let none : find (is_for t.tag t.page) (without (is_for t.tag t.page) list) ≡ None = none_stays (is_for t.tag t.page) (is_for t.tag t.page) list (λ x kept. kept) in
    ap hit_in (find_last (is_for t.tag t.page) (newest 63 (without (is_for t.tag t.page) list)) t
    (find_drop (is_for t.tag t.page) (length (without (is_for t.tag t.page) list) - 63) (without (is_for t.tag t.page) list) none) (for_itself t))

pub filled_others : (t : Translation) (list : List Translation) (tag page : ℕ) → length list < 64 → is_for tag page t ≡ false → looked (filled t list) tag page ≡ looked list tag page
filled_others t list tag page room other =
    let fewer : length (without (is_for t.tag t.page) list) ≤ length list = filter_few (λ x. not (is_for t.tag t.page x)) list in
    ap hit_in (find_more (is_for tag page) (newest 63 (without (is_for t.tag t.page) list)) t other
    ∙ ap (find (is_for tag page)) (newest_few (without (is_for t.tag t.page) list) (omega arith))
    ∙ find_kept (is_for tag page) (λ x. not (is_for t.tag t.page x)) list (λ x is. stays t x tag page other is))

none_from : (o : Option Translation) → hit_in o ≡ None → o ≡ None
none_from None e = refl
none_from (Some t) e = cc

pub filled_full : (t oldest : Translation) (list : List Translation) → length list ≡ 63 → looked (oldest ∷ list) t.tag t.page ≡ None → filled t (oldest ∷ list) ≡ list ++ t ∷ []
filled_full t oldest list full absent =
    let kept : without (is_for t.tag t.page) (oldest ∷ list) ≡ oldest ∷ list = all_stay (is_for t.tag t.page) (oldest ∷ list) (none_from (find (is_for t.tag t.page) (oldest ∷ list)) absent) in
    let one : length (oldest ∷ list) - 63 ≡ 1 = omega arith in
    ap (λ l. newest 63 l ++ t ∷ []) kept ∙ ap (λ n. drop n (oldest ∷ list) ++ t ∷ []) one

pub filled_room : (t : Translation) (list : List Translation) → length list < 64 → looked list t.tag t.page ≡ None → filled t list ≡ list ++ t ∷ []
filled_room t list room absent =
    let kept : without (is_for t.tag t.page) list ≡ list = all_stay (is_for t.tag t.page) list (none_from (find (is_for t.tag t.page) list) absent) in
    ap (λ l. newest 63 l ++ t ∷ []) kept ∙ ap (λ l. l ++ t ∷ []) (newest_few list (omega arith))

pub filled_again : (t : Translation) (list : List Translation) → length list ≤ 64 → (looked list t.tag t.page ≡ None → ⊥) → filled t list ≡ without (is_for t.tag t.page) list ++ t ∷ []
filled_again t list few there =
    let fewer : length (without (is_for t.tag t.page) list) + 1 ≤ length list = filter_fewer (is_for t.tag t.page) list (λ none. there (ap hit_in none)) in
    ap (λ l. l ++ t ∷ []) (newest_few (without (is_for t.tag t.page) list) (omega arith))

pub flushed_gone : (list : List Translation) (tag page : ℕ) → looked (flushed tag list) tag page ≡ None
flushed_gone list tag page =
    ap hit_in (none_stays (is_for tag page) (λ x. eqb x.tag tag) list (λ x kept. and_left (eqb x.tag tag) (eqb x.page page) kept))

pub flushed_others : (list : List Translation) (tag other page : ℕ) → (other ≡ tag → ⊥) → looked (flushed tag list) other page ≡ looked list other page
flushed_others list tag other page ne =
    ap hit_in (find_kept (is_for other page) (λ x. not (eqb x.tag tag)) list (λ x is.
    let same : x.tag ≡ other = eqb-true x.tag other (and_parts (eqb x.tag other) (eqb x.page page) is).0 in
    not_from_false (eqb x.tag tag) (ne_eqb x.tag tag (λ too. ne (sym same ∙ too)))))
