-- Each page of an access that is given its places has a translation behind the fill: it had one that is kept, or all
-- are filled.
use Rattle.std.proofs.Common.{◌≡◌, ◌≢◌, ℕ, ◌+◌, ◌-◌, ◌%◌, ◌<◌, ◌≤◌, ◌⊎◌, inl, inr, Bool, true, false, eqb, not, ◌||◌, is_some, if◌then◌else◌, List, [], ◌∷◌, Contains, Option, Some, None, refl, sym, ap, subst, ◌∙◌, arith}
use Rattle.std.specs.List.{filter_map, cons_option}
use Rattle.std.specs.Option.{option_map, option_and_then}
use Rattle.std.proofs.lemmas.Bool.{cases_eq, cases_lt, and_parts, eqb-true}
use Rattle.jh_num.specs.declared.address.TheConstants.{ADDRESS_END}
use Rattle.jh_num.proofs.Public.{Contains_cases}
use Rattle.jh_desc.specs.declared.descriptor.Hit.{Hit}
use Rattle.jh_walk.specs.Paths.{behind}
use Rattle.jh_cache.specs.declared.translation.Translation.{Translation}
use Rattle.jh_cache.specs.Translations.{filled, is_for, looked}
use Rattle.jh_reach.specs.declared.access.Access.{Access}
use Rattle.jh_reach.specs.declared.access.Needs.{Needs}
use Rattle.jh_reach.specs.declared.looks.Look.{Look}
use Rattle.jh_reach.specs.Places.{Sight, AreTrueTranslations, allowed, allows, given, hit_at, place_given, places_from, places_given}
use Rattle.jh_reach.specs.Looks.{look_at, look_of, looks_at, looks_of, page_of, pages_in, up_to_refused}
use Rattle.jh_reach.specs.Fills.{filled_with, translation_of}
use Rattle.jh_reach.proofs.CachedLemmas.{cached_hit}
use Rattle.jh_reach.proofs.CauseLemmas.{place_of, within_given, beyond_given}
use Rattle.jh_reach.proofs.PlaceLemmas.{place_behind}
use Rattle.jh_reach.proofs.PartLemmas.{in_pages, no_page, one_page, two_pages}
use Rattle.jh_reach.proofs.TwoLemmas.{first_stays}

-- what is filled is found
abbrev pub FillsAreFound : Type 0
FillsAreFound = (t : Translation) (list : List Translation) → looked (filled t list) t.tag t.page ≡ Some t.hit

-- each address of a page is given what follows the page's
abbrev pub PagesAreWhole : Sight → Type 0
PagesAreWhole s = (page k : ℕ) → page % 4096 ≡ 0 → k < 4096 → hit_at s (page + k) ≡ option_map (behind k) (hit_at s page)

-- ---- pages that are given

given_by : (o : Option Hit) (offset p : ℕ) → option_map (λ (h : Hit). h.out + offset) o ≡ Some p → (h : Hit) × (o ≡ Some h)
given_by None offset p is = cc
given_by (Some h) offset p is = (h, refl)

-- a byte of the page has a place, so the page is given
page_given : (s : Sight) (needs : Needs) (page offset at p : ℕ) → PagesAreWhole s → page % 4096 ≡ 0 → offset < 4096 → page + offset ≡ at → place_given s needs at ≡ Some p → (h : Hit) × (given s needs page ≡ Some h)
page_given s needs page offset at p whole is small there place =
    given_by (given s needs page) offset p (sym (place_behind s needs page offset (whole page offset is small)) ∙ ap (place_given s needs) there ∙ place)

hit_allowed : (needs : Needs) (hit h : Hit) (b : Bool) → (if b then Some hit else None) ≡ Some h → Some hit ≡ Some h
hit_allowed needs hit h true is = is
hit_allowed needs hit h false is = cc

hit_by : (needs : Needs) (o : Option Hit) (h : Hit) → option_and_then (allowed needs) o ≡ Some h → o ≡ Some h
hit_by needs None h is = cc
hit_by needs (Some hit) h is = hit_allowed needs hit h (allows needs hit.rights) is

pub hit_given : (s : Sight) (needs : Needs) (page : ℕ) (h : Hit) → given s needs page ≡ Some h → hit_at s page ≡ Some h
hit_given s needs page h is = hit_by needs (hit_at s page) h is

-- ---- the looks at them

looks_one : (s : Sight) (needs : Needs) (p : ℕ) (h : Hit) → given s needs p ≡ Some h → filter_map (look_at s needs) (up_to_refused (λ page. is_some (given s needs page)) (p ∷ [])) ≡ look_of s p h ∷ []
looks_one s needs p h is =
    ap (λ (o : Option Hit). cons_option (option_map (look_of s p) o) (filter_map (look_at s needs) (if is_some o then [] else []))) is

looks_two : (s : Sight) (needs : Needs) (p q : ℕ) (h k : Hit) → given s needs p ≡ Some h → given s needs q ≡ Some k → filter_map (look_at s needs) (up_to_refused (λ page. is_some (given s needs page)) (p ∷ q ∷ [])) ≡ look_of s p h ∷ look_of s q k ∷ []
looks_two s needs p q h k is too =
    ap (λ (o : Option Hit). cons_option (option_map (look_of s p) o) (filter_map (look_at s needs) (if is_some o then up_to_refused (λ page. is_some (given s needs page)) (q ∷ []) else []))) is
    ∙ ap (λ (l : List Look). look_of s p h ∷ l) (looks_one s needs q k too)

-- ---- behind the fill

one_by : (s : Sight) (p : ℕ) (h : Hit) (o : Option Hit) → FillsAreFound → AreTrueTranslations s → hit_at s p ≡ Some h → looked s.cached s.base.tag p ≡ o
    → looked (if not (is_some o) || false then filled (translation_of s.base.tag (look_of s p h)) s.cached else s.cached) s.base.tag p ≡ Some h
one_by s p h None found all hit is = found (translation_of s.base.tag (look_of s p h)) s.cached
one_by s p h (Some k) found all hit is = is ∙ sym (cached_hit s p k all is) ∙ hit

pub apart_by : (tag p q : ℕ) (h : Hit) (b : Bool) → p ≢ q → is_for tag q (record { tag = tag; page = p; hit = h }) ≡ b → is_for tag q (record { tag = tag; page = p; hit = h }) ≡ false
apart_by tag p q h true ne is = absurd (ne (eqb-true p q (and_parts (eqb tag tag) (eqb p q) is).1))
apart_by tag p q h false ne is = is

first_by : (s : Sight) (p q : ℕ) (h k : Hit) (o o' : Option Hit) → FillsAreFound → AreTrueTranslations s → p ≢ q → hit_at s p ≡ Some h → looked s.cached s.base.tag p ≡ o
    → looked (if not (is_some o) || (not (is_some o') || false) then filled (translation_of s.base.tag (look_of s q k)) (filled (translation_of s.base.tag (look_of s p h)) s.cached) else s.cached) s.base.tag p ≡ Some h
first_by s p q h k None o' found all ne hit is =
    first_stays (translation_of s.base.tag (look_of s p h)) (translation_of s.base.tag (look_of s q k)) s.cached (apart_by s.base.tag p q h (is_for s.base.tag q (record { tag = s.base.tag; page = p; hit = h })) ne refl)
first_by s p q h k (Some x) None found all ne hit is =
    first_stays (translation_of s.base.tag (look_of s p h)) (translation_of s.base.tag (look_of s q k)) s.cached (apart_by s.base.tag p q h (is_for s.base.tag q (record { tag = s.base.tag; page = p; hit = h })) ne refl)
first_by s p q h k (Some x) (Some y) found all ne hit is = is ∙ sym (cached_hit s p x all is) ∙ hit

second_by : (s : Sight) (p q : ℕ) (h k : Hit) (o o' : Option Hit) → FillsAreFound → AreTrueTranslations s → hit_at s q ≡ Some k → looked s.cached s.base.tag q ≡ o'
    → looked (if not (is_some o) || (not (is_some o') || false) then filled (translation_of s.base.tag (look_of s q k)) (filled (translation_of s.base.tag (look_of s p h)) s.cached) else s.cached) s.base.tag q ≡ Some k
second_by s p q h k None o' found all hit is = found (translation_of s.base.tag (look_of s q k)) (filled (translation_of s.base.tag (look_of s p h)) s.cached)
second_by s p q h k (Some x) None found all hit is = found (translation_of s.base.tag (look_of s q k)) (filled (translation_of s.base.tag (look_of s p h)) s.cached)
second_by s p q h k (Some x) (Some y) found all hit is = is ∙ sym (cached_hit s q y all is) ∙ hit

-- ---- an access

-- the list behind the fill, by the looks, where the access is given its places
abbrev filled_by : Sight → Bool → List Look → List Translation
filled_by s whole looks = filled_with s.base.tag (record { looked = looks; whole = whole; read = [] }) s.cached

behind_fill : (s : Sight) (access : Access) (ps : List ℕ) (looks : List Look) → places_given s access ≡ Some ps → looks_at s access ≡ looks → filled_with s.base.tag (looks_of s access) s.cached ≡ filled_by s true looks
behind_fill s access ps looks whole are =
    ap (λ (o : Option (List ℕ)). filled_by s (is_some o) (looks_at s access)) whole ∙ ap (filled_by s true) are

looks_in : (s : Sight) (access : Access) (pages : List ℕ) → pages_in access ≡ pages → looks_at s access ≡ filter_map (look_at s access.needs) (up_to_refused (λ page. is_some (given s access.needs page)) pages)
looks_in s access pages is = ap (λ (l : List ℕ). filter_map (look_at s access.needs) (up_to_refused (λ page. is_some (given s access.needs page)) l)) is

kept_one : (s : Sight) (access : Access) (page p : ℕ) (h : Hit) (ps : List ℕ) → FillsAreFound → AreTrueTranslations s → places_given s access ≡ Some ps → pages_in access ≡ p ∷ [] → given s access.needs p ≡ Some h → Contains (p ∷ []) page
    → looked (filled_with s.base.tag (looks_of s access) s.cached) s.base.tag page ≡ hit_at s page
kept_one s access page p h ps found all whole pages is has =
    let hit : hit_at s p ≡ Some h = hit_given s access.needs p h is in
    let list : filled_with s.base.tag (looks_of s access) s.cached ≡ filled_by s true (look_of s p h ∷ []) =
    behind_fill s access ps (look_of s p h ∷ []) whole (looks_in s access (p ∷ []) pages ∙ looks_one s access.needs p h is) in
    elim (Contains_cases p [] page has) [
      | inl same ↦ subst (λ n. looked (filled_with s.base.tag (looks_of s access) s.cached) s.base.tag n ≡ hit_at s n) same
          (ap (λ (l : List Translation). looked l s.base.tag p) list ∙ one_by s p h (looked s.cached s.base.tag p) found all hit refl ∙ sym hit)
      | inr none ↦ absurd (omega (arith, none.1))
    ]

kept_two : (s : Sight) (access : Access) (page p q : ℕ) (h k : Hit) (ps : List ℕ) → FillsAreFound → AreTrueTranslations s → p ≢ q → places_given s access ≡ Some ps → pages_in access ≡ p ∷ q ∷ [] → given s access.needs p ≡ Some h → given s access.needs q ≡ Some k → Contains (p ∷ q ∷ []) page
    → looked (filled_with s.base.tag (looks_of s access) s.cached) s.base.tag page ≡ hit_at s page
kept_two s access page p q h k ps found all ne whole pages is too has =
    let hit : hit_at s p ≡ Some h = hit_given s access.needs p h is in
    let hit' : hit_at s q ≡ Some k = hit_given s access.needs q k too in
    let list : filled_with s.base.tag (looks_of s access) s.cached ≡ filled_by s true (look_of s p h ∷ look_of s q k ∷ []) =
    behind_fill s access ps (look_of s p h ∷ look_of s q k ∷ []) whole (looks_in s access (p ∷ q ∷ []) pages ∙ looks_two s access.needs p q h k is too) in
    elim (Contains_cases p (q ∷ []) page has) [
      | inl same ↦ subst (λ n. looked (filled_with s.base.tag (looks_of s access) s.cached) s.base.tag n ≡ hit_at s n) same
          (ap (λ (l : List Translation). looked l s.base.tag p) list ∙ first_by s p q h k (looked s.cached s.base.tag p) (looked s.cached s.base.tag q) found all ne hit refl ∙ sym hit)
      | inr later ↦ elim (Contains_cases q [] page later) [
        | inl same ↦ subst (λ n. looked (filled_with s.base.tag (looks_of s access) s.cached) s.base.tag n ≡ hit_at s n) same
            (ap (λ (l : List Translation). looked l s.base.tag q) list ∙ second_by s p q h k (looked s.cached s.base.tag p) (looked s.cached s.base.tag q) found all hit' refl ∙ sym hit')
        | inr none ↦ absurd (omega (arith, none.1))
      ]
    ]

-- where the access's bytes have places, its first page is given
first_given : (s : Sight) (access : Access) (ps : List ℕ) → PagesAreWhole s → 0 < access.width → places_from (place_given s access.needs) access.at access.width ≡ Some ps → (h : Hit) × (given s access.needs (page_of access.at) ≡ Some h)
first_given s access ps whole some are =
    let place = place_of (place_given s access.needs) access.at access.width 0 ps are some in
    let there : page_of access.at + access.at % 4096 ≡ access.at + 0 = omega arith in
    page_given s access.needs (page_of access.at) (access.at % 4096) (access.at + 0) place.0 whole (omega arith) (omega arith) there place.1

-- and so is its second, where it has one
second_given : (s : Sight) (access : Access) (ps : List ℕ) → PagesAreWhole s → 4096 < access.at % 4096 + access.width → places_from (place_given s access.needs) access.at access.width ≡ Some ps → (h : Hit) × (given s access.needs (page_of access.at + 4096) ≡ Some h)
second_given s access ps whole beyond are =
    let place = place_of (place_given s access.needs) access.at access.width (4096 - access.at % 4096) ps are (omega arith) in
    let there : page_of access.at + 4096 + 0 ≡ access.at + (4096 - access.at % 4096) = omega arith in
    page_given s access.needs (page_of access.at + 4096) 0 (access.at + (4096 - access.at % 4096)) place.0 whole (omega arith) (omega arith) there place.1

within_kept : (s : Sight) (access : Access) (page : ℕ) (ps : List ℕ) → FillsAreFound → PagesAreWhole s → AreTrueTranslations s → places_given s access ≡ Some ps → access.at + access.width ≤ ADDRESS_END → 0 < access.width → (4096 < access.at % 4096 + access.width) ⊎ (access.at % 4096 + access.width ≤ 4096) → Contains (pages_in access) page
    → looked (filled_with s.base.tag (looks_of s access) s.cached) s.base.tag page ≡ hit_at s page
within_kept s access page ps found whole all are within some (inl beyond) has =
    let places = sym (within_given s access within) ∙ are in
    let one = first_given s access ps whole some places in
    let other = second_given s access ps whole beyond places in
    let pages = in_pages access within ∙ two_pages access.at access.width some beyond in
    kept_two s access page (page_of access.at) (page_of access.at + 4096) one.0 other.0 ps found all (λ same. absurd (omega arith)) are pages one.1 other.1 (subst (λ l. Contains l page) pages has)
within_kept s access page ps found whole all are within some (inr here) has =
    let places = sym (within_given s access within) ∙ are in
    let one = first_given s access ps whole some places in
    let pages = in_pages access within ∙ one_page access.at access.width some here in
    kept_one s access page (page_of access.at) one.0 ps found all are pages one.1 (subst (λ l. Contains l page) pages has)

none_kept : (access : Access) (page : ℕ) → access.at + access.width ≤ ADDRESS_END → access.width ≡ 0 → Contains (pages_in access) page → ⊥
none_kept access page within none has =
    let empty : Contains [] page = subst (λ l. Contains l page) (in_pages access within ∙ no_page access.at access.width none) has in omega (arith, empty.1)

kept_by : (s : Sight) (access : Access) (page : ℕ) (o : Option (List ℕ)) → FillsAreFound → PagesAreWhole s → AreTrueTranslations s → places_given s access ≡ o → is_some o ≡ true → Contains (pages_in access) page
    → looked (filled_with s.base.tag (looks_of s access) s.cached) s.base.tag page ≡ hit_at s page
kept_by s access page None found whole all are some has = cc
kept_by s access page (Some ps) found whole all are some has = elim (cases_lt ADDRESS_END (access.at + access.width)) [
  | inl beyond ↦ let wrong : Some ps ≡ None = sym are ∙ beyond_given s access beyond in cc
  | inr within ↦ elim (cases_eq access.width 0) [
    | inl none ↦ absurd (none_kept access page within none has)
    | inr some ↦ within_kept s access page ps found whole all are within (omega arith) (cases_lt 4096 (access.at % 4096 + access.width)) has
  ]
]

pub pages_kept : (s : Sight) (access : Access) (page : ℕ) → FillsAreFound → PagesAreWhole s → AreTrueTranslations s → is_some (places_given s access) ≡ true → Contains (pages_in access) page → looked (filled_with s.base.tag (looks_of s access) s.cached) s.base.tag page ≡ hit_at s page
pages_kept s access page found whole all some has = kept_by s access page (places_given s access) found whole all refl some has
