-- What fills of looks add.
use Rattle.std.proofs.Common.{◌≡◌, ℕ, ◌+◌, ◌%◌, ◌⊎◌, inl, inr, Bool, true, false, eqb, leb, is_some, if◌then◌else◌, List, [], ◌∷◌, Contains, Option, Some, None, refl, sym, ap, subst, ◌∙◌, arith}
use Rattle.std.specs.List.{filter_map, cons_option}
use Rattle.std.specs.Option.{option_map}
use Rattle.jh_num.proofs.Public.{Contains_cases, Contains_head, Contains_tail}
use Rattle.jh_desc.specs.declared.descriptor.Hit.{Hit}
use Rattle.jh_cache.specs.declared.translation.Translation.{Translation}
use Rattle.jh_cache.specs.Translations.{filled}
use Rattle.jh_reach.specs.declared.access.Access.{Access}
use Rattle.jh_reach.specs.declared.access.Needs.{Needs}
use Rattle.jh_reach.specs.declared.looks.Look.{Look}
use Rattle.jh_reach.specs.Places.{Sight, given, hit_at, ends_within}
use Rattle.jh_reach.specs.Looks.{look_at, look_of, looks_at, looks_of, page_of, pages_in, up_to_refused}
use Rattle.jh_reach.specs.Fills.{filled_with, is_to_fill, translation_of, with_looks, IsOfAccess}
use Rattle.jh_reach.proofs.KeptLemmas.{hit_given}

-- ---- what is added

abbrev pub FillsAddOne : Type 0
FillsAddOne = (t x : Translation) (list : List Translation) → Contains (filled t list) x → (x ≡ t) ⊎ Contains list x

-- the translation is that of one of the looks
pub record IsOfLook (tag : ℕ) (looks : List Look) (x : Translation) : Type 0 where
  pub look : Look
  pub among : Contains looks look
  pub is : x ≡ translation_of tag look

of_later : (tag : ℕ) (look : Look) (looks : List Look) (x : Translation) → IsOfLook tag looks x → IsOfLook tag (look ∷ looks) x
of_later tag look looks x of = record { look = of.look; among = Contains_tail look looks of.look of.among; is = of.is }

of_first : (tag : ℕ) (look : Look) (looks : List Look) (x : Translation) → x ≡ translation_of tag look → IsOfLook tag (look ∷ looks) x
of_first tag look looks x is = record { look = look; among = Contains_head look looks; is = is }

looks_add : FillsAddOne → (tag : ℕ) (looks : List Look) (list : List Translation) (x : Translation) → Contains (with_looks tag looks list) x → Contains list x ⊎ IsOfLook tag looks x
looks_add one tag [] list x has = inl has
looks_add one tag (look ∷ looks) list x has = elim (looks_add one tag looks (filled (translation_of tag look) list) x has) [
  | inl before ↦ elim (one (translation_of tag look) x list before) [
    | inl is ↦ inr (of_first tag look looks x is)
    | inr old ↦ inl old
  ]
  | inr later ↦ inr (of_later tag look looks x later)
]

-- a look is at a page of the access that is given
pub record IsOfPage (s : Sight) (needs : Needs) (pages : List ℕ) (look : Look) : Type 0 where
  pub page : ℕ
  pub among : Contains pages page
  pub is : look_at s needs page ≡ Some look

page_later : (s : Sight) (needs : Needs) (x : ℕ) (pages : List ℕ) (look : Look) → IsOfPage s needs pages look → IsOfPage s needs (x ∷ pages) look
page_later s needs x pages look of = record { page = of.page; among = Contains_tail x pages of.page of.among; is = of.is }

page_by : (s : Sight) (needs : Needs) (x : ℕ) (pages next : List ℕ) (look : Look) (o : Option Look) (b : Bool) → look_at s needs x ≡ o → (Contains (filter_map (look_at s needs) next) look → IsOfPage s needs pages look) → Contains (cons_option o (filter_map (look_at s needs) (if b then next else []))) look → IsOfPage s needs (x ∷ pages) look
page_by s needs x pages next look None true is rest has = page_later s needs x pages look (rest has)
page_by s needs x pages next look None false is rest has = absurd (omega (arith, has.1))
page_by s needs x pages next look (Some k) true is rest has = elim (Contains_cases k (filter_map (look_at s needs) next) look has) [
  | inl same ↦ record { page = x; among = Contains_head x pages; is = is ∙ ap (λ (l : Look). Some l) same }
  | inr later ↦ page_later s needs x pages look (rest later)
]
page_by s needs x pages next look (Some k) false is rest has = elim (Contains_cases k [] look has) [
  | inl same ↦ record { page = x; among = Contains_head x pages; is = is ∙ ap (λ (l : Look). Some l) same }
  | inr later ↦ absurd (omega (arith, later.1))
]

look_page : (s : Sight) (needs : Needs) (pages : List ℕ) (look : Look) → Contains (filter_map (look_at s needs) (up_to_refused (λ page. is_some (given s needs page)) pages)) look → IsOfPage s needs pages look
look_page s needs [] look has = absurd (omega (arith, has.1))
look_page s needs (x ∷ pages) look has =
    page_by s needs x pages (up_to_refused (λ page. is_some (given s needs page)) pages) look (look_at s needs x) (is_some (given s needs x)) refl (λ later. look_page s needs pages look later) has

aligned_by : (b none one : Bool) (at p : ℕ) → Contains (if b then (if none then [] else (if one then page_of at ∷ [] else page_of at ∷ (page_of at + 4096) ∷ [])) else []) p → p % 4096 ≡ 0
aligned_by false none one at p has = absurd (omega (arith, has.1))
aligned_by true true one at p has = absurd (omega (arith, has.1))
aligned_by true false true at p has = elim (Contains_cases (page_of at) [] p has) [
  | inl is ↦ subst (λ n. n % 4096 ≡ 0) is (omega arith)
  | inr later ↦ absurd (omega (arith, later.1))
]
aligned_by true false false at p has = elim (Contains_cases (page_of at) ((page_of at + 4096) ∷ []) p has) [
  | inl is ↦ subst (λ n. n % 4096 ≡ 0) is (omega arith)
  | inr later ↦ elim (Contains_cases (page_of at + 4096) [] p later) [
    | inl is ↦ subst (λ n. n % 4096 ≡ 0) is (omega arith)
    | inr last ↦ absurd (omega (arith, last.1))
  ]
]

pub look_by : (s : Sight) (page : ℕ) (look : Look) (o : Option Hit) → option_map (look_of s page) o ≡ Some look → (page ≡ look.page) × (o ≡ Some look.hit)
look_by s page look None is = cc
look_by s page look (Some hit) is = let same : look_of s page hit ≡ look = cc in (ap (λ (l : Look). l.page) same, ap (λ (l : Look). Some l.hit) same)

look_found : (s : Sight) (access : Access) (look : Look) → IsOfPage s access.needs (pages_in access) look → IsOfAccess s access (translation_of s.base.tag look)
look_found s access look of =
    let parts = look_by s of.page look (given s access.needs of.page) of.is in
    let found : hit_at s of.page ≡ Some look.hit = hit_given s access.needs of.page look.hit parts.1 in
    let aligned : of.page % 4096 ≡ 0 = aligned_by (ends_within access) (eqb access.width 0) (leb (access.at % 4096 + access.width) 4096) access.at of.page of.among in
    record {
      tag = refl;
      page = subst (Contains (pages_in access)) parts.0 of.among;
      aligned = subst (λ n. n % 4096 ≡ 0) parts.0 aligned;
      found = subst (λ n. hit_at s n ≡ Some look.hit) parts.0 found;
    }

added_by : FillsAddOne → (s : Sight) (access : Access) (x : Translation) (b : Bool) → Contains (if b then with_looks s.base.tag (looks_at s access) s.cached else s.cached) x → Contains s.cached x ⊎ IsOfAccess s access x
added_by one s access x false has = inl has
added_by one s access x true has = elim (looks_add one s.base.tag (looks_at s access) s.cached x has) [
  | inl old ↦ inl old
  | inr of ↦ inr (subst (IsOfAccess s access) (sym of.is) (look_found s access of.look (look_page s access.needs (pages_in access) of.look of.among)))
]

pub walks_added : FillsAddOne → (s : Sight) (access : Access) (x : Translation) → Contains (filled_with s.base.tag (looks_of s access) s.cached) x → Contains s.cached x ⊎ IsOfAccess s access x
walks_added one s access x has = added_by one s access x (is_to_fill (looks_of s access)) has
