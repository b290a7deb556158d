-- What fills of looks leave: the newest of what was there, and then theirs.
use Rattle.std.proofs.Common.{◌≡◌, ◌≢◌, ℕ, ◌+◌, ◌%◌, ◌⊎◌, inl, inr, Bool, true, false, eqb, leb, not, is_some, if◌then◌else◌, List, [], ◌∷◌, ◌++◌, map, Option, Some, None, refl, sym, subst, ◌∙◌, arith}
use Rattle.std.specs.List.{filter_map, list_any, cons_option}
use Rattle.std.proofs.lemmas.Bool.{and_parts}
use Rattle.jh_cache.specs.declared.translation.Translation.{Translation}
use Rattle.jh_cache.specs.Translations.{filled, is_for, newest, without, IsHeld}
use Rattle.jh_reach.specs.declared.access.Access.{Access}
use Rattle.jh_reach.specs.declared.access.Needs.{Needs}
use Rattle.jh_reach.specs.declared.looks.Look.{Look}
use Rattle.jh_reach.specs.Places.{Sight, given, places_given, ends_within}
use Rattle.jh_reach.specs.Looks.{look_at, looks_at, looks_of, page_of, up_to_refused}
use Rattle.jh_reach.specs.Fills.{filled_with, is_to_fill, translation_of, with_looks, without_looks}
use Rattle.jh_reach.proofs.AddedLemmas.{look_by}
use Rattle.jh_reach.proofs.KeptLemmas.{apart_by}

abbrev pub OneKeepsNewest : Type 0
OneKeepsNewest = (t : Translation) (list : List Translation) → filled t list ≡ newest 64 (without (is_for t.tag t.page) list ++ t ∷ [])

abbrev pub TwoKeepNewest : Type 0
TwoKeepNewest = (t u : Translation) (list : List Translation) → IsHeld list → is_for u.tag u.page t ≡ false → filled u (filled t list) ≡ newest 64 (without (is_for u.tag u.page) (without (is_for t.tag t.page) list) ++ t ∷ u ∷ [])

-- the fills of the looks leave the newest
abbrev IsLeft : Sight → List Look → Type 0
IsLeft s looks = with_looks s.base.tag looks s.cached ≡ newest 64 (without_looks s.base.tag looks s.cached ++ map (translation_of s.base.tag) looks)

-- and so it is where one of them was missed
abbrev LeavesNewest : Sight → List Look → Type 0
LeavesNewest s looks = list_any (λ (look : Look). not look.cached) looks ≡ true → IsLeft s looks

none_left : (s : Sight) → LeavesNewest s []
none_left s missed = cc

one_left : OneKeepsNewest → (s : Sight) (look : Look) → LeavesNewest s (look ∷ [])
one_left one s look missed = one (translation_of s.base.tag look) s.cached

two_left : TwoKeepNewest → (s : Sight) (look other : Look) → IsHeld s.cached → look.page ≢ other.page → LeavesNewest s (look ∷ other ∷ [])
two_left two s look other held ne missed =
    two (translation_of s.base.tag look) (translation_of s.base.tag other) s.cached held (apart_by s.base.tag look.page other.page look.hit (is_for s.base.tag other.page (translation_of s.base.tag look)) ne refl)

-- of one page there is no look, or one
IsOne : ℕ → List Look → Type 0
IsOne page looks = (looks ≡ []) ⊎ ((look : Look) × ((looks ≡ look ∷ []) × (page ≡ look.page)))

one_by : (s : Sight) (needs : Needs) (page : ℕ) (o : Option Look) (b : Bool) → look_at s needs page ≡ o → IsOne page (cons_option o (filter_map (look_at s needs) (if b then [] else [])))
unfolding IsOne
one_by s needs page None true is = inl refl
one_by s needs page None false is = inl refl
one_by s needs page (Some look) true is = inr (look, (refl, (look_by s page look (given s needs page) is).0))
one_by s needs page (Some look) false is = inr (look, (refl, (look_by s page look (given s needs page) is).0))

one_look : (s : Sight) (needs : Needs) (page : ℕ) → IsOne page (filter_map (look_at s needs) (up_to_refused (λ p. is_some (given s needs p)) (page ∷ [])))
one_look s needs page = one_by s needs page (look_at s needs page) (is_some (given s needs page)) refl

one_leaves : OneKeepsNewest → (s : Sight) (page : ℕ) (looks : List Look) → IsOne page looks → LeavesNewest s looks
unfolding IsOne
one_leaves one s page looks (inl none) = subst (LeavesNewest s) (sym none) (none_left s)
one_leaves one s page looks (inr (look, (is, at))) = subst (LeavesNewest s) (sym is) (one_left one s look)

more_leaves : OneKeepsNewest → TwoKeepNewest → (s : Sight) (look : Look) (page : ℕ) (looks : List Look) → IsHeld s.cached → look.page ≢ page → IsOne page looks → LeavesNewest s (look ∷ looks)
unfolding IsOne
more_leaves one two s look page looks held ne (inl none) = subst (λ l. LeavesNewest s (look ∷ l)) (sym none) (one_left one s look)
more_leaves one two s look page looks held ne (inr (other, (is, at))) =
    subst (λ l. LeavesNewest s (look ∷ l)) (sym is) (two_left two s look other held (λ same. ne (same ∙ sym at)))

pair_by : OneKeepsNewest → TwoKeepNewest → (s : Sight) (needs : Needs) (p q : ℕ) (o : Option Look) (b : Bool) → IsHeld s.cached → p ≢ q → look_at s needs p ≡ o → LeavesNewest s (cons_option o (filter_map (look_at s needs) (if b then up_to_refused (λ page. is_some (given s needs page)) (q ∷ []) else [])))
pair_by one two s needs p q None true held ne is = one_leaves one s q (filter_map (look_at s needs) (up_to_refused (λ page. is_some (given s needs page)) (q ∷ []))) (one_look s needs q)
pair_by one two s needs p q None false held ne is = none_left s
pair_by one two s needs p q (Some look) true held ne is =
    let at : p ≡ look.page = (look_by s p look (given s needs p) is).0 in
    more_leaves one two s look q (filter_map (look_at s needs) (up_to_refused (λ page. is_some (given s needs page)) (q ∷ []))) held (λ same. ne (at ∙ same)) (one_look s needs q)
pair_by one two s needs p q (Some look) false held ne is = one_left one s look

pages_by : OneKeepsNewest → TwoKeepNewest → (s : Sight) (needs : Needs) (at : ℕ) (b none single : Bool) → IsHeld s.cached → LeavesNewest s (filter_map (look_at s needs) (up_to_refused (λ page. is_some (given s needs page)) (if b then (if none then [] else (if single then page_of at ∷ [] else page_of at ∷ (page_of at + 4096) ∷ [])) else [])))
pages_by one two s needs at false none single held = none_left s
pages_by one two s needs at true true single held = none_left s
pages_by one two s needs at true false true held = one_leaves one s (page_of at) (filter_map (look_at s needs) (up_to_refused (λ page. is_some (given s needs page)) (page_of at ∷ []))) (one_look s needs (page_of at))
pages_by one two s needs at true false false held =
    pair_by one two s needs (page_of at) (page_of at + 4096) (look_at s needs (page_of at)) (is_some (given s needs (page_of at))) held (λ same. absurd (omega arith)) refl

filled_by : (s : Sight) (looks : List Look) (b : Bool) → b ≡ true → IsLeft s looks → (if b then with_looks s.base.tag looks s.cached else s.cached) ≡ newest 64 (without_looks s.base.tag looks s.cached ++ map (translation_of s.base.tag) looks)
filled_by s looks true is left = left
filled_by s looks false is left = cc

pub newest_left : OneKeepsNewest → TwoKeepNewest → (s : Sight) (access : Access) → IsHeld s.cached → is_to_fill (looks_of s access) ≡ true → filled_with s.base.tag (looks_of s access) s.cached ≡ newest 64 (without_looks s.base.tag (looks_at s access) s.cached ++ map (translation_of s.base.tag) (looks_at s access))
newest_left one two s access held missed =
    let lacked = (and_parts (is_some (places_given s access)) (list_any (λ (look : Look). not look.cached) (looks_at s access)) missed).1 in
    filled_by s (looks_at s access) (is_to_fill (looks_of s access)) missed (pages_by one two s access.needs access.at (ends_within access) (eqb access.width 0) (leb (access.at % 4096 + access.width) 4096) held lacked)
