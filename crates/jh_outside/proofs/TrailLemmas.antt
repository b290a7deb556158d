-- What follows of reads, for whoever reads files one after another.
use Rattle.std.proofs.Common.{◌≡◌, ℕ, ◌+◌, ◌<◌, List, [], ◌∷◌, ◌++◌, length, get_or, take, map, refl, sym, ap, subst, ◌∙◌, append_assoc}
use Rattle.std.proofs.lemmas.List.{take_more, map_push}
use Rattle.jh_outside.specs.declared.files.Files.{Ghosts}
use Rattle.jh_outside.specs.Ask.{Ask, kept_name, handed}
use Rattle.jh_outside.specs.Trail.{Asks, no_ask, one_more_ask, AsksAll, AsksUpTo}

map_both : (xs ys : List (List ℕ)) → map handed (xs ++ ys) ≡ map handed xs ++ map handed ys
map_both [] ys = refl
map_both (x ∷ xs) ys = ap (λ zs. handed x ∷ zs) (map_both xs ys)

module _ {S : Type 0} (files : Ghosts S) where
  pub asks_alone : (s t : S) (ask : Ask) → files.asks s ask t → files.failed t ≡ kept_name (files.failed s) ask.name ask.answer → Asks files s (ask ∷ []) t
  asks_alone s t ask is name = one_more_ask s t t ask [] is name (no_ask t)

  pub asks_both : (s t u : S) (xs ys : List Ask) → Asks files s xs t → Asks files t ys u → Asks files s (xs ++ ys) u
  asks_both s t u xs ys (no_ask v) next = next
  asks_both s t u xs ys (one_more_ask v w x ask asks is name rest) next = one_more_ask v w u ask (asks ++ ys) is name (asks_both w x u asks ys rest next)

  pub all_both : (s t u : S) (xs ys : List (List ℕ)) → AsksAll files xs s t → AsksAll files ys t u → AsksAll files (xs ++ ys) s u
  all_both s t u xs ys first next = subst (λ asks. Asks files s asks u) (sym (map_both xs ys)) (asks_both s t u (map handed xs) (map handed ys) first next)

  -- the last read behind files that were read
  pub up_to_last : (s t u : S) (names : List (List ℕ)) (last : Ask) → AsksAll files names s t → Asks files t (last ∷ []) u → AsksUpTo files names last s u
  up_to_last s t u names last first next = asks_both s t u (map handed names) (last ∷ []) first next

  pub up_to_behind : (s t u : S) (xs ys : List (List ℕ)) (last : Ask) → AsksAll files xs s t → AsksUpTo files ys last t u → AsksUpTo files (xs ++ ys) last s u
  up_to_behind s t u xs ys last first next =
      let closing = last ∷ [] in
      subst (λ asks. Asks files s asks u) (sym (ap (λ zs. zs ++ closing) (map_both xs ys) ∙ append_assoc (map handed xs) (map handed ys) closing)) (asks_both s t u (map handed xs) (map handed ys ++ closing) first next)

-- ---- the loops

module _ {X : Type 0} (name_of : X → List ℕ) where
  pub names_more : (xs : List X) (i : ℕ) (x : X) → i < length xs → x ≡ get_or xs i x → map name_of (take i xs) ++ name_of x ∷ [] ≡ map name_of (take (i + 1) xs)
  names_more xs i x lt is =
      sym (map_push name_of (take i xs) x) ∙ ap (map name_of) (ap (λ y. take i xs ++ y ∷ []) is ∙ sym (take_more xs i x lt))

  module _ {S : Type 0} (files : Ghosts S) where
    pub loop_more : (s t u : S) (xs : List X) (i : ℕ) (x : X) → i < length xs → x ≡ get_or xs i x → AsksAll files (map name_of (take i xs)) s t
        → Asks files t (handed (name_of x) ∷ []) u → AsksAll files (map name_of (take (i + 1) xs)) s u
    loop_more s t u xs i x lt is before asked =
        subst (λ names. AsksAll files names s u) (names_more xs i x lt is) (all_both files s t u (map name_of (take i xs)) (name_of x ∷ []) before asked)
