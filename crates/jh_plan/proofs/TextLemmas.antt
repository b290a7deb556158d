-- Texts with commas between them, one by one.
use Rattle.std.proofs.Common.{◌≡◌, ℕ, ◌+◌, ◌<◌, List, [], ◌∷◌, ◌++◌, zero, suc, length, get_or, take, map, refl, sym, ap, ◌∙◌, arith, append_assoc, length-take}
use Rattle.std.proofs.lemmas.List.{map-append, take_more, length-map}
use Rattle.jh_plan.specs.SpecText.{comma, with_commas}

joined : (texts : List (List ℕ)) (text : List ℕ) → 0 < length texts → with_commas (texts ++ text ∷ []) ≡ with_commas texts ++ (44 ∷ text)
joined [] text some = absurd (omega (arith, some))
joined (x ∷ []) text some = refl
joined (x ∷ y ∷ more) text some =
    ap (λ rest. x ++ (44 ∷ rest)) (joined (y ∷ more) text (omega arith))
    ∙ sym (append_assoc x (44 ∷ with_commas (y ∷ more)) (44 ∷ text))

module _ {X : Type 0} (f : X → List ℕ) where
  listed_more : (xs : List X) (n : ℕ) (d : X) → n < length xs → map f (take (n + 1) xs) ≡ map f (take n xs) ++ f (get_or xs n d) ∷ []
  listed_more xs n d within = ap (map f) (take_more xs n d within) ∙ map-append f (take n xs) (get_or xs n d ∷ [])

  -- one text more
  pub listed : (xs : List X) (n : ℕ) (d : X) → n < length xs → with_commas (map f (take (n + 1) xs)) ≡ with_commas (map f (take n xs)) ++ (comma n ++ f (get_or xs n d))
  listed xs zero d within = ap with_commas (listed_more xs zero d within)
  listed xs (suc n) d within =
      ap with_commas (listed_more xs (suc n) d within)
      ∙ joined (map f (take (suc n) xs)) (f (get_or xs (suc n) d)) (omega (arith, length-map (take (suc n) xs) f, length-take (suc n) xs, within))
