-- Beginnings of one history, and the entries of one caller in them.
use Rattle.std.proofs.Common.{◌≡◌, ◌≢◌, ℕ, ◌==◌, Bool, cond, List, [], ◌∷◌, ◌++◌, All, refl, ap, sym, ◌∙◌, inl, inr, append_assoc, append-nil, eq-eqb, ne_eqb}
use Rattle.std.proofs.lemmas.List.{append_cancel_left}
use Rattle.std.proofs.lemmas.List.Elements.{filter-append, All-nil, All-cons}
use mathlib.Core.List.{IsPrefix}
use mathlib.Core.Logic.{dite}
use native.Mathlib.Decide.{ℕ_discrete}
use Rattle.jh_turn.specs.Histories.{entries_of, Grows, IsMadeBy}

module _ {A : Type 0} where
  pub prefix_self : (xs : List A) → IsPrefix xs xs
  prefix_self xs = ([], append-nil xs)

  pub prefix_trans : (xs ys zs : List A) → IsPrefix xs ys → IsPrefix ys zs → IsPrefix xs zs
  prefix_trans xs ys zs p q = (p.0 ++ q.0, sym (append_assoc xs p.0 q.0) ∙ (ap (λ w. w ++ q.0) p.1 ∙ q.1))

module _ {E : Type 0} (whose : E → ℕ) where
  pub entries_append : (who : ℕ) (xs ys : List E) → entries_of whose who (xs ++ ys) ≡ entries_of whose who xs ++ entries_of whose who ys
  entries_append who xs ys = filter-append (λ e. whose e == who) xs ys

  entries_of_other : (who : ℕ) (e : E) → who ≢ whose e → entries_of whose who (e ∷ []) ≡ []
  entries_of_other who e other = ap (λ (b : Bool). cond b (e ∷ []) []) (ne_eqb (whose e) who (λ same. other (sym same)))

  entries_of_its : (who : ℕ) (e : E) → whose e ≡ who → entries_of whose who (e ∷ []) ≡ e ∷ []
  entries_of_its who e its = ap (λ (b : Bool). cond b (e ∷ []) []) (eq-eqb (whose e) who its)

  -- what a turn makes is the caller's
  pub entries_made : (who : ℕ) (made : List E) → IsMadeBy whose who made → entries_of whose who made ≡ made
  entries_made who made (inl none) = ap (entries_of whose who) none ∙ sym none
  entries_made who made (inr one) = ap (entries_of whose who) one.2 ∙ (entries_of_its who one.0 one.1 ∙ sym one.2)

  -- what was made, of a history that grew
  pub grown_by : (who : ℕ) (before after : List E) → Grows whose who before after → (made : List E) × IsMadeBy whose who made × (after ≡ before ++ made)
  grown_by who before after (inl same) = ([], inl refl, same ∙ sym (append-nil before))
  grown_by who before after (inr added) = (added.0 ∷ [], inr (added.0, added.1, refl), added.2)

  -- what another caller adds leaves this caller's entries
  pub others_stay : (who other : ℕ) (before after : List E) → other ≢ who → Grows whose who before after → entries_of whose other after ≡ entries_of whose other before
  others_stay who other before after apart (inl same) = ap (entries_of whose other) same
  others_stay who other before after apart (inr added) =
      ap (entries_of whose other) added.2 ∙ (entries_append other before (added.0 ∷ []) ∙ (ap (λ w. entries_of whose other before ++ w) (entries_of_other other added.0 (λ same. apart (same ∙ added.1))) ∙ append-nil (entries_of whose other before)))

  pub grows_on : (who : ℕ) (before after : List E) → Grows whose who before after → IsPrefix before after
  grows_on who before after (inl same) = ([], append-nil before ∙ sym same)
  grows_on who before after (inr added) = (added.0 ∷ [], sym added.2)

  all_others : (who : ℕ) (xs : List E) → entries_of whose who xs ≡ [] → All (λ e. whose e ≢ who) xs
  all_others who [] none = All-nil (λ e. whose e ≢ who)
  all_others who (x ∷ xs) none = dite (ℕ_discrete (whose x) who)
      (λ its. let found : x ∷ entries_of whose who xs ≡ [] = ap (λ (b : Bool). cond b (x ∷ entries_of whose who xs) (entries_of whose who xs)) (sym (eq-eqb (whose x) who its)) ∙ none in absurd (cc found))
      (λ not. All-cons (λ e. whose e ≢ who) x xs not (all_others who xs (ap (λ (b : Bool). cond b (x ∷ entries_of whose who xs) (entries_of whose who xs)) (sym (ne_eqb (whose x) who not)) ∙ none)))

  -- where a caller has no entry past xs, each entry there is another's
  pub foreign_rest : (who : ℕ) (xs ys : List E) → entries_of whose who (xs ++ ys) ≡ entries_of whose who xs → All (λ e. whose e ≢ who) ys
  foreign_rest who xs ys same = let f = entries_of whose who in all_others who ys (append_cancel_left (f xs) (f ys) [] (sym (entries_append who xs ys) ∙ (same ∙ sym (append-nil (f xs)))))
