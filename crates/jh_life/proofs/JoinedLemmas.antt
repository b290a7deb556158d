-- Marks joined with configurations, the records at each change, and the index that a search finds.
use Rattle.std.proofs.Common.{◌≡◌, ℕ, suc, ◌+◌, ◌-◌, ◌<◌, nat_lt, Bool, true, false, cond, List, [], ◌∷◌, ◌++◌, length, get_or, map, remove, position, sum_by, Some, None, refl, sym, ap, subst, ◌∙◌, arith}
use Rattle.std.specs.Prelude.{option_map}
use Rattle.std.specs.List.{position_or_len}
use Rattle.std.proofs.lemmas.Bool.{ltb-true}
use Rattle.std.proofs.lemmas.Bool.Decides.{nat_tests}
use Rattle.std.proofs.lemmas.Option.{none-some, same_Some}
use Rattle.std.proofs.lemmas.List.{length_push, map_push, get_or-map}
use Rattle.std.proofs.lemmas.List.Edits.{length-remove}
use Rattle.std.proofs.lemmas.List.Sums.{sum_by_push, sum_by-remove}
use Rattle.std.proofs.lemmas.List.Quantifiers.{all_pairs_push, all_pairs_remove}
use Rattle.jh_num.proofs.Public.{list_any_false, map_remove, read_again}
use Rattle.jh_cellcfg.specs.declared.config.CellConfig.{CellConfig}
use Rattle.jh_check.specs.Refusals.{is_namesake, is_known, AreTwo}
use Rattle.jh_shape.specs.Lives.{marks_of, with_marks}
use Rattle.jh_life.specs.SoundRecords.{AreSoundRecords}
use Rattle.jh_shape.specs.Pages.{own_pages}

pub marks_joined : (configs : List CellConfig) (marks : List Bool) → length marks ≡ length configs → marks_of (with_marks configs marks) ≡ marks
marks_joined [] [] e = refl
marks_joined [] (m ∷ ms) e = absurd (omega arith)
marks_joined (c ∷ cs) [] e = absurd (omega arith)
marks_joined (c ∷ cs) (m ∷ ms) e = ap (λ (rest : List Bool). m ∷ rest) (marks_joined cs ms (omega arith))

-- the records stand at each change
pub stands_push : (root : CellConfig) (configs : List CellConfig) (marks : List Bool) (own : List ℕ) (taken : ℕ) (new : CellConfig) (more : ℕ) → AreSoundRecords root configs marks own taken → length configs < 15 → is_known (root ∷ configs) new ≡ false → more ≡ own_pages new → AreSoundRecords root (configs ++ new ∷ []) (marks ++ false ∷ []) (own ++ more ∷ []) (taken + more)
stands_push root configs marks own taken new more h few unknown is =
    let even = h.even in
    let a = length_push configs new in
    let b = length_push marks false in
    record {
      even = omega arith;
      few = omega arith;
      differ = all_pairs_push AreTwo (root ∷ configs) new h.differ (λ k d l.
          list_any_false (is_namesake new) (root ∷ configs) (get_or (root ∷ configs) k d) unknown (k, l, sym (read_again (root ∷ configs) k d l)));
      each = ap (λ (ns : List ℕ). ns ++ more ∷ []) h.each ∙ ap (λ (n : ℕ). map own_pages configs ++ n ∷ []) is ∙ sym (map_push own_pages configs new);
      pages = ap (λ n. n + more) h.pages ∙ ap (λ n. sum_by own_pages configs + n) is ∙ sym (sum_by_push own_pages configs new);
    }

-- those of one of them are among the pages that are taken
pub own_among : (root : CellConfig) (configs : List CellConfig) (marks : List Bool) (own : List ℕ) (taken i e gone : ℕ) → AreSoundRecords root configs marks own taken → i < length configs → gone ≡ get_or own i e → sum_by own_pages (remove configs i) + gone ≡ taken
own_among root configs marks own taken i e gone h l is =
    let pages : gone ≡ own_pages (get_or configs i root) = is ∙ ap (λ (ns : List ℕ). get_or ns i e) h.each ∙ get_or-map own_pages configs i root e l in
    ap (λ n. sum_by own_pages (remove configs i) + n) pages ∙ sum_by-remove own_pages configs i root l ∙ sym h.pages

pub stands_remove : (root : CellConfig) (configs : List CellConfig) (marks : List Bool) (own : List ℕ) (taken i e gone : ℕ) → AreSoundRecords root configs marks own taken → i < length configs → gone ≡ get_or own i e → AreSoundRecords root (remove configs i) (remove marks i) (remove own i) (taken - gone)
stands_remove root configs marks own taken i e gone h l is =
    let even = h.even in
    let few = h.few in
    let a = length-remove configs i l in
    let b = length-remove marks i (omega arith) in
    let among : sum_by own_pages (remove configs i) + gone ≡ taken = own_among root configs marks own taken i e gone h l is in
    record {
      even = omega arith;
      few = omega arith;
      differ = all_pairs_remove AreTwo (root ∷ configs) (suc i) (omega arith) h.differ;
      each = ap (λ (ns : List ℕ). remove ns i) h.each ∙ sym (map_remove own_pages configs i);
      pages = omega arith;
    }

-- the first index behind one that fails
behind : (n m : ℕ) → cond (nat_lt (1 + n) (suc m)) (Some (1 + n)) None ≡ option_map (λ k. k + 1) (cond (nat_lt n m) (Some n) None)
behind n m =
    let e : nat_lt (1 + n) (suc m) ≡ nat_lt n m = grind (arith, nat_tests) in
    let one : 1 + n ≡ n + 1 = omega arith in
    ap (λ (b : Bool). cond b (Some (1 + n)) None) e
    ∙ ap (λ (k : ℕ). cond (nat_lt n m) (Some k) None) one
    ∙ elim (nat_lt n m) as (λ b. cond b (Some (n + 1)) None ≡ option_map (λ k. k + 1) (cond b (Some n) None)) [ true ↦ refl | false ↦ refl ]

pub position_behind : {X : Type 0} (p : X → Bool) (x : X) (xs : List X) → p x ≡ false → position p (x ∷ xs) ≡ option_map (λ k. k + 1) (position p xs)
position_behind p x xs fails = rw fails (behind (position_or_len p xs) (length xs))

-- an index that is found is in the list
within_by : (b : Bool) (n m k : ℕ) → nat_lt n m ≡ b → cond b (Some n) None ≡ Some k → k < m
within_by true n m k is h = subst (λ i. i < m) (same_Some n k h) (ltb-true n m is)
within_by false n m k is h = absurd (none-some k h)

pub position_within : {X : Type 0} (p : X → Bool) (xs : List X) (k : ℕ) → position p xs ≡ Some k → k < length xs
position_within p xs k h = within_by (nat_lt (position_or_len p xs) (length xs)) (position_or_len p xs) (length xs) k refl h
