-- Maps by name and sets of numbers, as they are seen through an `IndexMap` and an `IndexSet`.
use Rattle.std.proofs.Common.{◌≡◌, ℕ, Bool, true, false, cond, ◌||◌, List, [], ◌∷◌, ◌++◌, map, String, Some, refl, sym, ap, ◌∙◌, true≢false, eqb-true, arith, nat_eq, if◌then◌else◌}
use Rattle.std.specs.Ordering.{nat_cmp, eq_by_cmp}
use Rattle.std.specs.Cmp.{nat_cmp_total}
use Rattle.std.specs.Cmp.Lexicographic.{slice_cmp, nat_list_cmp_total}
use Rattle.std.specs.Str.{bytes_eq}
use Rattle.std.proofs.lemmas.Slice.Eq.{bytes_eq-Decides}
use Rattle.std.proofs.lemmas.Bool.Decides.{nat_tests}
use Rattle.std.specs.String.{string_bytes, string_eq}
use Rattle.std.specs.Map.{lookup}
use Rattle.std.specs.List.{list_any}
use Rattle.std.specs.FinMap as names
use Rattle.std.specs.FinSet as set
use Rattle.std.proofs.lemmas.Map.Text.{is_eq-slice_cmp}
use Rattle.indexmap.specs.IndexMap.{insert_entry}
use Rattle.indexmap.specs.IndexSet.{insert_key}

-- the bytes under each name
abbrev pub Names : Type 0
Names = names.FinMap (slice_cmp nat_cmp) (List ℕ)

other_text : (a b : List ℕ) → bytes_eq a b ≡ false → a ≡ b → ⊥
other_text a b e same = true≢false (sym ((bytes_eq-Decides a b).1 same) ∙ e)

tied_text : (a b : List ℕ) → eq_by_cmp (slice_cmp nat_cmp) a b ≡ true → a ≡ b
tied_text a b e = (bytes_eq-Decides a b).0 (sym (is_eq-slice_cmp a b) ∙ e)

chosen_twice : {A : Type 0} (s : Bool) (u v w : A) → cond s u w ≡ cond s u (cond s v w)
chosen_twice true u v w = refl
chosen_twice false u v w = refl

chosen_apart : {A : Type 0} (s t : Bool) (u v w : A) → (s ≡ true → t ≡ true → ⊥) → cond s u (cond t v w) ≡ cond t v (cond s u w)
chosen_apart true true u v w apart = absurd (apart refl refl)
chosen_apart true false u v w apart = refl
chosen_apart false t u v w apart = refl

same_names : (m n : Names) → ((q : List ℕ) → names.get m q ≡ names.get n q) → m ≡ n
same_names m n same = names.same_map nat_list_cmp_total (names.slice_cmp-IsAntisymmetric names.nat_cmp-IsAntisymmetric) m n same

after_put : (m : Names) (k v q : List ℕ) → names.get (names.insert m k v) q ≡ cond (eq_by_cmp (slice_cmp nat_cmp) q k) (Some v) (names.get m q)
after_put m k v q = names.get-insert nat_list_cmp_total m k v q

module _ (m : Names) (a b : List ℕ) (x y : List ℕ) where
  twice : names.insert m a y ≡ names.insert (names.insert m a x) a y
  twice = same_names _ _ (λ q.
      after_put m a y q ∙ chosen_twice (eq_by_cmp (slice_cmp nat_cmp) q a) _ _ _
      ∙ sym (after_put (names.insert m a x) a y q ∙ ap (cond (eq_by_cmp (slice_cmp nat_cmp) q a) (Some y)) (after_put m a x q)))

  -- what is put later under the same name stands
  insert_same : bytes_eq b a ≡ true → names.insert m a y ≡ names.insert (names.insert m a x) b y
  insert_same e = twice ∙ ap (λ k. names.insert (names.insert m a x) k y) (sym ((bytes_eq-Decides b a).0 e))

  -- two names may be put in either order
  insert_other : bytes_eq b a ≡ false → names.insert (names.insert m b y) a x ≡ names.insert (names.insert m a x) b y
  insert_other e = same_names _ _ (λ q.
      after_put (names.insert m b y) a x q ∙ ap (cond (eq_by_cmp (slice_cmp nat_cmp) q a) (Some x)) (after_put m b y q)
      ∙ chosen_apart _ _ _ _ _ (λ at_a at_b. other_text b a e (sym (tied_text q b at_b) ∙ tied_text q a at_a))
      ∙ sym (after_put (names.insert m a x) b y q ∙ ap (cond (eq_by_cmp (slice_cmp nat_cmp) q b) (Some y)) (after_put m a x q)))

module _ {Y : Type 0} where
  abbrev pub seen : List (String Y × List ℕ) → List (List ℕ × List ℕ)
  seen es = map (λ e. (string_bytes e.0, e.1)) es

  -- a look-up by name
  pub get_seen : (es : List (String Y × List ℕ)) (q : List ℕ) → names.get (names.from_entries {R = slice_cmp nat_cmp} (seen es)) q ≡ lookup (λ k. bytes_eq q (string_bytes k)) es
  get_seen [] q = names.get-empty (slice_cmp nat_cmp) q
  get_seen (e ∷ es) q =
      names.get-insert nat_list_cmp_total _ _ _ q
      ∙ (λ i. cond (is_eq-slice_cmp q (string_bytes e.0) i) (Some e.1) (get_seen es q i))

  -- an insertion
  pub insert_seen : (es : List (String Y × List ℕ)) (k : String Y) (v : List ℕ) →
      names.from_entries {R = slice_cmp nat_cmp} (seen (insert_entry string_eq es k v)) ≡ names.insert (names.from_entries (seen es)) (string_bytes k) v
  insert_seen [] k v = refl
  insert_seen (e ∷ es) k v = by (string_eq k e.0) refl (insert_seen es k v)
    where
      by : (b : Bool) → string_eq k e.0 ≡ b →
          names.from_entries {R = slice_cmp nat_cmp} (seen (insert_entry string_eq es k v)) ≡ names.insert (names.from_entries (seen es)) (string_bytes k) v →
          names.from_entries {R = slice_cmp nat_cmp} (seen (if b then (e.0, v) ∷ es else e ∷ insert_entry string_eq es k v)) ≡ names.insert (names.from_entries (seen (e ∷ es))) (string_bytes k) v
      by true p rest = insert_same _ _ _ _ _ p
      by false p rest = ap (λ m. names.insert m (string_bytes e.0) e.1) rest ∙ insert_other _ _ _ _ _ p

tied_number : (x y : ℕ) → eq_by_cmp nat_cmp x y ≡ nat_eq x y
tied_number x y = grind (arith, nat_tests)

-- a look-up of a number
pub contains_kept : (ks : List ℕ) (q : ℕ) → set.contains (set.from_list {R = nat_cmp} ks) q ≡ list_any (nat_eq q) ks
contains_kept ks q = set.contains-from_list nat_cmp_total ks q ∙ ap (λ test. list_any test ks) (λ i y. tied_number q y i)

-- an insertion into a set
pub insert_kept : (ks : List ℕ) (k : ℕ) → set.from_list {R = nat_cmp} (insert_key nat_eq ks k) ≡ set.insert (set.from_list ks) k
insert_kept ks k = by (list_any (nat_eq k) ks) refl
  where
    there : (q : ℕ) (b : Bool) → eq_by_cmp nat_cmp q k ≡ b → list_any (nat_eq k) ks ≡ true → set.contains (set.from_list {R = nat_cmp} ks) q ≡ (b || set.contains (set.from_list {R = nat_cmp} ks) q)
    there q true tied p = ap (set.contains (set.from_list {R = nat_cmp} ks)) (eqb-true q k (sym (tied_number q k) ∙ tied)) ∙ contains_kept ks k ∙ p
    there q false tied p = refl

    by : (b : Bool) → list_any (nat_eq k) ks ≡ b → set.from_list {R = nat_cmp} (if b then ks else ks ++ k ∷ []) ≡ set.insert (set.from_list ks) k
    by true p = set.same_set nat_cmp_total set.nat_cmp-IsAntisymmetric _ _ (λ q. there q _ refl p ∙ sym (set.contains-insert nat_cmp_total _ k q))
    by false p = set.from_list_push nat_cmp_total set.nat_cmp-IsAntisymmetric ks k
