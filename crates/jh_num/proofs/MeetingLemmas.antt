-- Two lists of ranges walked side by side.
use Rattle.std.proofs.Common.{◌≡◌, ℕ, ◌+◌, ◌<◌, ◌≤◌, suc, min, max, Bool, true, false, ◌&&◌, ◌||◌, List, [], ◌++◌, length, get_or, drop, sym, refl, ap, subst, ◌∙◌, ⊎_elim, arith}
use Rattle.std.specs.List.{All}
use Rattle.std.proofs.lemmas.Bool.{cases_lt, lt-ltb, le-ltb}
use Rattle.std.proofs.lemmas.List.{at_drop_more, get_or_read}
use Rattle.std.proofs.lemmas.List.Elements.{All-append, All-nil, All-cons}
use Rattle.jh_num.specs.declared.range.Range.{Range}
use Rattle.jh_num.specs.Bytes.{in_range, has_byte, AreApartFrom, AreApart}
use Rattle.jh_num.specs.Private.Pieces.{pieces}
use Rattle.jh_num.proofs.BytesLemmas.{has_byte_append, has_byte_pieces, below_range, above_range, within_range, AreApartFrom_append, AreApartFrom_after, absent_below, ends_before, same_byte}
use Rattle.jh_num.proofs.Booleans.{and_comm}
use Rattle.std.proofs.Math.Bool.{or-false}

-- what has been found of the bytes that both have, as far as the places i and j
pub record Meets (xs ys : List Range) (i j : ℕ) (met : List Range) : Type 0 where
  pub i_bound : i ≤ length xs
  pub j_bound : j ≤ length ys
  pub bytes : (b : ℕ) → (has_byte xs b && has_byte ys b) ≡ (has_byte met b || (has_byte (drop i xs) b && has_byte (drop j ys) b))
  pub apart : AreApart met
  pub ends : (k : ℕ) (d x y : Range) → k < length met → i < length xs → j < length ys → (get_or met k d).end < max (get_or xs i x).start (get_or ys j y).start

pub swapped : (xs ys : List Range) (i j : ℕ) (met : List Range) → Meets xs ys i j met → Meets ys xs j i met
swapped xs ys i j met h =
    record {
      i_bound = h.j_bound;
      j_bound = h.i_bound;
      bytes = λ b. and_comm (has_byte ys b) (has_byte xs b) ∙ h.bytes b ∙ ap (λ v. has_byte met b || v) (and_comm (has_byte (drop i xs) b) (has_byte (drop j ys) b));
      apart = h.apart;
      ends = λ k d y x l m n. let e = h.ends k d x y l n m in omega arith;
    }

-- the first range of one list, taken out of the test
taken : (m i d y : Bool) → (m || ((i || d) && y)) ≡ ((m || (i && y)) || (d && y))
taken m i d y =
    elim m as (λ v. (v || ((i || d) && y)) ≡ ((v || (i && y)) || (d && y))) [
      | true ↦ refl
      | false ↦ elim i as (λ w. ((w || d) && y) ≡ ((w && y) || (d && y))) [
        | true ↦ elim y as (λ z. z ≡ (z || (d && z))) [ true ↦ refl | false ↦ elim d as (λ u. false ≡ (u && false)) [ true ↦ refl | false ↦ refl ] ]
        | false ↦ refl
      ]
    ]

-- what ends first has the same bytes with the other range as with the rest of its list
met_here : (x y p : Range) (ys : List Range) (b : ℕ) → AreApartFrom (y.end + 1) ys → p.start ≡ max x.start y.start → p.end ≡ max (min x.end y.end) p.start → x.end ≤ y.end → (in_range x b && (in_range y b || has_byte ys b)) ≡ in_range p b
met_here x y p ys b a s e h =
    ⊎_elim
    (λ low. rw (below_range x b low) (sym (below_range p b (omega arith))))
    (λ high. ⊎_elim
    (λ inside.
    rw (within_range x b high inside, absent_below (y.end + 1) ys b a (omega arith))
    (or-false (in_range y b) ∙ same_byte y p b (λ i. omega arith) (λ i. omega arith) (λ i. omega arith) (λ i. omega arith)))
    (λ past. rw (above_range x b past) (outside p b (λ i. omega arith)))
    (cases_lt b x.end))
    (cases_lt b x.start)
  where
    outside : (p : Range) (b : ℕ) → (p.start ≤ b → p.end ≤ b) → false ≡ in_range p b
    outside p b h =
        ⊎_elim
        (λ low. sym (below_range p b low))
        (λ high. sym (above_range p b (h high)))
        (cases_lt b p.start)

-- a piece alone
one_piece : (low : ℕ) (p : Range) → low ≤ p.start → AreApartFrom low (pieces p)
one_piece low p h =
    ⊎_elim
    (λ some. rw (lt-ltb p.start p.end some) (h, some, tt))
    (λ none. rw (le-ltb p.start p.end none) tt)
    (cases_lt p.start p.end)

piece_ends : (bound : ℕ) (p : Range) → (p.start < p.end → p.end < bound) → All (λ (q : Range). q.end < bound) (pieces p)
piece_ends bound p h =
    ⊎_elim
    (λ some. rw (lt-ltb p.start p.end some) (All-cons (λ (q : Range). q.end < bound) p [] (h some) (All-nil (λ (q : Range). q.end < bound))))
    (λ none. rw (le-ltb p.start p.end none) (All-nil (λ (q : Range). q.end < bound)))
    (cases_lt p.start p.end)

pub stepped : (xs ys : List Range) (i j : ℕ) (met : List Range) (x y p : Range) → AreApart xs → AreApart ys → Meets xs ys i j met → i < length xs → j < length ys → x ≡ get_or xs i x → y ≡ get_or ys j y → p.start ≡ max x.start y.start → p.end ≡ max (min x.end y.end) p.start → x.end ≤ y.end → Meets xs ys (i + 1) j (met ++ pieces p)
stepped xs ys i j met x y p ax ay h li lj fx fy s e le =
    let after : AreApartFrom (y.end + 1) (drop (suc j) ys) = rw (← fy) at (AreApartFrom_after 0 j y ys ay lj) in
    let one : suc j ≡ j + 1 = omega arith in
    let rest : AreApartFrom (y.end + 1) (drop (j + 1) ys) = let P : ℕ → Type 0 = λ n. AreApartFrom (y.end + 1) (drop n ys) in subst P one after in
    let ends : (k : ℕ) (d : Range) → k < length met → (get_or met k d).end < p.start =
    λ k d l. let m = h.ends k d x y l li lj in let sx = ap (λ (q : Range). q.start) fx in let sy = ap (λ (q : Range). q.start) fy in omega arith in
    record {
      i_bound = omega arith;
      j_bound = h.j_bound;
      bytes = λ b.
          let dx : has_byte (drop i xs) b ≡ (in_range x b || has_byte (drop (i + 1) xs) b) =
          at_drop_more (λ zs. has_byte zs b) xs i x li ∙ ap (λ (q : Range). in_range q b || has_byte (drop (i + 1) xs) b) (sym fx) in
          let dy : has_byte (drop j ys) b ≡ (in_range y b || has_byte (drop (j + 1) ys) b) =
          at_drop_more (λ zs. has_byte zs b) ys j y lj ∙ ap (λ (q : Range). in_range q b || has_byte (drop (j + 1) ys) b) (sym fy) in
          h.bytes b
          ∙ ap (λ v. has_byte met b || (v && has_byte (drop j ys) b)) dx
          ∙ taken (has_byte met b) (in_range x b) (has_byte (drop (i + 1) xs) b) (has_byte (drop j ys) b)
          ∙ ap (λ v. (has_byte met b || v) || (has_byte (drop (i + 1) xs) b && has_byte (drop j ys) b)) (ap (λ v. in_range x b && v) dy ∙ met_here x y p (drop (j + 1) ys) b rest s e le ∙ sym (has_byte_pieces p b))
          ∙ ap (λ v. v || (has_byte (drop (i + 1) xs) b && has_byte (drop j ys) b)) (sym (has_byte_append met (pieces p) b));
      apart = AreApartFrom_append 0 p.start met (pieces p) (omega arith) h.apart ends (one_piece p.start p (omega arith));
      ends = λ k d x' y' l m n.
          let next : (get_or xs i x').end < (get_or xs (i + 1) x').start = ends_before 0 xs i (i + 1) x' ax (omega arith) m in
          let here : x.end ≡ (get_or xs i x').end = ap (λ (q : Range). q.end) (get_or_read xs i x li fx x') in
          let there : y.start ≡ (get_or ys j y').start = ap (λ (q : Range). q.start) (get_or_read ys j y lj fy y') in
          let bound = max (get_or xs (i + 1) x').start (get_or ys j y').start in
          let order = x.ordered in
          All-append (λ (q : Range). q.end < bound) met (pieces p)
          (λ k' d' l'. let f = ends k' d' l' in omega arith)
          (piece_ends bound p (λ some. omega arith))
          k d l;
    }
