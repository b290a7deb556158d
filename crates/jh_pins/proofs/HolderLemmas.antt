-- Who holds a pin, by the place of a cell among those that may.
use Rattle.std.proofs.Common.{◌≡◌, ◌≢◌, ℕ, zero, suc, ◌+◌, ◌-◌, ◌<◌, ◌≤◌, Bool, true, false, cond, eqb, not, ◌&&◌, ◌||◌, List, [], ◌∷◌, ◌++◌, length, get_or, take, drop, remove, Option, Some, None, refl, sym, ap, subst, ◌∙◌, ⊎_elim, append_assoc, arith}
use Rattle.std.specs.Prelude.{All, find, filter, option_map, position}
use Rattle.std.specs.Option.{option_map_or, option_or}
use Rattle.std.specs.List.{list_any, position_or_len}
use Rattle.std.proofs.lemmas.Bool.{and_right, both_ways, cases_lt, eq-eqb, eqb-true, lt-ltb, ne_eqb}
use Rattle.std.proofs.lemmas.Option.{none-some}
use Rattle.std.proofs.lemmas.List.{get_or-drop, get_or-take, get_or_default, length-drop, length-take-le}
use Rattle.std.proofs.lemmas.List.Elements.{All-append, All-cons, All-head, All-nil, All-tail}
use Rattle.std.proofs.lemmas.List.Folds.{find-append, list_any_more}
use Rattle.std.proofs.lemmas.List.Quantifiers.{position-Some}
use Rattle.std.proofs.lemmas.List.Sums.{fails_before_first}
use Rattle.jh_pins.specs.declared.pin.Pin.{Pin}
use Rattle.jh_pins.specs.Claims.{Claim}
use Rattle.jh_pins.specs.Pins.{is_named_by}
use Rattle.jh_pins.specs.TableView.{TableView, AreTwoCells, HaveOwnIds}
use Rattle.jh_pins.specs.Holders.{id_of, holder, is_held_by, has_id, is_other}
use Rattle.jh_pins.specs.Private.Pieces.{names, is_left, is_without}

-- ---- the first that passes a test, by its id

-- the claim, if there is one, is of the cell with the id
abbrev by_id : ℕ → Option Claim → Bool
by_id id claim = option_map_or (λ of. eqb of id) (option_map id_of claim) false

none_step : (b : Bool) (id : ℕ) (x : Claim) (o : Option Claim) → x.id ≢ id → by_id id o ≡ false → by_id id (cond b (Some x) o) ≡ false
none_step true id x o ne h = ne_eqb x.id id ne
none_step false id x o ne h = h

here : (b : Bool) (id : ℕ) (x : Claim) (o : Option Claim) → x.id ≡ id → by_id id o ≡ false → by_id id (cond b (Some x) o) ≡ (b && not false)
here true id x o is h = eq-eqb x.id id is
here false id x o is h = h

later : (b : Bool) (id : ℕ) (x : Claim) (o : Option Claim) (w a : Bool) → x.id ≢ id → by_id id o ≡ (w && not a) → by_id id (cond b (Some x) o) ≡ (w && not (b || a))
later true id x o w a ne h = ne_eqb x.id id ne ∙ sym (and_right w false refl)
later false id x o w a ne h = h

-- none of these has the id
abbrev pub AreOthers : ℕ → List Claim → Type 0
AreOthers id claims = All (λ (claim : Claim). claim.id ≢ id) claims

pub none_by_id : (id : ℕ) (test : Claim → Bool) (claims : List Claim) → AreOthers id claims → by_id id (find test claims) ≡ false
none_by_id id test [] others = refl
none_by_id id test (x ∷ xs) others =
    none_step (test x) id x (find test xs) (All-head (λ (c : Claim). c.id ≢ id) x xs others) (none_by_id id test xs (All-tail (λ (c : Claim). c.id ≢ id) x xs others))

first_by_id : (id : ℕ) (test : Claim → Bool) (before : List Claim) (own : Claim) (behind : List Claim) → AreOthers id before → own.id ≡ id → AreOthers id behind → by_id id (find test (before ++ own ∷ behind)) ≡ (test own && not (list_any test before))
first_by_id id test [] own behind early is late = here (test own) id own (find test behind) is (none_by_id id test behind late)
first_by_id id test (x ∷ xs) own behind early is late =
    later (test x) id x (find test (xs ++ own ∷ behind)) (test own) (list_any test xs) (All-head (λ (c : Claim). c.id ≢ id) x xs early)
    (first_by_id id test xs own behind (All-tail (λ (c : Claim). c.id ≢ id) x xs early) is late)

-- ---- a cell at its place

others_before : (root : Claim) (cells : List Claim) (i : ℕ) (d : Claim) → HaveOwnIds root cells → i < length cells → AreOthers (get_or cells i d).id (take i cells)
others_before root cells i d own lt k e kl =
    let n : length (take i cells) ≡ i = length-take-le i cells (omega arith) in
    let below : k < i = omega arith in
    let P : Claim → Type 0 = λ x. x.id ≢ (get_or cells i d).id in
    let Q : Claim → Type 0 = λ y. AreTwoCells (get_or cells k e) y in
    let pair : AreTwoCells (get_or cells k e) (get_or cells i e) = own (suc k) (suc i) e (omega arith) (omega arith) in
    subst P (sym (get_or-take i cells k e below)) (subst Q (get_or_default cells i e d lt) pair)

others_behind : (root : Claim) (cells : List Claim) (i : ℕ) (d : Claim) → HaveOwnIds root cells → i < length cells → AreOthers (get_or cells i d).id (drop (suc i) cells)
others_behind root cells i d own lt k e kl =
    let n : length (drop (suc i) cells) ≡ length cells - suc i = length-drop (suc i) cells in
    let P : Claim → Type 0 = λ x. x.id ≢ (get_or cells i d).id in
    let Q : Claim → Type 0 = λ y. AreTwoCells y (get_or cells (suc i + k) e) in
    let pair : AreTwoCells (get_or cells i e) (get_or cells (suc i + k) e) = own (suc i) (suc (suc i + k)) e (omega arith) (omega arith) in
    let two : AreTwoCells (get_or cells i d) (get_or cells (suc i + k) e) = subst Q (get_or_default cells i e d lt) pair in
    subst P (sym (get_or-drop (suc i) cells k e)) (λ same. two (sym same))

other_root : (root : Claim) (cells : List Claim) (i : ℕ) (d : Claim) → HaveOwnIds root cells → i < length cells → root.id ≢ (get_or cells i d).id
other_root root cells i d own lt = own 0 (suc i) d (omega arith) (omega arith)

pub split_by : {X : Type 0} (xs : List X) (i : ℕ) (d : X) → i < length xs → drop i xs ≡ get_or xs i d ∷ drop (suc i) xs
split_by {X} [] i d lt = absurd (omega arith)
split_by {X} (x ∷ xs) zero d lt = refl
split_by {X} (x ∷ xs) (suc i) d lt = split_by xs i d (omega arith)

-- a list around one of its elements
pub around : {X : Type 0} (xs : List X) (i : ℕ) (d : X) → i < length xs → take i xs ++ get_or xs i d ∷ drop (suc i) xs ≡ xs
around {X} [] i d lt = absurd (omega arith)
around {X} (x ∷ xs) zero d lt = refl
around {X} (x ∷ xs) (suc i) d lt = ap (λ (l : List X). x ∷ l) (around xs i d (omega arith))

-- a cell holds what it names and no earlier one does
pub held_at : (table : TableView) (i id : ℕ) (d : Claim) (pin : Pin) → HaveOwnIds table.root table.cells → i < length table.cells → (get_or table.cells i d).id ≡ id
    → (is_named_by pin (get_or table.cells i d) && not (list_any (is_named_by pin) (take i table.cells))) ≡ is_held_by table id pin
held_at table i id d pin own lt is =
    let cells = table.cells in
    let root = table.root in
    let cell = get_or cells i d in
    let test : Claim → Bool = is_named_by pin in
    let P : ℕ → Type 0 = λ n. AreOthers n (take i cells) in
    let Q : ℕ → Type 0 = λ n. AreOthers n (drop (suc i) cells ++ root ∷ []) in
    let last : AreOthers cell.id (root ∷ []) = All-cons (λ (c : Claim). c.id ≢ cell.id) root [] (other_root root cells i d own lt) (All-nil (λ (c : Claim). c.id ≢ cell.id)) in
    let behind : AreOthers cell.id (drop (suc i) cells ++ root ∷ []) = All-append (λ (c : Claim). c.id ≢ cell.id) (drop (suc i) cells) (root ∷ []) (others_behind root cells i d own lt) last in
    let e : take i cells ++ cell ∷ (drop (suc i) cells ++ root ∷ []) ≡ cells ++ root ∷ [] = sym (append_assoc (take i cells) (cell ∷ drop (suc i) cells) (root ∷ [])) ∙ ap (λ (l : List Claim). l ++ root ∷ []) (around cells i d lt) in
    sym (first_by_id id test (take i cells) cell (drop (suc i) cells ++ root ∷ []) (subst P is (others_before root cells i d own lt)) is (subst Q is behind))
    ∙ ap (λ (l : List Claim). by_id id (find test l)) e

-- root holds what it names and no cell does
pub held_by_root : (table : TableView) (id : ℕ) (pin : Pin) → HaveOwnIds table.root table.cells → table.root.id ≡ id
    → (is_named_by pin table.root && not (list_any (is_named_by pin) table.cells)) ≡ is_held_by table id pin
held_by_root table id pin own is =
    let others : AreOthers table.root.id table.cells = λ k d lt same. own 0 (suc k) d (omega arith) (omega arith) (sym same) in
    let P : ℕ → Type 0 = λ n. AreOthers n table.cells in
    sym (first_by_id id (is_named_by pin) table.cells table.root [] (subst P is others) is (All-nil (λ (c : Claim). c.id ≢ id)))

-- no cell has the id
pub held_by_none : (table : TableView) (id : ℕ) (pin : Pin) → table.root.id ≢ id → AreOthers id table.cells → is_held_by table id pin ≡ false
held_by_none table id pin root cells =
    none_by_id id (is_named_by pin) (table.cells ++ table.root ∷ [])
    (All-append (λ (c : Claim). c.id ≢ id) table.cells (table.root ∷ []) cells (All-cons (λ (c : Claim). c.id ≢ id) table.root [] root (All-nil (λ (c : Claim). c.id ≢ id))))

-- what the cell names, and neither those so far nor one more does
pub one_left_more : (own : Claim) (others : List Claim) (i : ℕ) (other : Claim) (pin : Pin) → i < length others → other ≡ get_or others i other → is_without (is_left own (take i others)) (names other) pin ≡ is_left own (take (i + 1) others) pin
one_left_more own others i other pin lt is =
    both_not (is_named_by pin own) (list_any (is_named_by pin) (take i others)) (is_named_by pin other)
    ∙ ap (λ b. is_named_by pin own && not b) (ap (λ (x : Claim). list_any (is_named_by pin) (take i others) || is_named_by pin x) is ∙ sym (list_any_more (is_named_by pin) others i other lt))
  where
    both_not : (a b c : Bool) → ((a && not b) && not c) ≡ (a && not (b || c))
    both_not true true c = refl
    both_not true false c = refl
    both_not false b c = refl

-- ---- the place of an id

pub nowhere : (id : ℕ) (cells : List Claim) → position (has_id id) cells ≡ None → AreOthers id cells
nowhere id cells none k d lt same =
    ⊎_elim
    (λ (found : position_or_len (has_id id) cells < length cells).
    let some : position (has_id id) cells ≡ Some (position_or_len (has_id id) cells) = ap (λ b. cond b (Some (position_or_len (has_id id) cells)) None) (lt-ltb (position_or_len (has_id id) cells) (length cells) found) in
    none-some (position_or_len (has_id id) cells) (sym none ∙ some))
    (λ (past : length cells ≤ position_or_len (has_id id) cells).
    both_ways (has_id id (get_or cells k d)) (fails_before_first (has_id id) cells k d (omega arith)) (eq-eqb (get_or cells k d).id id same))
    (cases_lt (position_or_len (has_id id) cells) (length cells))

pub somewhere : (id i : ℕ) (cells : List Claim) (d : Claim) → position (has_id id) cells ≡ Some i → (i < length cells) × ((get_or cells i d).id ≡ id)
somewhere id i cells d some =
    let at = position-Some (has_id id) cells i d some in
    (at.0, eqb-true (get_or cells i d).id id at.1)

-- ---- a cell is taken out

pub none_other : (id : ℕ) (cells : List Claim) → AreOthers id cells → filter (is_other id) cells ≡ cells
none_other id [] others = refl
none_other id (x ∷ xs) others =
    let first : has_id id x ≡ false = ne_eqb x.id id (others 0 x (omega arith)) in
    rw first (ap (λ (rest : List Claim). x ∷ rest) (none_other id xs (All-tail (λ (c : Claim). c.id ≢ id) x xs others)))

pub out_of : (id : ℕ) (before : List Claim) (own : Claim) (behind : List Claim) → AreOthers id before → own.id ≡ id → AreOthers id behind → filter (is_other id) (before ++ own ∷ behind) ≡ before ++ behind
out_of id [] own behind early is late =
    let first : has_id id own ≡ true = eq-eqb own.id id is in
    rw first (none_other id behind late)
out_of id (x ∷ xs) own behind early is late =
    let first : has_id id x ≡ false = ne_eqb x.id id (early 0 x (omega arith)) in
    rw first (ap (λ (rest : List Claim). x ∷ rest) (out_of id xs own behind (All-tail (λ (c : Claim). c.id ≢ id) x xs early) is late))

pub dropped : (root : Claim) (cells : List Claim) (id i : ℕ) → HaveOwnIds root cells → position (has_id id) cells ≡ Some i → remove cells i ≡ filter (is_other id) cells
dropped root cells id i own some =
    let at = somewhere id i cells root some in
    let P : ℕ → Type 0 = λ n. AreOthers n (take i cells) in
    let Q : ℕ → Type 0 = λ n. AreOthers n (drop (suc i) cells) in
    sym (out_of id (take i cells) (get_or cells i root) (drop (suc i) cells) (subst P at.1 (others_before root cells i root own at.0)) at.1 (subst Q at.1 (others_behind root cells i root own at.0)))
    ∙ ap (filter (is_other id)) (around cells i root at.0)

-- ---- the first that names a pin

pub find_next : (test : Claim → Bool) (xs : List Claim) (i : ℕ) (d : Claim) → i < length xs → test (get_or xs i d) ≡ false → find test (drop i xs) ≡ find test (drop (i + 1) xs)
find_next test xs i d lt fails =
    let next : suc i ≡ i + 1 = omega arith in
    ap (find test) (split_by xs i d lt) ∙ ap (λ b. cond b (Some (get_or xs i d)) (find test (drop (suc i) xs))) fails ∙ ap (λ n. find test (drop n xs)) next

pub find_here : (test : Claim → Bool) (xs : List Claim) (i : ℕ) (d : Claim) → i < length xs → test (get_or xs i d) ≡ true → find test (drop i xs) ≡ Some (get_or xs i d)
find_here test xs i d lt passes = ap (find test) (split_by xs i d lt) ∙ ap (λ b. cond b (Some (get_or xs i d)) (find test (drop (suc i) xs))) passes

pub find_end : (test : Claim → Bool) (xs : List Claim) → find test (drop (length xs) xs) ≡ None
find_end test [] = refl
find_end test (x ∷ xs) = find_end test xs

some_first : (o r : Option Claim) (id : ℕ) → Some id ≡ option_map id_of o → Some id ≡ option_map id_of (option_or o r)
some_first None r id h = absurd (none-some id (sym h))
some_first (Some x) r id h = h

none_first : (o r : Option Claim) → None ≡ option_map id_of o → option_map id_of r ≡ option_map id_of (option_or o r)
none_first None r h = refl
none_first (Some x) r h = absurd (none-some x.id h)

pub held_first : (table : TableView) (pin : Pin) (id : ℕ) → Some id ≡ option_map id_of (find (is_named_by pin) table.cells) → Some id ≡ holder table pin
held_first table pin id h =
    some_first (find (is_named_by pin) table.cells) (find (is_named_by pin) (table.root ∷ [])) id h ∙ ap (option_map id_of) (sym (find-append (is_named_by pin) table.cells (table.root ∷ [])))

pub held_last : (table : TableView) (pin : Pin) (b : Bool) → None ≡ option_map id_of (find (is_named_by pin) table.cells) → is_named_by pin table.root ≡ b → option_map id_of (cond b (Some table.root) None) ≡ holder table pin
held_last table pin b h is =
    ap (λ t. option_map id_of (cond t (Some table.root) None)) (sym is)
    ∙ none_first (find (is_named_by pin) table.cells) (find (is_named_by pin) (table.root ∷ [])) h ∙ ap (option_map id_of) (sym (find-append (is_named_by pin) table.cells (table.root ∷ [])))
