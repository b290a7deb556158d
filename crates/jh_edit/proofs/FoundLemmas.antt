-- The seat that a search finds is the one that there is.
use Rattle.std.proofs.Common.{◌≡◌, ◌⊎◌, inl, inr, ⊎_elim, ℕ, ◌<◌, ◌≤◌, Bool, true, false, List, Option, Some, sym, ap, ◌∙◌, get_or, length, arith}
use Rattle.std.specs.Prelude.{AllPairs, Contains, find}
use Rattle.std.proofs.lemmas.Bool.{cases_lt, eqb-true, eq-eqb, true≢false}
use Rattle.std.proofs.lemmas.List.{get_or_default}
use Rattle.jh_num.proofs.Public.{find_unique, list_any_false}
use Rattle.jh_edit.specs.declared.stage.Seat.{Seat}
use Rattle.jh_edit.specs.declared.stage.Tree.{Tree}
use Rattle.jh_edit.specs.Forest.{AreApart, is_root}
use Rattle.jh_edit.specs.Seats.{cell_comm, cell_tree, comm_in, has_tag, is_seat_of, is_tag_used, root_tree, tree_in}

-- no two seats that are apart pass the test both
abbrev IsForOne : (Seat → Bool) → Type 0
IsForOne p = (a b : Seat) → AreApart a b → p a ≡ true → p b ≡ true → ⊥

by_index : (p : Seat → Bool) (seats : List Seat) (a b : Seat) (i j : ℕ) → AllPairs AreApart seats → IsForOne p → i < length seats → j < length seats → get_or seats i a ≡ a → get_or seats j b ≡ b → p a ≡ true → p b ≡ true
    → (i < j) ⊎ ((i ≡ j) ⊎ (j < i)) → b ≡ a
by_index p seats a b i j apart one low low' is is' good good' (inl before) =
    let other : get_or seats j a ≡ b = get_or_default seats j a b low' ∙ is' in
    absurd (one (get_or seats i a) (get_or seats j a) (apart i j a before low') (ap p is ∙ good) (ap p other ∙ good'))
by_index p seats a b i j apart one low low' is is' good good' (inr (inl same)) =
    sym is' ∙ (ap (λ k. get_or seats k b) (sym same) ∙ (get_or_default seats i b a low ∙ is))
by_index p seats a b i j apart one low low' is is' good good' (inr (inr behind)) =
    let other : get_or seats j a ≡ b = get_or_default seats j a b low' ∙ is' in
    absurd (one (get_or seats j a) (get_or seats i a) (apart j i a behind low) (ap p other ∙ good') (ap p is ∙ good))

same_seat : (p : Seat → Bool) (seats : List Seat) → AllPairs AreApart seats → IsForOne p → (a b : Seat) → Contains seats a → Contains seats b → p a ≡ true → p b ≡ true → b ≡ a
same_seat p seats apart one a b (i, low, is) (j, low', is') good good' =
    by_index p seats a b i j apart one low low' is is' good good'
    (⊎_elim (λ (less : i < j). inl less) (λ (more : j ≤ i). inr (⊎_elim (λ (behind : j < i). inr behind) (λ (still : i ≤ j). inl (omega arith)) (cases_lt j i))) (cases_lt i j))

found : (p : Seat → Bool) (seats : List Seat) → AllPairs AreApart seats → IsForOne p → (seat : Seat) → Contains seats seat → p seat ≡ true → find p seats ≡ Some seat
found p seats apart one seat sits good = find_unique p seats seat sits good (λ other sits' good'. same_seat p seats apart one seat other sits sits' good good')

-- ---- root

roots : IsForOne is_root
roots a b apart good good' = true≢false (sym good' ∙ apart.cell)

pub root_found : (seats : List Seat) → AllPairs AreApart seats → (seat : Seat) → Contains seats seat → is_root seat ≡ true → find is_root seats ≡ Some seat
root_found seats apart seat sits good = found is_root seats apart roots seat sits good

-- ---- a cell

cells : (id : ℕ) → IsForOne (is_seat_of id)
cells id a b apart good good' = apart.ids (eqb-true a.id id good ∙ sym (eqb-true b.id id good'))

pub cell_found : (seats : List Seat) → AllPairs AreApart seats → (seat : Seat) (id : ℕ) → Contains seats seat → seat.id ≡ id → find (is_seat_of id) seats ≡ Some seat
cell_found seats apart seat id sits named = found (is_seat_of id) seats apart (cells id) seat sits (eq-eqb seat.id id named)

-- the tables of root, and those of a cell, are its seat's
pub root_tree_is : (seats : List Seat) → AllPairs AreApart seats → (seat : Seat) → Contains seats seat → is_root seat ≡ true → root_tree seats ≡ seat.tree
root_tree_is seats apart seat sits good = ap tree_in (root_found seats apart seat sits good)

pub cell_tree_is : (seats : List Seat) → AllPairs AreApart seats → (seat : Seat) (id : ℕ) → Contains seats seat → seat.id ≡ id → cell_tree id seats ≡ seat.tree
cell_tree_is seats apart seat id sits named = ap tree_in (cell_found seats apart seat id sits named)

pub cell_comm_is : (seats : List Seat) → AllPairs AreApart seats → (seat : Seat) (id : ℕ) → Contains seats seat → seat.id ≡ id → cell_comm id seats ≡ seat.comm
cell_comm_is seats apart seat id sits named = ap comm_in (cell_found seats apart seat id sits named)

-- ---- tags

has_own_tag : (tag : ℕ) (tree : Tree) (o : Option Tree) → o ≡ Some tree → tree.tag ≡ tag → has_tag tag o ≡ true
has_own_tag tag tree o has is = ap (has_tag tag) has ∙ eq-eqb tree.tag tag is

-- where no tables have the tag, each seat's tag is another
pub other_tag : (seats : List Seat) (tag : ℕ) → is_tag_used tag seats ≡ false → (seat : Seat) (tree : Tree) → Contains seats seat → seat.tree ≡ Some tree → tree.tag ≡ tag → ⊥
other_tag seats tag none seat tree sits has is =
    true≢false (sym (has_own_tag tag tree seat.tree has is) ∙ list_any_false (λ (s : Seat). has_tag tag s.tree) seats seat none sits)
