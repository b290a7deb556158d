-- A turn of the tables of one cell among those of all: the pages of the others, and what has a use after it.
use Rattle.std.proofs.Common.{◌≡◌, ◌≢◌, ℕ, ◌+◌, ◌*◌, ◌%◌, ◌<◌, ◌≤◌, ◌⊎◌, ◌↔◌, inl, inr, ap, ◌∙◌, sym, subst, Bool, true, false, ◌||◌, nat_lt, map, sum_by, Option, Some, None, if◌then◌else◌, arith, refl, ⊎_elim}
use Rattle.std.specs.Prelude.{IfSome, vec_capacity}
use Rattle.std.proofs.lemmas.Bool.{cases_Bool, cases_lt, eqb-true, false≢true, ltb-false, ltb-true, or_cases, or_parts}
use Rattle.jh_desc.specs.declared.descriptor.Hit.{Hit}
use Rattle.jh_frames.specs.Memory.{byte_at}
use Rattle.jh_pool.specs.Pages.{IsTakenPage}
use Rattle.jh_walk.specs.Pages.{HaveSameTables, times}
use Rattle.jh_walk.specs.Walks.{levels}
use Rattle.jh_num.specs.declared.address.TheConstants.{ADDRESS_END}
use Rattle.jh_shape.specs.Claims.{Claims}
use Rattle.jh_shape.specs.Wanted.{Wants}
use Rattle.jh_edit.specs.declared.edit.Ahead.{Ahead}
use Rattle.jh_edit.specs.declared.stage.Seat.{Seat}
use Rattle.jh_edit.specs.declared.stage.Stage2.{Stage2}
use Rattle.jh_edit.specs.declared.stage.Tree.{Tree}
use Rattle.jh_edit.specs.Forest.{HasSeat, IsEditOf, IsForest, LeadsOutside, LeadsToComm, ahead_times, ahead_uses, comm_times, comm_uses, is_coming, is_edited, is_gone, table_uses, tree_times, uses}
use Rattle.jh_edit.specs.Plans.{EditView, IsAhead, Plans}
use Rattle.jh_edit.specs.Tables.{is_ahead, is_mine, is_over, words}
use Rattle.jh_edit.specs.Trees.{walked}
use Rattle.jh_edit.specs.Stages.{IsTreeTurn, gone_uses}
use Rattle.jh_edit.proofs.ForestLemmas.{same_tree, sum_alike, sum_up, used_page}
use Rattle.jh_edit.proofs.MoveTableLemmas.{mine_is, not_over}
use Rattle.jh_edit.proofs.SeatLemmas.{sum_both, sum_map, sum_moved, two_terms, untreed_comm, untreed_if, untreed_none, untreed_other}
use Rattle.jh_edit.proofs.StepLemmas.{word_alike}

-- ---- a turn among all cells

-- how often the page is ahead of the edit, while it isn't over
abbrev pub ahead_left : EditView → ℕ → ℕ
ahead_left edit page = if is_over edit then 0 else ahead_times page edit

-- a turn of the tables of one seat: that seat may lose its tables, and all else of the seats and of the edit of the call stays
pub record Turning (claims : Seat → Claims) (want : Wants) (edit edit' : EditView) (old new : Stage2) : Type 0 where
  pub forest : IsForest claims old
  pub seat : Seat
  pub of : IsEditOf old edit seat
  pub turn : IsTreeTurn want of.tree.tag edit edit' old new
  pub seats : new.seats.items ≡ map (untreed_if (is_over edit') seat.id) old.seats.items
  pub capacity : vec_capacity new.seats ≡ vec_capacity old.seats
  pub aheads : (page : ℕ) → ahead_uses new.editing page + ahead_times page edit ≡ ahead_uses old.editing page + ahead_left edit' page
  pub counted : (page : ℕ) → ahead_times page edit ≤ ahead_uses old.editing page
  pub ungone : (s : Seat) → is_gone old.editing s ≡ false
  pub edited : (s : Seat) → is_edited new.editing s ≡ is_edited old.editing s
  pub mine : is_edited old.editing seat ≡ true
  pub coming : (s : Seat) → is_coming new.editing s ≡ is_coming old.editing s
  pub leads : (at : ℕ) (hit : Hit) → at < ADDRESS_END → edit.removing ≡ false → walked want levels 0 at ≡ Some hit → LeadsOutside old.frames hit ⊎ LeadsToComm seat hit

-- ---- the edit's own pages

-- how often the page is the edit's
abbrev pub own_times : EditView → (ℕ → ℕ) → ℕ → ℕ
own_times edit word page = if is_over edit then 0 else times word levels edit.table page + ahead_times page edit

-- one where the test holds
abbrev one_if : Bool → ℕ
one_if b = if b then 1 else 0

one_by : (b : Bool) → b ≡ true → 0 < one_if b
one_by b is = let e : one_if b ≡ 1 = ap one_if is in omega arith

none_by : (b : Bool) → b ≡ false → one_if b ≡ 0
none_by b is = ap one_if is

pub own_on : (edit : EditView) (word : ℕ → ℕ) (page : ℕ) → is_over edit ≡ false → own_times edit word page ≡ times word levels edit.table page + ahead_times page edit
own_on edit word page on = ap (λ b. if b then 0 else times word levels edit.table page + ahead_times page edit) on

own_over : (edit : EditView) (word : ℕ → ℕ) (page : ℕ) → is_over edit ≡ true → own_times edit word page ≡ 0
own_over edit word page over = ap (λ b. if b then 0 else times word levels edit.table page + ahead_times page edit) over

pub mine_over : (edit : EditView) (word : ℕ → ℕ) (page : ℕ) → is_over edit ≡ true → is_mine edit word page ≡ false
mine_over edit word page over = ap (λ b. if b then false else nat_lt 0 (times word levels edit.table page) || is_ahead edit.ahead page) over

-- a page is the edit's where it is so at least once
pub mine_own : (edit : EditView) (word : ℕ → ℕ) (page : ℕ) → is_mine edit word page ≡ true → 0 < own_times edit word page
mine_own edit word page mine =
    ⊎_elim
    (λ over. absurd (false≢true (sym (mine_over edit word page over) ∙ mine)))
    (λ on.
    let is = own_on edit word page on in
    ⊎_elim
    (λ reached. let some : 0 < times word levels edit.table page = ltb-true 0 (times word levels edit.table page) reached in omega arith)
    (λ ahead. let some : 0 < ahead_times page edit = one_by (is_ahead edit.ahead page) ahead in omega arith)
    (or_cases (nat_lt 0 (times word levels edit.table page)) (is_ahead edit.ahead page) (sym (mine_is edit word page on) ∙ mine)))
    (cases_Bool (is_over edit))

-- and else never
pub not_own : (edit : EditView) (word : ℕ → ℕ) (page : ℕ) → is_mine edit word page ≡ false → own_times edit word page ≡ 0
not_own edit word page not =
    ⊎_elim
    (λ over. own_over edit word page over)
    (λ on.
    let is = own_on edit word page on in
    let parts = or_parts (nat_lt 0 (times word levels edit.table page)) (is_ahead edit.ahead page) (sym (mine_is edit word page on) ∙ not) in
    let none : times word levels edit.table page ≤ 0 = ltb-false 0 (times word levels edit.table page) parts.0 in
    let still : ahead_times page edit ≡ 0 = none_by (is_ahead edit.ahead page) parts.1 in
    omega arith)
    (cases_Bool (is_over edit))

ahead_some : (P : ℕ → Type 0) (ahead : Option Ahead) (page : ℕ) → IfSome ahead (λ (a : Ahead). P a.page) → is_ahead ahead page ≡ true → P page
ahead_some P None page each is = absurd (false≢true is)
ahead_some P (Some ahead) page each is = subst P (eqb-true ahead.page page is) each

ahead_none : (ahead : Option Ahead) (page : ℕ) → ahead ≡ None → is_ahead ahead page ≡ false
ahead_none ahead page none = ap (λ a. is_ahead a page) none

apart_all : (word : ℕ → ℕ) (want : Wants) (table : ℕ) (ahead : Option Ahead) → IfSome ahead (IsAhead want word table) → IfSome ahead (λ (a : Ahead). times word levels table a.page ≡ 0)
apart_all word want table None is = is
apart_all word want table (Some ahead) is = is.apart

-- a page ahead is no table of the edit's
pub ahead_apart : (edit : EditView) (want : Wants) (word : ℕ → ℕ) (page : ℕ) → Plans edit want word → is_ahead edit.ahead page ≡ true → times word levels edit.table page ≡ 0
ahead_apart edit want word page plans is =
    ⊎_elim
    (λ away. absurd (false≢true (sym (ahead_none edit.ahead page (plans.removal away).ahead) ∙ is)))
    (λ aims. ahead_some (λ q. times word levels edit.table q ≡ 0) edit.ahead page (apart_all word want edit.table edit.ahead (plans.target aims).ahead) is)
    (cases_Bool edit.removing)

-- each page is the edit's at most once
pub own_once : (edit : EditView) (want : Wants) (word : ℕ → ℕ) (page : ℕ) → (is_over edit ≡ false → Plans edit want word) → times word levels edit.table page ≤ 1 → own_times edit word page ≤ 1
own_once edit want word page plans once =
    ⊎_elim
    (λ over. let is = own_over edit word page over in omega arith)
    (λ on.
    let is = own_on edit word page on in
    ⊎_elim
    (λ ahead.
    let apart = ahead_apart edit want word page (plans on) ahead in
    let one : ahead_times page edit ≡ 1 = ap one_if ahead in
    omega arith)
    (λ not. let none : ahead_times page edit ≡ 0 = none_by (is_ahead edit.ahead page) not in omega arith)
    (cases_Bool (is_ahead edit.ahead page)))
    (cases_Bool (is_over edit))

-- ---- pages of others

pub apart_pages : (page written slot r : ℕ) → page % 4096 ≡ 0 → written % 4096 ≡ 0 → page ≢ written → slot < 512 → page + 8 * slot ≤ r → r < page + 8 * slot + 8 → (r < written) ⊎ (written + 4096 ≤ r)
apart_pages page written slot r begins begins' apart few from below =
    ⊎_elim
    (λ (less : r < written). inl less)
    (λ (more : written ≤ r). ⊎_elim
    (λ (low : r < written + 4096). absurd (apart (omega arith)))
    (λ (high : written + 4096 ≤ r). inr high)
    (cases_lt r (written + 4096)))
    (cases_lt r written)

pub on_before : (claims : Seat → Claims) (want : Wants) (edit edit' : EditView) (old new : Stage2) → Turning claims want edit edit' old new → is_over edit ≡ false
on_before claims want edit edit' old new t = let left = t.turn.left in let some : 0 < edit.left = omega arith in not_over edit some

-- the edit's pages are among those that are used
pub own_used : (claims : Seat → Claims) (want : Wants) (edit edit' : EditView) (old new : Stage2) → Turning claims want edit edit' old new → (page : ℕ)
    → times (words old.frames) levels edit.table page ≤ table_uses old page
own_used claims want edit edit' old new t page =
    let up : tree_times (words old.frames) page t.seat.tree ≤ table_uses old page = sum_up (λ (s : Seat). tree_times (words old.frames) page s.tree) old.seats.items t.seat t.of.sits in
    let is : tree_times (words old.frames) page t.seat.tree ≡ times (words old.frames) levels t.of.tree.table page = ap (tree_times (words old.frames) page) t.of.has in
    let same : times (words old.frames) levels edit.table page ≡ times (words old.frames) levels t.of.tree.table page = ap (λ z. times (words old.frames) levels z page) t.of.table in
    omega arith

pub own_among : (claims : Seat → Claims) (want : Wants) (edit edit' : EditView) (old new : Stage2) → Turning claims want edit edit' old new → (page : ℕ)
    → own_times edit (words old.frames) page + comm_uses old page ≤ uses old page
own_among claims want edit edit' old new t page =
    let up = own_used claims want edit edit' old new t page in
    let ahead : ahead_times page edit ≤ ahead_uses old.editing page = t.counted page in
    let is = own_on edit (words old.frames) page (on_before claims want edit edit' old new t) in
    omega arith

-- what is newly the edit's had no use
pub new_unused : (claims : Seat → Claims) (want : Wants) (edit edit' : EditView) (old new : Stage2) → Turning claims want edit edit' old new → (page : ℕ)
    → is_mine edit (words old.frames) page ≡ false → is_mine edit' (words new.frames) page ≡ true → uses old page ≡ 0
new_unused claims want edit edit' old new t page before after =
    ⊎_elim
    (λ (some : 0 < uses old page). absurd (false≢true (sym ((t.forest.taken page).1 some).taken ∙ t.turn.fresh page after before)))
    (λ (none : uses old page ≤ 0). omega arith)
    (cases_lt 0 (uses old page))

comm_split : (gone : Bool) (n : ℕ) → (if gone then 0 else n) + (if gone then n else 0) ≡ n
comm_split true n = omega arith
comm_split false n = omega arith

comm_all : (stage : Stage2) (page : ℕ) → comm_uses stage page + gone_uses stage page ≡ sum_by (λ (s : Seat). comm_times page s.comm) stage.seats.items
comm_all stage page =
    sum_both (λ (s : Seat). if is_gone stage.editing s then 0 else comm_times page s.comm) (λ (s : Seat). if is_gone stage.editing s then comm_times page s.comm else 0) (λ (s : Seat). comm_times page s.comm) stage.seats.items
    (λ s. comm_split (is_gone stage.editing s) (comm_times page s.comm))

-- communication pages stay, but for one that is gone
comm_keeps : (claims : Seat → Claims) (want : Wants) (edit edit' : EditView) (old new : Stage2) → Turning claims want edit edit' old new → (page : ℕ)
    → comm_uses new page + gone_uses new page ≡ comm_uses old page
comm_keeps claims want edit edit' old new t page =
    let C : Seat → ℕ = λ (s : Seat). comm_times page s.comm in
    let h : Seat → Seat = untreed_if (is_over edit') t.seat.id in
    let after = comm_all new page in
    let moved : sum_by C new.seats.items ≡ sum_by C (map h old.seats.items) = ap (sum_by C) t.seats in
    let mapped : sum_by C (map h old.seats.items) ≡ sum_by (λ (s : Seat). C (h s)) old.seats.items = sum_map C h old.seats.items in
    let same : sum_by (λ (s : Seat). C (h s)) old.seats.items ≡ sum_by C old.seats.items = sum_alike (λ (s : Seat). C (h s)) C old.seats.items (λ s among. ap (comm_times page) (untreed_comm (is_over edit') t.seat.id s)) in
    let before : comm_uses old page ≡ sum_by C old.seats.items =
    sum_alike (λ (s : Seat). if is_gone old.editing s then 0 else comm_times page s.comm) C old.seats.items (λ s among. ap (λ b. if b then 0 else comm_times page s.comm) (t.ungone s))
    in
    omega arith

-- a page of the edit's, before or after, begins at a page
own_aligned : (claims : Seat → Claims) (want : Wants) (edit edit' : EditView) (old new : Stage2) → Turning claims want edit edit' old new → (page : ℕ)
    → (is_mine edit (words old.frames) page || is_mine edit' (words new.frames) page) ≡ true → page % 4096 ≡ 0
own_aligned claims want edit edit' old new t page either =
    let among = own_among claims want edit edit' old new t page in
    ⊎_elim
    (λ before. let some = mine_own edit (words old.frames) page before in (used_page claims old t.forest page (omega arith)).aligned)
    (λ not. ⊎_elim
    (λ before. absurd (false≢true (sym not ∙ before)))
    (λ after.
    let unused = new_unused claims want edit edit' old new t page not after in
    let comms = comm_keeps claims want edit edit' old new t page in
    ((t.turn.pages page).1 (inr after, omega arith)).in_range.aligned)
    (or_cases (is_mine edit (words old.frames) page) (is_mine edit' (words new.frames) page) either))
    (cases_Bool (is_mine edit (words old.frames) page))

-- a page that has a use and isn't the edit's isn't the one that is written
page_apart : (claims : Seat → Claims) (want : Wants) (edit edit' : EditView) (old new : Stage2) → (t : Turning claims want edit edit' old new) → (page : ℕ) → 0 < uses old page → own_times edit (words old.frames) page ≡ 0 → page ≢ t.turn.one_page.0
page_apart claims want edit edit' old new t page used others is =
    let written = t.turn.one_page.0 in
    let either = t.turn.one_page.1.0 in
    ⊎_elim
    (λ (before : is_mine edit (words old.frames) written ≡ true). let P : ℕ → Type 0 = λ q. is_mine edit (words old.frames) q ≡ true in let some = mine_own edit (words old.frames) page (subst P (sym is) before) in let no' : ⊥ = omega arith in no')
    (λ (not : is_mine edit (words old.frames) written ≡ false). ⊎_elim
    (λ (before : is_mine edit (words old.frames) written ≡ true). absurd (false≢true (sym not ∙ before)))
    (λ (after : is_mine edit' (words new.frames) written ≡ true).
    let P : ℕ → Type 0 = λ q. uses old q ≡ 0 in
    let none : uses old page ≡ 0 = subst P (sym is) (new_unused claims want edit edit' old new t written not after) in
    let no' : ⊥ = omega arith in no')
    (or_cases (is_mine edit (words old.frames) written) (is_mine edit' (words new.frames) written) either))
    (cases_Bool (is_mine edit (words old.frames) written))

pub byte_apart : (page written k : ℕ) → page % 4096 ≡ 0 → written % 4096 ≡ 0 → page ≢ written → k < 4096 → (page + k < written) ⊎ (written + 4096 ≤ page + k)
byte_apart page written k begins begins' apart few =
    ⊎_elim
    (λ (less : page + k < written). inl less)
    (λ (more : written ≤ page + k). ⊎_elim
    (λ (low : page + k < written + 4096). absurd (apart (omega arith)))
    (λ (high : written + 4096 ≤ page + k). inr high)
    (cases_lt (page + k) (written + 4096)))
    (cases_lt (page + k) written)

-- it has the same bytes after
pub same_bytes : (claims : Seat → Claims) (want : Wants) (edit edit' : EditView) (old new : Stage2) → (t : Turning claims want edit edit' old new) → (page : ℕ)
    → 0 < uses old page → own_times edit (words old.frames) page ≡ 0 → (k : ℕ) → k < 4096 → byte_at new.frames (page + k) ≡ byte_at old.frames (page + k)
same_bytes claims want edit edit' old new t page used others k few =
    let written = t.turn.one_page.0 in
    let begins : page % 4096 ≡ 0 = (used_page claims old t.forest page used).aligned in
    let begins' : written % 4096 ≡ 0 = own_aligned claims want edit edit' old new t written t.turn.one_page.1.0 in
    t.turn.one_page.1.1 (page + k) (byte_apart page written k begins begins' (page_apart claims want edit edit' old new t page used others) few)

-- and the same words
pub same_page : (claims : Seat → Claims) (want : Wants) (edit edit' : EditView) (old new : Stage2) → Turning claims want edit edit' old new → (page : ℕ)
    → 0 < uses old page → own_times edit (words old.frames) page ≡ 0 → (slot : ℕ) → slot < 512 → words new.frames (page + 8 * slot) ≡ words old.frames (page + 8 * slot)
same_page claims want edit edit' old new t page used others slot few =
    let written = t.turn.one_page.0 in
    let begins : page % 4096 ≡ 0 = (used_page claims old t.forest page used).aligned in
    let begins' : written % 4096 ≡ 0 = own_aligned claims want edit edit' old new t written t.turn.one_page.1.0 in
    word_alike (byte_at old.frames) (byte_at new.frames) (page + 8 * slot)
    (λ r from below. t.turn.one_page.1.1 r (apart_pages page written slot r begins begins' (page_apart claims want edit edit' old new t page used others) few from below))

-- the tables of another cell have the same words after
pub others_tables : (claims : Seat → Claims) (want : Wants) (edit edit' : EditView) (old new : Stage2) → (t : Turning claims want edit edit' old new) → (other : Seat) (tree : Tree)
    → HasSeat old other → t.seat.id ≢ other.id → other.tree ≡ Some tree → HaveSameTables (words old.frames) (words new.frames) levels tree.table
others_tables claims want edit edit' old new t other tree sits differ has = record {
  words = λ page slot some few.
      let F : Seat → ℕ = λ (s : Seat). tree_times (words old.frames) page s.tree in
      let both : F t.seat + F other ≤ table_uses old page = two_terms F old.seats.items t.seat other t.forest.apart t.of.sits sits differ in
      let mine : F t.seat ≡ times (words old.frames) levels t.of.tree.table page = ap (tree_times (words old.frames) page) t.of.has in
      let same : times (words old.frames) levels edit.table page ≡ times (words old.frames) levels t.of.tree.table page = ap (λ z. times (words old.frames) levels z page) t.of.table in
      let theirs : F other ≡ times (words old.frames) levels tree.table page = ap (tree_times (words old.frames) page) has in
      let ahead : ahead_times page edit ≤ ahead_uses old.editing page = t.counted page in
      let once : uses old page ≤ 1 = t.forest.once page in
      let is = own_on edit (words old.frames) page (on_before claims want edit edit' old new t) in
      same_page claims want edit edit' old new t page (omega arith) (omega arith) slot few;
}

-- ---- how often each page is used

-- where the cell still has its tables, its seat is the same
pub seat_stays : (over : Bool) (seat : Seat) → over ≡ false → untreed_if over seat.id seat ≡ seat
seat_stays true seat on = absurd (false≢true (sym on))
seat_stays false seat on = refl

tree_moves : (claims : Seat → Claims) (want : Wants) (edit edit' : EditView) (old new : Stage2) → (t : Turning claims want edit edit' old new) → (page : ℕ)
    → table_uses new page + times (words old.frames) levels edit.table page ≡ table_uses old page + (if is_over edit' then 0 else times (words new.frames) levels edit'.table page)
tree_moves claims want edit edit' old new t page =
    let h : Seat → Seat = untreed_if (is_over edit') t.seat.id in
    let F : Seat → ℕ = λ (s : Seat). tree_times (words old.frames) page s.tree in
    let N : Seat → ℕ = λ (s : Seat). tree_times (words new.frames) page s.tree in
    let G : Seat → ℕ = λ (s : Seat). N (h s) in
    let moved : table_uses new page ≡ sum_by N (map h old.seats.items) = ap (sum_by N) t.seats in
    let mapped : sum_by N (map h old.seats.items) ≡ sum_by G old.seats.items = sum_map N h old.seats.items in
    let sums : sum_by G old.seats.items + F t.seat ≡ sum_by F old.seats.items + G t.seat =
    sum_moved F G old.seats.items t.seat t.forest.apart t.of.sits
    (λ b among differ. ap N (untreed_other (is_over edit') t.seat.id b differ)
    ∙ same_tree (words old.frames) (words new.frames) page b.tree (λ tree has. others_tables claims want edit edit' old new t b tree among (λ e. differ (sym e)) has))
    in
    let mine : F t.seat ≡ times (words old.frames) levels t.of.tree.table page = ap (tree_times (words old.frames) page) t.of.has in
    let same : times (words old.frames) levels edit.table page ≡ times (words old.frames) levels t.of.tree.table page = ap (λ z. times (words old.frames) levels z page) t.of.table in
    let after : G t.seat ≡ (if is_over edit' then 0 else times (words new.frames) levels edit'.table page) =
    ⊎_elim
    (λ (over : is_over edit' ≡ true). ap (tree_times (words new.frames) page) (untreed_none (is_over edit') t.seat.id t.seat over refl) ∙ sym (ap (λ b. if b then 0 else times (words new.frames) levels edit'.table page) over))
    (λ (on : is_over edit' ≡ false).
    ap N (seat_stays (is_over edit') t.seat on)
    ∙ (ap (tree_times (words new.frames) page) t.of.has
    ∙ (ap (λ z. times (words new.frames) levels z page) (sym (t.turn.table ∙ t.of.table)) ∙ sym (ap (λ b. if b then 0 else times (words new.frames) levels edit'.table page) on))))
    (cases_Bool (is_over edit'))
    in
    omega arith

split_by : (b : Bool) (n m : ℕ) → (if b then 0 else n + m) ≡ (if b then 0 else n) + (if b then 0 else m)
split_by true n m = omega arith
split_by false n m = refl

own_parts : (edit : EditView) (word : ℕ → ℕ) (page : ℕ) → own_times edit word page ≡ (if is_over edit then 0 else times word levels edit.table page) + ahead_left edit page
own_parts edit word page = split_by (is_over edit) (times word levels edit.table page) (ahead_times page edit)

pub uses_move : (claims : Seat → Claims) (want : Wants) (edit edit' : EditView) (old new : Stage2) → (t : Turning claims want edit edit' old new) → (page : ℕ)
    → uses new page + gone_uses new page + own_times edit (words old.frames) page ≡ uses old page + own_times edit' (words new.frames) page
uses_move claims want edit edit' old new t page =
    let trees = tree_moves claims want edit edit' old new t page in
    let comms = comm_keeps claims want edit edit' old new t page in
    let aheads = t.aheads page in
    let before = own_on edit (words old.frames) page (on_before claims want edit edit' old new t) in
    let after = own_parts edit' (words new.frames) page in
    omega arith

own_after : (claims : Seat → Claims) (want : Wants) (edit edit' : EditView) (old new : Stage2) → (t : Turning claims want edit edit' old new) → (page : ℕ) → own_times edit' (words new.frames) page ≤ 1
own_after claims want edit edit' old new t page = own_once edit' want (words new.frames) page t.turn.plan (t.turn.tables.once page)

-- each page has one use at most, also with those that are gone
pub all_once : (claims : Seat → Claims) (want : Wants) (edit edit' : EditView) (old new : Stage2) → (t : Turning claims want edit edit' old new) → (page : ℕ) → uses new page + gone_uses new page ≤ 1
all_once claims want edit edit' old new t page =
    let moved = uses_move claims want edit edit' old new t page in
    let among = own_among claims want edit edit' old new t page in
    let once : uses old page ≤ 1 = t.forest.once page in
    let after = own_after claims want edit edit' old new t page in
    ⊎_elim
    (λ (mine : is_mine edit (words old.frames) page ≡ true). let some = mine_own edit (words old.frames) page mine in omega arith)
    (λ (not : is_mine edit (words old.frames) page ≡ false).
    let none = not_own edit (words old.frames) page not in
    ⊎_elim
    (λ (now : is_mine edit' (words new.frames) page ≡ true). let unused = new_unused claims want edit edit' old new t page not now in omega arith)
    (λ (still : is_mine edit' (words new.frames) page ≡ false). let none' = not_own edit' (words new.frames) page still in omega arith)
    (cases_Bool (is_mine edit' (words new.frames) page)))
    (cases_Bool (is_mine edit (words old.frames) page))

pub turned_taken : (claims : Seat → Claims) (want : Wants) (edit edit' : EditView) (old new : Stage2) → (t : Turning claims want edit edit' old new) → (page : ℕ) → IsTakenPage new.pool page ↔ (0 < uses new page)
turned_taken claims want edit edit' old new t page =
    let moved = uses_move claims want edit edit' old new t page in
    let among = own_among claims want edit edit' old new t page in
    let once : uses old page ≤ 1 = t.forest.once page in
    let all = all_once claims want edit edit' old new t page in (
      λ taken.
          let told = (t.turn.pages page).0 taken in
          let stays : gone_uses new page ≡ 0 = told.1 in
          ⊎_elim
          (λ (before : IsTakenPage old.pool page × (is_mine edit (words old.frames) page ≡ false)).
          let some : 0 < uses old page = (t.forest.taken page).0 before.0 in
          let none = not_own edit (words old.frames) page before.1 in
          omega arith)
          (λ (now : is_mine edit' (words new.frames) page ≡ true). let some = mine_own edit' (words new.frames) page now in omega arith)
          told.0,
      λ some. (t.turn.pages page).1 (
        ⊎_elim
            (λ (now : is_mine edit' (words new.frames) page ≡ true). inr now)
            (λ (not : is_mine edit' (words new.frames) page ≡ false).
            let none = not_own edit' (words new.frames) page not in
            inl (
              (t.forest.taken page).1 (omega arith),
              ⊎_elim
                  (λ (mine : is_mine edit (words old.frames) page ≡ true). let own = mine_own edit (words old.frames) page mine in absurd (let no : ⊥ = omega arith in no))
                  (λ (other : is_mine edit (words old.frames) page ≡ false). other)
                  (cases_Bool (is_mine edit (words old.frames) page)),
            ))
            (cases_Bool (is_mine edit' (words new.frames) page)),
        omega arith,
      ),
    )
