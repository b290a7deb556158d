-- The seats of cells: whose page is whose, and where the pages lie.
use Rattle.std.proofs.Common.{◌≡◌, ◌⊎◌, inl, inr, ℕ, ◌+◌, ◌≤◌, ◌<◌, List, [], ◌∷◌, sum_by, Option, Some, None, if◌then◌else◌, refl, sym, ap, subst, ◌∙◌, arith}
use Rattle.std.specs.Prelude.{find, Contains}
use Rattle.std.proofs.lemmas.Bool.{cases_lt, eqb-true, eq-eqb}
use Rattle.std.proofs.lemmas.Option.{none-some}
use Rattle.std.proofs.lemmas.List.Sums.{get_or-le-sum_by, sum_by-cons}
use Rattle.jh_num.proofs.Public.{Contains_cases, IsFound_from_find}
use Rattle.jh_pool.specs.Pages.{PoolView, IsTakenPage}
use Rattle.jh_shape.specs.Claims.{Claims}
use Rattle.jh_edit.specs.declared.stage.Editing.{Editing}
use Rattle.jh_edit.specs.declared.stage.Seat.{Seat}
use Rattle.jh_edit.specs.declared.stage.Stage2.{Stage2}
use Rattle.jh_edit.specs.Forest.{comm_times, comm_uses, is_gone, IsForest}
use Rattle.jh_edit.specs.Seats.{comm_in, is_seat_of}
use Rattle.jh_edit.specs.Tables.{IsPoolOf}
use Rattle.jh_board.specs.Seats.{comm_of, IsOwnPage}

-- ---- each seat

-- the seat of the cell with the id, whose page begins there
pub record IsSeat (list : List Seat) (id page : ℕ) : Type 0 where
  pub one : Seat
  pub is : find (is_seat_of id) list ≡ Some one
  pub among : Contains list one
  pub named : one.id ≡ id
  pub begins : one.comm ≡ Some page

seat_by : (list : List Seat) (id page : ℕ) (o : Option Seat) → find (is_seat_of id) list ≡ o → comm_in o ≡ Some page → IsSeat list id page
seat_by list id page None is h = absurd (none-some page h)
seat_by list id page (Some seat) is h =
    let found = IsFound_from_find (is_seat_of id) list seat is in
    record { one = seat; is = is; among = found.among; named = eqb-true seat.id id found.passes; begins = h }

pub seat_at : (stage : Stage2) (id page : ℕ) → comm_of stage id ≡ Some page → IsSeat stage.seats.items id page
seat_at stage id page h = seat_by stage.seats.items id page (find (is_seat_of id) stage.seats.items) refl h

pub comm_found : (stage : Stage2) (list : List Seat) (id : ℕ) (seat : Seat) → list ≡ stage.seats.items → Some seat ≡ find (is_seat_of id) list → comm_of stage id ≡ seat.comm
comm_found stage list id seat same is = ap comm_in (sym (is ∙ ap (λ (l : List Seat). find (is_seat_of id) l) same))

-- a page that is taken is one of the hypervisor's
pub taken_within : (stage : Stage2) (page : ℕ) → IsPoolOf stage.pool stage.frames → IsTakenPage stage.pool page → IsOwnPage stage.frames.own page
taken_within stage page inside taken =
    let own = taken.in_range.aligned in
    let above = taken.in_range.above in
    let below = taken.in_range.below in
    let aligned = inside.aligned in
    let base = inside.base in
    let size = inside.size in
    let end = inside.end in
    record { above = omega arith; below = omega arith; within = omega arith }

-- two pages of the pool have no byte in common
pages_apart : (pool : PoolView) (page other : ℕ) → IsTakenPage pool page → IsTakenPage pool other → (page ≡ other → ⊥) → (page + 4096 ≤ other) ⊎ (other + 4096 ≤ page)
pages_apart pool page other first second two =
    let a = first.in_range.aligned in
    let b = second.in_range.aligned in
    elim (cases_lt page other) [
      | inl below ↦ inl (omega arith)
      | inr above ↦ inr (omega arith)
    ]

-- ---- a communication page has a use

pub in_sum : (f : Seat → ℕ) (list : List Seat) (seat : Seat) → Contains list seat → f seat ≤ sum_by f list
in_sum f list seat (k, lt, is) = let P : Seat → Type 0 = λ s. f s ≤ sum_by f list in subst P is (get_or-le-sum_by f list k seat lt)

pub counted : (editing : Option Editing) (seat : Seat) (page : ℕ) → editing ≡ None → seat.comm ≡ Some page → (if is_gone editing seat then 0 else comm_times page seat.comm) ≡ 1
counted editing seat page still begins =
    let P : Option Editing → Type 0 = λ e. (if is_gone e seat then 0 else comm_times page seat.comm) ≡ 1 in
    subst P (sym still) (ap (comm_times page) begins ∙ ap (λ b. if b then 1 else 0) (eq-eqb page page refl))

pub comm_counts : (stage : Stage2) (id page : ℕ) → stage.editing ≡ None → comm_of stage id ≡ Some page → comm_uses stage page ≡ 0 → ⊥
comm_counts stage id page still h none =
    let seat = seat_at stage id page h in
    let one = counted stage.editing seat.one page still seat.begins in
    let le = in_sum (λ (s : Seat). if is_gone stage.editing s then 0 else comm_times page s.comm) stage.seats.items seat.one seat.among in
    omega arith

-- ---- the pages of two cells

two_by : (f : Seat → ℕ) (s : Seat) (rest : List Seat) (a b : Seat) → (a.id ≡ b.id → ⊥) → f a ≡ 1 → f b ≡ 1 → (s ≡ a) ⊎ Contains rest a → (s ≡ b) ⊎ Contains rest b → (Contains rest a → Contains rest b → 2 ≤ sum_by f rest)
    → 2 ≤ f s + sum_by f rest
two_by f s rest a b other first second (inl e) (inl g) more = absurd (other (ap (λ (x : Seat). x.id) (sym e ∙ g)))
two_by f s rest a b other first second (inl e) (inr there) more =
    let one : f s ≡ 1 = ap f e ∙ first in
    let le = in_sum f rest b there in
    omega arith
two_by f s rest a b other first second (inr there) (inl g) more =
    let one : f s ≡ 1 = ap f g ∙ second in
    let le = in_sum f rest a there in
    omega arith
two_by f s rest a b other first second (inr there) (inr behind) more =
    let le = more there behind in
    omega arith

two_in_sum : (f : Seat → ℕ) (list : List Seat) (a b : Seat) → (a.id ≡ b.id → ⊥) → f a ≡ 1 → f b ≡ 1 → Contains list a → Contains list b → 2 ≤ sum_by f list
two_in_sum f [] a b other first second there behind = absurd (let lt = there.1 in omega arith)
two_in_sum f (s ∷ rest) a b other first second there behind =
    let sum : sum_by f (s ∷ rest) ≡ f s + sum_by f rest = sum_by-cons f s rest in
    let two = two_by f s rest a b other first second (Contains_cases s rest a there) (Contains_cases s rest b behind) (two_in_sum f rest a b other first second) in
    omega arith

some_more : (n : ℕ) → (n ≡ 0 → ⊥) → 0 < n
some_more n h = elim (cases_lt 0 n) [
  | inl lt ↦ lt
  | inr le ↦ absurd (h (omega arith))
]

-- that of a cell is taken
pub seat_taken : (claims : Seat → Claims) (stage : Stage2) (id page : ℕ) → IsForest claims stage → stage.editing ≡ None → comm_of stage id ≡ Some page → IsTakenPage stage.pool page
seat_taken claims stage id page forest still own =
    let used : 0 < comm_uses stage page = some_more (comm_uses stage page) (comm_counts stage id page still own) in
    (forest.taken page).1 (omega arith)

-- and those of two cells are two
pub seats_apart : (claims : Seat → Claims) (stage : Stage2) (id cell page other : ℕ) → IsForest claims stage → stage.editing ≡ None → (id ≡ cell → ⊥) → comm_of stage id ≡ Some page → comm_of stage cell ≡ Some other
    → (page + 4096 ≤ other) ⊎ (other + 4096 ≤ page)
seats_apart claims stage id cell page other forest still differ first second =
    let a = seat_at stage id page first in
    let b = seat_at stage cell other second in
    let f : Seat → ℕ = λ s. if is_gone stage.editing s then 0 else comm_times page s.comm in
    pages_apart stage.pool page other (seat_taken claims stage id page forest still first) (seat_taken claims stage cell other forest still second) (λ same.
    let two : 2 ≤ comm_uses stage page =
    two_in_sum f stage.seats.items a.one b.one (λ e. differ (sym a.named ∙ e ∙ b.named)) (counted stage.editing a.one page still a.begins) (counted stage.editing b.one page still (b.begins ∙ ap Some (sym same))) a.among b.among in
    let once = forest.once page in
    omega arith)
