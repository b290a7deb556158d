-- The pages of all cells, counted: of each its tables, which are those that are wanted, and a communication page but for root.
use Rattle.std.proofs.Common.{◌≡◌, ◌≢◌, ℕ, ◌+◌, ◌-◌, ◌*◌, ◌/◌, ◌%◌, ◌<◌, ◌≤◌, zero, suc, ap, ◌∙◌, sym, Bool, false, not, nat_eq, List, [], ◌∷◌, length, get_or, sum_by, Option, Some, None, if◌then◌else◌, arith, refl, ⊎_elim}
use Rattle.std.specs.Prelude.{AllPairs, Contains, IsSome, is_some}
use Rattle.std.proofs.lemmas.Bool.{eq-eqb, ne_eqb}
use Rattle.std.proofs.lemmas.List.FromFn.{get_or-map-range_with_len, length-map-range_with_len}
use Rattle.std.proofs.lemmas.List.Sums.{sum_by-cons}
use Rattle.jh_num.specs.declared.level.TheConstants.{LAST_LEVEL}
use Rattle.jh_num.specs.Below.{sum_below}
use Rattle.jh_num.proofs.Public.{Contains_cases, Contains_head, Contains_tail, sum_same}
use Rattle.jh_desc.specs.declared.descriptor.Descriptor.{Descriptor}
use Rattle.jh_desc.specs.Descriptors.{read_of}
use Rattle.jh_pool.specs.Pages.{IsPageOf, PoolView, page_addresses}
use Rattle.jh_walk.specs.Counts.{by_next}
use Rattle.jh_walk.specs.Pages.{pages_reached, times}
use Rattle.jh_walk.specs.Walks.{levels}
use Rattle.jh_shape.specs.declared.want.Want.{Want}
use Rattle.jh_shape.specs.declared.want.Want.TheVariants.{Nothing, Table as WantTable, Leaf as WantLeaf}
use Rattle.jh_shape.specs.Claims.{Claims}
use Rattle.jh_shape.specs.Pages.{tables_of}
use Rattle.jh_shape.specs.Shapes.{want_of}
use Rattle.jh_shape.specs.Wanted.{Wants, if_table, slot_start, tables_under}
use Rattle.jh_edit.specs.declared.stage.Seat.{Seat}
use Rattle.jh_edit.specs.declared.stage.Stage2.{Stage2}
use Rattle.jh_edit.specs.declared.stage.Tree.{Tree}
use Rattle.jh_edit.specs.Ends.{seat_pages}
use Rattle.jh_edit.specs.Forest.{HasSeat, IsForest, ahead_uses, comm_times, comm_uses, is_edited, is_gone, is_root, table_uses, tree_times, uses}
use Rattle.jh_edit.specs.Tables.{words}
use Rattle.jh_edit.specs.Trees.{IsAsWanted, Stands}
use Rattle.jh_edit.proofs.BoundLemmas.{pages_more}
use Rattle.jh_edit.proofs.ForestLemmas.{sum_alike, sum_up}
use Rattle.jh_edit.proofs.SeatLemmas.{pairs_head, pairs_rest, sum_both}
use Rattle.jh_edit.proofs.SumLemmas.{under_more}

-- ---- tables that stand

slot_reaches : (on : ℕ → Type 0) (f : ℕ → ℕ) (tables : ℕ) (want : Want) (d : Descriptor) → IsAsWanted on want d → ((next : ℕ) → on next → f next ≡ tables) → by_next f d ≡ if_table tables want
slot_reaches on f tables Nothing d is below = ap (by_next f) is
slot_reaches on f tables WantTable d (next, (is, more)) below = ap (by_next f) is ∙ below next more
slot_reaches on f tables (WantLeaf out rights device) d is below = ap (by_next f) is

-- tables that stand reach as many pages as tables are wanted
pub stands_reach : (want : Wants) (word : ℕ → ℕ) (n table start : ℕ) → Stands want word n table start → pages_reached word n table ≡ tables_under want n start
unfolding Stands
stands_reach want word zero table start stands = absurd stands
stands_reach want word (suc n) table start stands =
    let S = λ (i : ℕ). slot_start (LAST_LEVEL - n) start i in
    let P = λ (i : ℕ). by_next (pages_reached word n) (read_of (word (table + 8 * i)) (LAST_LEVEL - n)) in
    let T = λ (i : ℕ). if_table (tables_under want n (S i)) (want (LAST_LEVEL - n) (S i)) in
    let same : sum_below 512 P ≡ sum_below 512 T =
    sum_same 512 P T
    (λ i few. slot_reaches (λ next. Stands want word n next (S i)) (pages_reached word n) (tables_under want n (S i)) (want (LAST_LEVEL - n) (S i)) (read_of (word (table + 8 * i)) (LAST_LEVEL - n)) (stands i few)
    (λ next more. stands_reach want word n next (S i) more))
    in
    let pages = pages_more word n table in
    let under = under_more want n start in
    omega arith

-- ---- the pages of a pool

nth_page : (pool : PoolView) (k d : ℕ) → k < pool.size → get_or (page_addresses pool) k d ≡ pool.base + 4096 * k
nth_page pool k d few = get_or-map-range_with_len (λ n. pool.base + 4096 * n) 0 pool.size k k d few (omega arith)

page_count : (pool : PoolView) → length (page_addresses pool) ≡ pool.size
page_count pool = length-map-range_with_len (λ n. pool.base + 4096 * n) 0 pool.size

abbrev Differ : ℕ → ℕ → Type 0
Differ one other = one ≢ other

pages_differ : (pool : PoolView) → AllPairs Differ (page_addresses pool)
pages_differ pool = λ i j d less below e.
    let size = page_count pool in
    let one = nth_page pool i d (omega arith) in
    let other = nth_page pool j d (omega arith) in
    let no : ⊥ = omega arith in no

page_among : (pool : PoolView) (page : ℕ) → pool.base % 4096 ≡ 0 → IsPageOf pool page → Contains (page_addresses pool) page
page_among pool page aligned of =
    let size = page_count pool in
    let above : pool.base ≤ page = of.above in
    let below : page < pool.base + 4096 * pool.size = of.below in
    let begins : page % 4096 ≡ 0 = of.aligned in
    let k : ℕ = page / 4096 - pool.base / 4096 in
    let few : k < pool.size = omega arith in
    let is : get_or (page_addresses pool) k page ≡ pool.base + 4096 * k = nth_page pool k page few in
    let here : get_or (page_addresses pool) k page ≡ page = omega arith in
    (k, omega arith, here)

-- ---- sums over pages

-- one where the two are the same
abbrev one_at : ℕ → ℕ → ℕ
one_at a b = if nat_eq a b then 1 else 0

none_at : (x : ℕ) (xs : List ℕ) → ((y : ℕ) → Contains xs y → x ≢ y) → sum_by (one_at x) xs ≡ 0
none_at x [] differ = refl
none_at x (y ∷ ys) differ =
    let all : sum_by (one_at x) (y ∷ ys) ≡ one_at x y + sum_by (one_at x) ys = sum_by-cons (one_at x) y ys in
    let here : one_at x y ≡ 0 = ap (λ (b : Bool). if b then 1 else 0) (ne_eqb x y (differ y (Contains_head y ys))) in
    let rest : sum_by (one_at x) ys ≡ 0 = none_at x ys (λ z among. differ z (Contains_tail y ys z among)) in
    omega arith

-- a number that is listed once is counted once
once_at : (x : ℕ) (xs : List ℕ) → AllPairs Differ xs → Contains xs x → sum_by (one_at x) xs ≡ 1
once_at x [] apart (k, below, is) = absurd (omega arith)
once_at x (y ∷ ys) apart among =
    let all : sum_by (one_at x) (y ∷ ys) ≡ one_at x y + sum_by (one_at x) ys = sum_by-cons (one_at x) y ys in
    ⊎_elim
    (λ (first : y ≡ x).
    let here : one_at x y ≡ 1 = ap (λ (b : Bool). if b then 1 else 0) (eq-eqb x y (sym first)) in
    let rest : sum_by (one_at x) ys ≡ 0 = none_at x ys (λ z later e. pairs_head Differ y ys z apart later (first ∙ e)) in
    omega arith)
    (λ (later : Contains ys x).
    let here : one_at x y ≡ 0 = ap (λ (b : Bool). if b then 1 else 0) (ne_eqb x y (λ e. pairs_head Differ y ys x apart later (sym e))) in
    let rest : sum_by (one_at x) ys ≡ 1 = once_at x ys (pairs_rest Differ y ys apart) later in
    omega arith)
    (Contains_cases y ys x among)

sum_zero : {X : Type 0} (xs : List X) → sum_by (λ (x : X). 0) xs ≡ 0
sum_zero [] = refl
sum_zero {X} (x ∷ xs) = let all : sum_by (λ (y : X). 0) (x ∷ xs) ≡ 0 + sum_by (λ (y : X). 0) xs = sum_by-cons (λ (y : X). 0) x xs in let rest = sum_zero xs in omega arith

sum_two : (f g : ℕ → ℕ) (xs : List ℕ) → sum_by (λ x. f x + g x) xs ≡ sum_by f xs + sum_by g xs
sum_two f g [] = refl
sum_two f g (x ∷ xs) =
    let all : sum_by (λ y. f y + g y) (x ∷ xs) ≡ (f x + g x) + sum_by (λ y. f y + g y) xs = sum_by-cons (λ y. f y + g y) x xs in
    let one : sum_by f (x ∷ xs) ≡ f x + sum_by f xs = sum_by-cons f x xs in
    let other : sum_by g (x ∷ xs) ≡ g x + sum_by g xs = sum_by-cons g x xs in
    let rest = sum_two f g xs in
    omega arith

-- sums over seats of sums over pages, either way
sum_swap : (f : Seat → ℕ → ℕ) (seats : List Seat) (pages : List ℕ) → sum_by (λ page. sum_by (λ s. f s page) seats) pages ≡ sum_by (λ s. sum_by (f s) pages) seats
sum_swap f [] pages = sum_zero pages
sum_swap f (seat ∷ seats) pages =
    let each : (page : ℕ) → sum_by (λ s. f s page) (seat ∷ seats) ≡ f seat page + sum_by (λ s. f s page) seats = λ page. sum_by-cons (λ s. f s page) seat seats in
    let first : sum_by (λ page. sum_by (λ s. f s page) (seat ∷ seats)) pages ≡ sum_by (λ page. f seat page + sum_by (λ s. f s page) seats) pages =
    sum_alike (λ page. sum_by (λ s. f s page) (seat ∷ seats)) (λ page. f seat page + sum_by (λ s. f s page) seats) pages (λ page among. each page)
    in
    let parts : sum_by (λ page. f seat page + sum_by (λ s. f s page) seats) pages ≡ sum_by (f seat) pages + sum_by (λ page. sum_by (λ s. f s page) seats) pages = sum_two (f seat) (λ page. sum_by (λ s. f s page) seats) pages in
    let rest : sum_by (λ page. sum_by (λ s. f s page) seats) pages ≡ sum_by (λ s. sum_by (f s) pages) seats = sum_swap f seats pages in
    let all : sum_by (λ s. sum_by (f s) pages) (seat ∷ seats) ≡ sum_by (f seat) pages + sum_by (λ s. sum_by (f s) pages) seats = sum_by-cons (λ s. sum_by (f s) pages) seat seats in
    omega arith

-- ---- the pages of each cell

abbrev pub CountsReached : Type 0
CountsReached = (word : ℕ → ℕ) (n table : ℕ) (pages : List ℕ) → AllPairs Differ pages → ((page : ℕ) → 0 < times word n table page → Contains pages page) → sum_by (times word n table) pages ≡ pages_reached word n table

abbrev pub CountsFromTop : Type 0
CountsFromTop = (claims : Claims) → tables_of claims ≡ tables_under (want_of claims) levels 0

-- no edit is under way
pub record IsStill (claims : Seat → Claims) (stage : Stage2) : Type 0 where
  pub forest : IsForest claims stage
  pub still : stage.editing ≡ None
  pub reached : CountsReached
  pub counts : CountsFromTop

used_among : (claims : Seat → Claims) (stage : Stage2) → IsStill claims stage → (page : ℕ) → 0 < uses stage page → Contains (page_addresses stage.pool) page
used_among claims stage s page some = page_among stage.pool page s.forest.inside.aligned ((s.forest.taken page).1 some).in_range

unedited : (claims : Seat → Claims) (stage : Stage2) → IsStill claims stage → (seat : Seat) → is_edited stage.editing seat ≡ false
unedited claims stage s seat = ap (λ e. is_edited e seat) s.still

tree_pages_by : (claims : Seat → Claims) (stage : Stage2) → IsStill claims stage → (seat : Seat) → HasSeat stage seat → (tree : Option Tree) → seat.tree ≡ tree → IsSome tree
    → sum_by (λ page. tree_times (words stage.frames) page tree) (page_addresses stage.pool) ≡ tables_of (claims seat)
tree_pages_by claims stage s seat sits None has some = absurd (let no : ⊥ = cc in no)
tree_pages_by claims stage s seat sits (Some tree) has some =
    let stands = s.forest.stands seat tree sits has (unedited claims stage s seat) in
    let counted : sum_by (times (words stage.frames) levels tree.table) (page_addresses stage.pool) ≡ pages_reached (words stage.frames) levels tree.table =
    s.reached (words stage.frames) levels tree.table (page_addresses stage.pool) (pages_differ stage.pool)
    (λ page more.
    let up : tree_times (words stage.frames) page seat.tree ≤ table_uses stage page = sum_up (λ (x : Seat). tree_times (words stage.frames) page x.tree) stage.seats.items seat sits in
    let is : tree_times (words stage.frames) page seat.tree ≡ times (words stage.frames) levels tree.table page = ap (tree_times (words stage.frames) page) has in
    used_among claims stage s page (omega arith))
    in
    counted ∙ (stands_reach (want_of (claims seat)) (words stage.frames) levels tree.table 0 stands ∙ sym (s.counts (claims seat)))

ungone : (claims : Seat → Claims) (stage : Stage2) → IsStill claims stage → (seat : Seat) → is_gone stage.editing seat ≡ false
ungone claims stage s seat = ap (λ e. is_gone e seat) s.still

comm_pages_by : (claims : Seat → Claims) (stage : Stage2) → IsStill claims stage → (seat : Seat) → HasSeat stage seat → (comm : Option ℕ) → seat.comm ≡ comm
    → sum_by (λ page. comm_times page comm) (page_addresses stage.pool) ≡ (if not (is_some comm) then 0 else 1)
comm_pages_by claims stage s seat sits None has = sum_zero (page_addresses stage.pool)
comm_pages_by claims stage s seat sits (Some comm) has =
    let F : Seat → ℕ = λ (x : Seat). if is_gone stage.editing x then 0 else comm_times comm x.comm in
    let up : F seat ≤ comm_uses stage comm = sum_up F stage.seats.items seat sits in
    let here : F seat ≡ comm_times comm seat.comm = ap (λ b. if b then 0 else comm_times comm seat.comm) (ungone claims stage s seat) in
    let one : comm_times comm seat.comm ≡ 1 = ap (comm_times comm) has ∙ ap (λ (b : Bool). if b then 1 else 0) (eq-eqb comm comm refl) in
    once_at comm (page_addresses stage.pool) (pages_differ stage.pool) (used_among claims stage s comm (omega arith))

seat_pages_are : (claims : Seat → Claims) (stage : Stage2) → IsStill claims stage → (seat : Seat) → HasSeat stage seat
    → sum_by (λ page. tree_times (words stage.frames) page seat.tree + comm_times page seat.comm) (page_addresses stage.pool) ≡ seat_pages claims seat
seat_pages_are claims stage s seat sits =
    let T : ℕ → ℕ = λ page. tree_times (words stage.frames) page seat.tree in
    let C : ℕ → ℕ = λ page. comm_times page seat.comm in
    let both : sum_by (λ page. T page + C page) (page_addresses stage.pool) ≡ sum_by T (page_addresses stage.pool) + sum_by C (page_addresses stage.pool) = sum_two T C (page_addresses stage.pool) in
    let tables : sum_by T (page_addresses stage.pool) ≡ tables_of (claims seat) = tree_pages_by claims stage s seat sits seat.tree refl (s.forest.trees seat sits (unedited claims stage s seat)) in
    let comm : sum_by C (page_addresses stage.pool) ≡ (if is_root seat then 0 else 1) = comm_pages_by claims stage s seat sits seat.comm refl in
    omega arith

still_uses : (claims : Seat → Claims) (stage : Stage2) → IsStill claims stage → (page : ℕ)
    → uses stage page ≡ sum_by (λ (seat : Seat). tree_times (words stage.frames) page seat.tree + comm_times page seat.comm) stage.seats.items
still_uses claims stage s page =
    let T : Seat → ℕ = λ seat. tree_times (words stage.frames) page seat.tree in
    let C : Seat → ℕ = λ seat. comm_times page seat.comm in
    let G : Seat → ℕ = λ seat. if is_gone stage.editing seat then 0 else comm_times page seat.comm in
    let comms : sum_by G stage.seats.items ≡ sum_by C stage.seats.items = sum_alike G C stage.seats.items (λ seat among. ap (λ b. if b then 0 else comm_times page seat.comm) (ungone claims stage s seat)) in
    let ahead : ahead_uses stage.editing page ≡ 0 = ap (λ e. ahead_uses e page) s.still in
    let both : sum_by T stage.seats.items + sum_by C stage.seats.items ≡ sum_by (λ (seat : Seat). T seat + C seat) stage.seats.items = sum_both T C (λ (seat : Seat). T seat + C seat) stage.seats.items (λ seat. refl) in
    omega arith

-- all pages that are used are those of the cells
pub cells_pages : (claims : Seat → Claims) (stage : Stage2) → IsStill claims stage → sum_by (uses stage) (page_addresses stage.pool) ≡ sum_by (seat_pages claims) stage.seats.items
cells_pages claims stage s =
    let F : Seat → ℕ → ℕ = λ seat page. tree_times (words stage.frames) page seat.tree + comm_times page seat.comm in
    let each : (page : ℕ) → uses stage page ≡ sum_by (λ seat. F seat page) stage.seats.items = λ page. still_uses claims stage s page in
    sum_alike (uses stage) (λ page. sum_by (λ seat. F seat page) stage.seats.items) (page_addresses stage.pool) (λ page among. each page)
    ∙ (sum_swap F stage.seats.items (page_addresses stage.pool) ∙ sum_alike (λ seat. sum_by (F seat) (page_addresses stage.pool)) (seat_pages claims) stage.seats.items (λ seat sits. seat_pages_are claims stage s seat sits))
