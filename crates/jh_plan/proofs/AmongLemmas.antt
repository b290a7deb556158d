-- Cells of which no two have one id, each among others: they have no more pages than these, whatever their order.
use Rattle.std.proofs.Common.{◌≡◌, ◌≢◌, ℕ, ◌+◌, ◌*◌, ◌^◌, ◌≤◌, Bool, true, false, cond, List, [], ◌∷◌, ◌++◌, zero, suc, take, drop, map, refl, sym, ap, subst, ◌∙◌, inl, inr, arith}
use Rattle.std.specs.List.{Contains, sum_by}
use Rattle.std.proofs.lemmas.Bool.{both_ways}
use Rattle.std.proofs.lemmas.List.{take-append-drop, drop_more}
use Rattle.std.proofs.lemmas.List.Elements.{Contains-append_left, Contains-append_right, Contains-append_cases, Contains-push_cases}
use Rattle.std.proofs.lemmas.List.Sums.{sum_by-append, sum_by-cons}
use Rattle.jh_num.proofs.Public.{Contains_cases, Contains_head, Contains_tail, Contains_map, Contains_from_map}
use Rattle.jh_cellcfg.specs.declared.config.CellConfig.{CellConfig}
use Rattle.jh_cellcfg.specs.declared.region.Region.{Region}
use Rattle.jh_shape.specs.declared.want.Want.{Want}
use Rattle.jh_shape.specs.declared.want.Want.TheVariants.{Nothing, Table, Leaf}
use Rattle.jh_shape.specs.Claims.{Claims, Holder, holder_of}
use Rattle.jh_shape.specs.Laws.{is_to_table, tables_by, IsBesideMore}
use Rattle.jh_shape.specs.Pages.{count_below, own_pages, pages_of, root_claims, tables_of}
use Rattle.jh_shape.specs.Shapes.{want_of}

-- ---- cells of their own ids

-- no two of the cells have one id
abbrev pub HaveOwnIds : List CellConfig → Type 0
HaveOwnIds [] = Unit {0}
HaveOwnIds (cell ∷ cells) = ((other : CellConfig) → Contains cells other → other.id ≢ cell.id) × HaveOwnIds cells

-- each of the cells is one of these
abbrev pub AreAmong : List CellConfig → List CellConfig → Type 0
AreAmong cells all = (cell : CellConfig) → Contains cells cell → Contains all cell

-- one more, which has an id of its own
pub own_id_too : (cells : List CellConfig) (new : CellConfig) → HaveOwnIds cells → ((cell : CellConfig) → Contains cells cell → cell.id ≢ new.id) → HaveOwnIds (cells ++ new ∷ [])
own_id_too [] new own others = (λ other held. absurd (nothing_in other held), tt)
  where
    nothing_in : (x : CellConfig) → Contains [] x → ⊥
    nothing_in x (k, below, is) = omega (arith, below)
own_id_too (c ∷ cs) new own others = (
  λ other held. elim (Contains-push_cases cs new other held) [
    | inl among ↦ own.0 other among
    | inr is ↦ λ same. others c (Contains_head c cs) (sym same ∙ ap (λ (x : CellConfig). x.id) (sym is))
  ],
  own_id_too cs new own.1 (λ cell held. others cell (Contains_tail c cs cell held)),
)

-- ---- sums over them

record Split (cells : List CellConfig) (cell : CellConfig) : Type 0 where
  before : List CellConfig
  behind : List CellConfig
  is : cells ≡ before ++ cell ∷ behind

split_at : (cells : List CellConfig) (cell : CellConfig) → Contains cells cell → Split cells cell
split_at cells cell (k, below, is) = record {
  before = take k cells;
  behind = drop (k + 1) cells;
  is = sym (take-append-drop k cells) ∙ ap (λ xs. take k cells ++ xs) (drop_more cells k cell below ∙ ap (λ x. x ∷ drop (k + 1) cells) is);
}

sum_of_split : (f : CellConfig → ℕ) (before behind : List CellConfig) (cell : CellConfig) → sum_by f (before ++ cell ∷ behind) ≡ f cell + sum_by f (before ++ behind)
sum_of_split f before behind cell =
    let whole = sum_by-append f before (cell ∷ behind) in
    let rest = sum_by-append f before behind in
    let one = sum_by-cons f cell behind in
    omega (arith, whole, rest, one)

-- whatever is counted for each cell
pub sum_among : (f : CellConfig → ℕ) (cells all : List CellConfig) → HaveOwnIds cells → AreAmong cells all → sum_by f cells ≤ sum_by f all
sum_among f [] all own among = omega arith
sum_among f (c ∷ cs) all own among =
    let s = split_at all c (among c (Contains_head c cs)) in
    let others : AreAmong cs (s.before ++ s.behind) = λ cell held.
    let there : Contains (s.before ++ c ∷ s.behind) cell = subst (λ (cells : List CellConfig). Contains cells cell) s.is (among cell (Contains_tail c cs cell held)) in
    elim (Contains-append_cases s.before (c ∷ s.behind) cell there) [
      | inl front ↦ Contains-append_left s.before s.behind cell front
      | inr back ↦ elim (Contains_cases c s.behind cell back) [
        | inl is ↦ absurd (own.0 cell held (ap (λ (x : CellConfig). x.id) (sym is)))
        | inr later ↦ Contains-append_right s.before s.behind cell later
      ]
    ] in
    let rest = sum_among f cs (s.before ++ s.behind) own.1 others in
    let whole : sum_by f all ≡ f c + sum_by f (s.before ++ s.behind) = ap (sum_by f) s.is ∙ sum_of_split f s.before s.behind c in
    omega (arith, rest, whole, sum_by-cons f c cs)

-- ---- root's tables beside them

-- what the law says of a table beside more cells
abbrev pub KeepsTables : Type 0
KeepsTables = (few many : Claims) (level start : ℕ) → IsBesideMore few many → want_of few level start ≡ Table → want_of many level start ≡ Table

-- what the law says of the count of tables
abbrev pub CountsTables : Type 0
CountsTables = (claims : Claims) → tables_of claims ≡ tables_by (want_of claims)

table_by : KeepsTables → (few many : Claims) → IsBesideMore few many → (level start : ℕ) (want : Want) → want_of few level start ≡ want → is_to_table want ≡ true → is_to_table (want_of many level start) ≡ true
table_by keeps few many more level start Nothing is e = absurd (both_ways false refl e)
table_by keeps few many more level start Table is e = ap is_to_table (keeps few many level start more is)
table_by keeps few many more level start (Leaf out rights device) is e = absurd (both_ways false refl e)

table_stays : KeepsTables → (few many : Claims) → IsBesideMore few many → (level start : ℕ) → is_to_table (want_of few level start) ≡ true → is_to_table (want_of many level start) ≡ true
table_stays keeps few many more level start e = table_by keeps few many more level start (want_of few level start) refl e

-- of so many slots those that lead to tables
count_le : (p q : ℕ → Want) → ((n : ℕ) → is_to_table (p n) ≡ true → is_to_table (q n) ≡ true) → (n : ℕ) → count_below (λ k. is_to_table (p k)) n ≤ count_below (λ k. is_to_table (q k)) n
unfolding count_below
count_le p q h zero = omega arith
count_le p q h (suc n) = one (is_to_table (p n)) (is_to_table (q n)) (count_below (λ k. is_to_table (p k)) n) (count_below (λ k. is_to_table (q k)) n) (h n) (count_le p q h n)
  where
    one : (a b : Bool) (m n : ℕ) → (a ≡ true → b ≡ true) → m ≤ n → m + cond a 1 0 ≤ n + cond b 1 0
    one true true m n i l = omega arith
    one true false m n i l = absurd (both_ways false refl (i refl))
    one false true m n i l = omega arith
    one false false m n i l = omega arith

tables_le_by : (p q : ℕ → ℕ → Want) → ((level start : ℕ) → is_to_table (p level start) ≡ true → is_to_table (q level start) ≡ true) → tables_by p ≤ tables_by q
tables_le_by p q h =
    let a = count_le (λ n. p 0 (n * 2 ^ 39)) (λ n. q 0 (n * 2 ^ 39)) (λ n. h 0 (n * 2 ^ 39)) 512 in
    let b = count_le (λ n. p 1 (n * 2 ^ 30)) (λ n. q 1 (n * 2 ^ 30)) (λ n. h 1 (n * 2 ^ 30)) (512 * 512) in
    let c = count_le (λ n. p 2 (n * 2 ^ 21)) (λ n. q 2 (n * 2 ^ 21)) (λ n. h 2 (n * 2 ^ 21)) (512 * 512 * 512) in
    omega (arith, a, b, c)

holders_among : (cells all : List CellConfig) → AreAmong cells all → (holder : Holder) → Contains (map holder_of cells) holder → Contains (map holder_of all) holder
holders_among cells all among holder held =
    let from = Contains_from_map holder_of cells holder held in
    subst (λ (h : Holder). Contains (map holder_of all) h) from.2 (Contains_map holder_of all from.0 (among from.0 from.1))

tables_among : KeepsTables → CountsTables → (regions : List Region) (cells all : List CellConfig) → AreAmong cells all → tables_of (root_claims regions cells) ≤ tables_of (root_claims regions all)
tables_among keeps counts regions cells all among =
    let few = root_claims regions cells in
    let many = root_claims regions all in
    let more : IsBesideMore few many = record { regions = refl; root = refl; holders = holders_among cells all among } in
    let le = tables_le_by (want_of few) (want_of many) (table_stays keeps few many more) in
    omega (arith, le, counts few, counts many)

pub pages_among : KeepsTables → CountsTables → (regions : List Region) (cells all : List CellConfig) → HaveOwnIds cells → AreAmong cells all → pages_of regions cells ≤ pages_of regions all
pages_among keeps counts regions cells all own among =
    let tables = tables_among keeps counts regions cells all among in
    let pages = sum_among own_pages cells all own among in
    omega (arith, tables, pages)
