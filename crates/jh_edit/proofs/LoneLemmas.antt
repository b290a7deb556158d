-- Where root alone has a seat, its tables are all that is used.
use Rattle.std.proofs.Common.{◌≡◌, ℕ, ◌+◌, ◌<◌, ◌≤◌, ◌↔◌, ◌^◌, inl, ⊎_elim, IsSome, if◌then◌else◌, nat_le, nat_lt, ap, ◌∙◌, sym, subst, arith, refl, false, List, [], ◌∷◌, Contains, sum_by, Option, Some, None, length}
use Rattle.std.specs.Prelude.{vec_capacity}
use Rattle.std.proofs.lemmas.List.Sums.{sum_by-cons}
use Rattle.std.proofs.lemmas.Bool.{and_parts, cases_Bool, leb-true, ltb-true}
use Rattle.jh_num.proofs.Public.{Contains_cases}
use Rattle.jh_cache.specs.declared.translation.Translation.{Translation}
use Rattle.jh_cache.specs.Translations.{translations_of}
use Rattle.jh_desc.specs.declared.descriptor.Hit.{Hit}
use Rattle.jh_frames.specs.Memory.{OwnView, is_own}
use Rattle.jh_pool.specs.Pages.{IsTakenPage}
use Rattle.jh_walk.specs.Pages.{times}
use Rattle.jh_walk.specs.Walks.{levels, walk_of}
use Rattle.jh_shape.specs.Claims.{Claims}
use Rattle.jh_shape.specs.Shapes.{want_of}
use Rattle.jh_edit.specs.declared.stage.Seat.{Seat}
use Rattle.jh_edit.specs.declared.stage.Stage2.{Stage2}
use Rattle.jh_edit.specs.declared.stage.Tree.{Tree}
use Rattle.jh_edit.specs.Forest.{HasSeat, IsForest, IsLoneRoot, LeadsOutside, ahead_uses, comm_times, comm_uses, is_gone, table_uses, tree_times, uses}
use Rattle.jh_edit.specs.Tables.{AreTables, IsPoolOf, words}
use Rattle.jh_edit.specs.Trees.{Stands}

-- a place is outside that can't be inside
pub out_by : (own : OwnView) (place : ℕ) → (own.base ≤ place → place < own.base + length own.bytes → ⊥) → is_own own place ≡ false
out_by own place none =
    ⊎_elim
    (λ yes. let p = and_parts (nat_le own.base place) (nat_lt place (own.base + length own.bytes)) yes in absurd (none (leb-true own.base place p.0) (ltb-true place (own.base + length own.bytes) p.1)))
    (λ no. no) (cases_Bool (is_own own place))

-- what stands after opening
pub record IsOpened (claims : Claims) (stage : Stage2) : Type 0 where
  pub id : ℕ
  pub lone : IsLoneRoot id stage
  pub inside : IsPoolOf stage.pool stage.frames
  pub stands : Stands (want_of claims) (words stage.frames) levels lone.table 0
  pub tables : AreTables stage.frames lone.table
  pub taken : (page : ℕ) → IsTakenPage stage.pool page ↔ (0 < times (words stage.frames) levels lone.table page)
  pub empty : (cpu : ℕ) → translations_of stage.cache cpu ≡ []
  pub outside : (at : ℕ) (hit : Hit) → at < 2 ^ 48 → walk_of (words stage.frames) levels lone.table at ≡ Some hit → LeadsOutside stage.frames hit
  pub room : 16 ≤ vec_capacity stage.seats

abbrev pub lone_tree : ℕ → Tree
lone_tree table = record { table = table; tag = 0 }

abbrev pub lone_seat : ℕ → ℕ → Seat
lone_seat id table = record { id = id; comm = None; tree = Some (lone_tree table) }

-- the one seat is root's
lone_is : (claims : Claims) (stage : Stage2) → (is : IsOpened claims stage) → (seat : Seat) → HasSeat stage seat → lone_seat is.id is.lone.table ≡ seat
lone_is claims stage is seat sits =
    let P : List Seat → Type 0 = λ seats. Contains seats seat in
    let among : Contains (lone_seat is.id is.lone.table ∷ []) seat = subst P is.lone.seats sits in
    ⊎_elim (λ same. same) (λ (past : Contains [] seat). absurd (omega (arith, past.1))) (Contains_cases (lone_seat is.id is.lone.table) [] seat among)

abbrev table_in : Option Tree → ℕ → ℕ
table_in None other = other
table_in (Some tree) other = tree.table

lone_table : (id table : ℕ) (tree : Tree) (seat : Seat) → lone_seat id table ≡ seat → seat.tree ≡ Some tree → table ≡ tree.table
lone_table id table tree seat same has =
    let e : Some (lone_tree table) ≡ Some tree = ap (λ (s : Seat). s.tree) same ∙ has in
    ap (λ o. table_in o table) e

lone_sum : (f : Seat → ℕ) (stage : Stage2) (id table : ℕ) → stage.seats.items ≡ lone_seat id table ∷ [] → sum_by f stage.seats.items ≡ f (lone_seat id table)
lone_sum f stage id table is = let one = sum_by-cons f (lone_seat id table) [] in ap (sum_by f) is ∙ (one ∙ omega arith)

lone_uses : (claims : Claims) (stage : Stage2) → (is : IsOpened claims stage) → (page : ℕ) → uses stage page ≡ times (words stage.frames) levels is.lone.table page
lone_uses claims stage is page =
    let tables : table_uses stage page ≡ times (words stage.frames) levels is.lone.table page = lone_sum (λ (seat : Seat). tree_times (words stage.frames) page seat.tree) stage is.id is.lone.table is.lone.seats in
    let gone : is_gone stage.editing (lone_seat is.id is.lone.table) ≡ false = ap (λ e. is_gone e (lone_seat is.id is.lone.table)) is.lone.still in
    let comms : comm_uses stage page ≡ 0 =
    lone_sum (λ (seat : Seat). if is_gone stage.editing seat then 0 else comm_times page seat.comm) stage is.id is.lone.table is.lone.seats ∙ ap (λ b. if b then 0 else 0) gone
    in
    let ahead : ahead_uses stage.editing page ≡ 0 = ap (λ e. ahead_uses e page) is.lone.still in
    omega arith

pub lone_forest : (claims : Claims) (stage : Stage2) → IsOpened claims stage → IsForest (λ seat. claims) stage
lone_forest claims stage is =
    let used = lone_uses claims stage is in
    let found : (seat : Seat) (tree : Tree) → HasSeat stage seat → seat.tree ≡ Some tree → is.lone.table ≡ tree.table = λ seat tree sits has. lone_table is.id is.lone.table tree seat (lone_is claims stage is seat sits) has in
    record {
      inside = is.inside;
      once = λ page. let P : ℕ → Type 0 = λ n. n ≤ 1 in subst P (sym (used page)) (is.tables.once page);
      taken = λ page. let P : ℕ → Type 0 = λ n. IsTakenPage stage.pool page ↔ (0 < n) in subst P (sym (used page)) (is.taken page);
      trees = λ seat sits still. let P : Seat → Type 0 = λ s. IsSome s.tree in subst P (lone_is claims stage is seat sits) refl;
      stands = λ seat tree sits has still. let P : ℕ → Type 0 = λ t. Stands (want_of claims) (words stage.frames) levels t 0 in subst P (found seat tree sits has) is.stands;
      outside = λ seat tree sits has at hit low walk. inl (is.outside at hit low (ap (λ t. walk_of (words stage.frames) levels t at) (found seat tree sits has) ∙ walk));
      cached = λ cpu translation held.
          let P : List Translation → Type 0 = λ list. Contains list translation in
          let past : Contains [] translation = subst P (is.empty cpu) held in
          absurd (omega (arith, past.1));
      apart = λ i j d low high. absurd (let long : length stage.seats.items ≡ 1 = ap length is.lone.seats in let no : ⊥ = omega arith in no);
      room = is.room;
    }
