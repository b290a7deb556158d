-- In memory that is all zeros a table names none, and lacks all tables that are wanted below it.
use Rattle.std.proofs.Common.{◌≡◌, ◌≢◌, ℕ, ◌+◌, ◌-◌, ◌*◌, ◌%◌, ◌<◌, ◌≤◌, ◌&&◌, ◌||◌, ap, ◌∙◌, sym, subst, arith, refl, Bool, true, false, nat_eq, nat_lt, ⊎_elim, Option, Some, None, List, if◌then◌else◌, suc}
use Rattle.std.proofs.lemmas.Bool.{eqb-true, false≢true, lt-ltb, ltb-true, cases_Bool}
use Rattle.jh_num.specs.declared.level.TheConstants.{LAST_LEVEL}
use Rattle.jh_num.specs.Below.{sum_below}
use Rattle.jh_num.proofs.Public.{same_number, sum_same}
use Rattle.jh_desc.specs.declared.descriptor.Descriptor.TheVariants.{Invalid}
use Rattle.jh_desc.specs.Descriptors.{read_of}
use Rattle.jh_frames.specs.Memory.{AreOwnBytes, FramesView, byte_at}
use Rattle.jh_pool.specs.Pages.{IsPageOf, IsTakenPage, PoolView, is_free, used_of}
use Rattle.jh_walk.specs.Counts.{Step, StateWeight, by_next, count_from, unmoved}
use Rattle.jh_walk.specs.Pages.{page_weight, times}
use Rattle.jh_walk.specs.Walks.{levels}
use Rattle.jh_shape.specs.Wanted.{Wants, if_table, slot_start, tables_under}
use Rattle.jh_cache.specs.declared.translation.Translation.{Translation}
use Rattle.jh_edit.specs.Plans.{EditView, Plans}
use Rattle.jh_edit.specs.Private.Standing.{IsAlone, IsBlank}
use Rattle.jh_edit.specs.Tables.{IsPoolOf, is_ahead, is_mine, words}
use Rattle.jh_edit.specs.Trees.{lack_at, lack_of, lacking, staying}
use Rattle.jh_edit.proofs.LackLemmas.{lack_whole}
use Rattle.jh_edit.proofs.MovePageLemmas.{few_if, if_some}
use Rattle.jh_edit.proofs.MoveTableLemmas.{taken_own}
use Rattle.jh_edit.proofs.StepLemmas.{word_alike}
use Rattle.jh_edit.proofs.SumLemmas.{count_more, sum_none, under_more}

-- each word is 0
pub zero_word : (f : FramesView) → ((q : ℕ) → byte_at f q ≡ 0) → (at : ℕ) → words f at ≡ 0
zero_word f zero at = word_alike (λ q. 0) (byte_at f) at (λ r low high. zero r)

-- ---- a table all of whose words are 0

-- each word of the table is 0
abbrev pub IsClear : (ℕ → ℕ) → ℕ → Type 0
IsClear word table = (i : ℕ) → i < 512 → word (table + 8 * i) ≡ 0

clear_reads : (word : ℕ → ℕ) (table : ℕ) → IsClear word table → (i level : ℕ) → i < 512 → read_of (word (table + 8 * i)) level ≡ Invalid
clear_reads word table zero i level few = ap (λ w. read_of w level) (zero i few)

pub clear_count : (step : Step) (weight : StateWeight) (word : ℕ → ℕ) (n : ℕ) (s : Option ℕ) (table : ℕ) → IsClear word table → count_from step weight word (suc n) s table ≡ weight s word n table
clear_count step weight word n s table zero =
    let B = λ (i : ℕ). by_next (count_from step weight word n (step s n i)) (read_of (word (table + 8 * i)) (LAST_LEVEL - n)) in
    let none : sum_below 512 B ≡ 0 = sum_none B 512 (λ i lt. ap (by_next (count_from step weight word n (step s n i))) (clear_reads word table zero i (LAST_LEVEL - n) lt)) in
    let all = count_more step weight word n s table in
    omega arith

pub clear_times : (word : ℕ → ℕ) (table page : ℕ) → IsClear word table → times word levels table page ≡ (if nat_eq table page then 1 else 0)
clear_times word table page zero = clear_count unmoved (λ state. page_weight page) word 3 None table zero

pub clear_lack : (want : Wants) (word : ℕ → ℕ) (table : ℕ) → IsClear word table → lack_of want word levels table 0 + 1 ≡ tables_under want levels 0
clear_lack want word table zero =
    let S = λ (i : ℕ). slot_start (LAST_LEVEL - 3) 0 i in
    let K = λ (i : ℕ). lacking (tables_under want 3 (S i)) (want (LAST_LEVEL - 3) (S i)) (read_of (word (table + 8 * i)) (LAST_LEVEL - 3)) in
    let T = λ (i : ℕ). if_table (tables_under want 3 (S i)) (want (LAST_LEVEL - 3) (S i)) in
    let same : sum_below 512 K ≡ sum_below 512 T =
    sum_same 512 K T (λ i lt. ap (lacking (tables_under want 3 (S i)) (want (LAST_LEVEL - 3) (S i))) (clear_reads word table zero i (LAST_LEVEL - 3) lt) ∙ lack_whole (tables_under want 3 (S i)) (want (LAST_LEVEL - 3) (S i))) in
    let lack : lack_of want word levels table 0 ≡ sum_below 512 K = clear_count (staying want) (lack_at want) word 3 (Some 0) table zero in
    let under : tables_under want levels 0 ≡ 1 + sum_below 512 T = under_more want 3 0 in
    omega arith

-- ---- where all words are 0

pub blank_times : (word : ℕ → ℕ) (table page : ℕ) → ((at : ℕ) → word at ≡ 0) → times word levels table page ≡ (if nat_eq table page then 1 else 0)
blank_times word table page zero = clear_times word table page (λ i few. zero (table + 8 * i))

pub blank_lack : (want : Wants) (word : ℕ → ℕ) (table : ℕ) → ((at : ℕ) → word at ≡ 0) → lack_of want word levels table 0 + 1 ≡ tables_under want levels 0
blank_lack want word table zero = clear_lack want word table (λ i few. zero (table + 8 * i))

-- only the table itself is reached
pub blank_reached : (word : ℕ → ℕ) (table page : ℕ) → ((at : ℕ) → word at ≡ 0) → 0 < times word levels table page → table ≡ page
blank_reached word table page zero some =
    let is = blank_times word table page zero in
    let here : 0 < (if nat_eq table page then 1 else 0) = omega arith in
    eqb-true table page (if_some (nat_eq table page) here)

pub blank_self : (word : ℕ → ℕ) (table : ℕ) → ((at : ℕ) → word at ≡ 0) → times word levels table table ≡ 1
blank_self word table zero = blank_times word table table zero ∙ ap (λ b. if b then 1 else 0) (same_number table)

pub blank_once : (word : ℕ → ℕ) (table page : ℕ) → ((at : ℕ) → word at ≡ 0) → times word levels table page ≤ 1
blank_once word table page zero = let is = blank_times word table page zero in let one = few_if (nat_eq table page) in omega arith

-- the page that was taken first is the only one that is taken
pub first_taken : (p p' : PoolView) (table : ℕ) → ((page : ℕ) → IsPageOf p page → is_free p page ≡ true) → p'.base ≡ p.base → p'.size ≡ p.size → ((q : ℕ) → q ≢ table → is_free p' q ≡ is_free p q)
    → (q : ℕ) → IsTakenPage p' q → q ≡ table
first_taken p p' table free base size others q taken =
    ⊎_elim
    (λ same. eqb-true q table same)
    (λ other.
    let apart : q ≢ table = λ e. false≢true (sym other ∙ (ap (λ z. nat_eq z table) e ∙ same_number table)) in
    let above : p'.base ≤ q = taken.in_range.above in
    let below : q < p'.base + 4096 * p'.size = taken.in_range.below in
    let page : IsPageOf p q = record { aligned = taken.in_range.aligned; above = omega arith; below = omega arith } in
    absurd (false≢true (sym taken.taken ∙ (others q apart ∙ free q page))))
    (cases_Bool (nat_eq q table))

-- the edit to a target that begins at the page that was taken first
pub record IsBegun (want : Wants) (edit : EditView) (first : ℕ) (f : FramesView) (p p' : PoolView) : Type 0 where
  pub table : edit.table ≡ first
  pub aim : edit.removing ≡ false
  pub ahead : edit.ahead ≡ None
  pub plan : Plans edit want (words f)
  pub taken : IsTakenPage p' first
  pub others : (q : ℕ) → q ≢ first → is_free p' q ≡ is_free p q
  pub base : p'.base ≡ p.base
  pub size : p'.size ≡ p.size
  pub used : used_of p' ≡ used_of p + 1
  pub enough : tables_under want levels 0 ≤ p.size

-- ---- pages of the edit that begins

mine_if : (edit : EditView) (word : ℕ → ℕ) (table page : ℕ) → edit.removing ≡ false → edit.table ≡ table → times word levels table page ≡ 1 → is_mine edit word page ≡ true
mine_if edit word table page aim is one =
    let t : times word levels edit.table page ≡ 1 = ap (λ z. times word levels z page) is ∙ one in
    let some : 0 < times word levels edit.table page = omega arith in
    ap (λ b. if b && nat_eq edit.left 0 then false else nat_lt 0 (times word levels edit.table page) || is_ahead edit.ahead page) aim
    ∙ ap (λ b. b || is_ahead edit.ahead page) (lt-ltb 0 (times word levels edit.table page) some)

plain_true : (b : Bool) → (b || false) ≡ true → b ≡ true
plain_true true e = refl
plain_true false e = e

only_mine : (edit : EditView) (word : ℕ → ℕ) (table page : ℕ) → edit.removing ≡ false → edit.table ≡ table → edit.ahead ≡ None → is_mine edit word page ≡ true → 0 < times word levels table page
only_mine edit word table page aim is none mine =
    let plain : is_mine edit word page ≡ (nat_lt 0 (times word levels table page) || false) =
    ap (λ b. if b && nat_eq edit.left 0 then false else nat_lt 0 (times word levels edit.table page) || is_ahead edit.ahead page) aim
    ∙ ap (λ a. nat_lt 0 (times word levels edit.table page) || is_ahead a page) none
    ∙ ap (λ t. nat_lt 0 (times word levels t page) || false) is
    in
    ltb-true 0 (times word levels table page) (plain_true (nat_lt 0 (times word levels table page)) (sym plain ∙ mine))

pub begun_alone : (want : Wants) (edit : EditView) (first : ℕ) (f : FramesView) (p p' : PoolView) (c : List (List Translation)) → IsBlank f p c → IsBegun want edit first f p p' → IsAlone want edit f p' c
begun_alone want edit first f p p' c blank is =
    let zero = zero_word f blank.zero in
    let base : p'.base ≡ p.base = is.base in
    let size : p'.size ≡ p.size = is.size in
    let of : IsPoolOf p' f = record {
      aligned = ap (λ b. b % 4096) base ∙ blank.pool.aligned;
      base = base ∙ blank.pool.base;
      size = ap (λ n. 4096 * n) size ∙ blank.pool.size;
      end = let end = blank.pool.end in omega arith;
    } in
    let reached : (page : ℕ) → 0 < times (words f) levels edit.table page → first ≡ page = λ page some.
    blank_reached (words f) first page zero (subst (λ t. 0 < times (words f) levels t page) is.table some) in
    let lack : lack_of want (words f) levels edit.table 0 + 1 ≡ tables_under want levels 0 = blank_lack want (words f) edit.table zero in
    let used : used_of p' ≡ used_of p + 1 = is.used in
    let none : used_of p ≡ 0 = blank.used in
    let enough : tables_under want levels 0 ≤ p.size = is.enough in
    record {
      aim = is.aim;
      plan = is.plan;
      tables = record {
        once = λ page. blank_once (words f) edit.table page zero;
        aligned = λ page some. let P : ℕ → Type 0 = λ q. q % 4096 ≡ 0 in subst P (reached page some) is.taken.in_range.aligned;
        own = λ page some. let P : ℕ → Type 0 = λ q. AreOwnBytes f.own q 4096 in subst P (reached page some) (taken_own p' f first of is.taken);
      };
      pool = of;
      taken = λ page. (
        λ taken. mine_if edit (words f) first page is.aim is.table
            (let P : ℕ → Type 0 = λ q. times (words f) levels first q ≡ 1 in subst P (sym (first_taken p p' first blank.free base size is.others page taken)) (blank_self (words f) first zero)),
        λ mine. let P : ℕ → Type 0 = λ q. IsTakenPage p' q in subst P (blank_reached (words f) first page zero (only_mine edit (words f) first page is.aim is.table is.ahead mine)) is.taken,
      );
      enough = omega arith;
      empty = blank.empty;
    }
