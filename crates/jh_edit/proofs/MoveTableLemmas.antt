-- The tables after a turn: each page is reached once, begins at a page, and is the hypervisor's.
use Rattle.std.proofs.Common.{◌≡◌, ℕ, ◌+◌, ◌*◌, ◌%◌, ◌<◌, ◌≤◌, ap, ◌∙◌, sym, subst, true, false, ◌||◌, nat_eq, nat_lt, length, if◌then◌else◌, Option, Some, None, IfSome, arith, refl, ⊎_elim}
use Rattle.std.proofs.lemmas.Bool.{and_right, cases_Bool, ne_eqb, or_right}
use Rattle.jh_num.proofs.Public.{same_number}
use Rattle.jh_frames.specs.Memory.{FramesView, AreOwnBytes}
use Rattle.jh_pool.specs.Pages.{IsTakenPage, PoolView}
use Rattle.jh_walk.specs.Pages.{times}
use Rattle.jh_walk.specs.Walks.{levels}
use Rattle.jh_shape.specs.Wanted.{Wants}
use Rattle.jh_edit.specs.declared.edit.Ahead.{Ahead}
use Rattle.jh_edit.specs.Plans.{EditView, IsAhead, Plans}
use Rattle.jh_edit.specs.Tables.{AreTables, HasTaken, IsPoolOf, is_ahead, is_mine, is_over, words}
use Rattle.jh_edit.specs.Moves.{IsTurn, Move}
use Rattle.jh_edit.proofs.MovePageLemmas.{moved_each, moved_once}
use Rattle.jh_edit.proofs.MoveTurnLemmas.{AreApart}

-- ---- an edit that has a turn left

pub not_over : (edit : EditView) → 0 < edit.left → is_over edit ≡ false
not_over edit some = and_right edit.removing (nat_eq edit.left 0) (ne_eqb edit.left 0 (λ none. omega arith))

-- its pages are the tables and the page ahead
pub mine_is : (edit : EditView) (word : ℕ → ℕ) (q : ℕ) → is_over edit ≡ false → is_mine edit word q ≡ (nat_lt 0 (times word levels edit.table q) || is_ahead edit.ahead q)
mine_is edit word q over = ap (λ b. if b then false else nat_lt 0 (times word levels edit.table q) || is_ahead edit.ahead q) over

pub ahead_mine : (edit : EditView) (word : ℕ → ℕ) (ahead : Ahead) → 0 < edit.left → edit.ahead ≡ Some ahead → is_mine edit word ahead.page ≡ true
ahead_mine edit word ahead some is =
    mine_is edit word ahead.page (not_over edit some)
    ∙ or_right (nat_lt 0 (times word levels edit.table ahead.page)) (is_ahead edit.ahead ahead.page) (ap (λ a. is_ahead a ahead.page) is ∙ same_number ahead.page)

-- a taken page is the hypervisor's
pub taken_own : (pool : PoolView) (frames : FramesView) (page : ℕ) → IsPoolOf pool frames → IsTakenPage pool page → AreOwnBytes frames.own page 4096
taken_own pool frames page of taken =
    let aligned : page % 4096 ≡ 0 = taken.in_range.aligned in
    let begins : pool.base % 4096 ≡ 0 = of.aligned in
    let above : pool.base ≤ page = taken.in_range.above in
    let below : page < pool.base + 4096 * pool.size = taken.in_range.below in
    let base : pool.base ≡ frames.own.base = of.base in
    let size : 4096 * pool.size ≡ length frames.own.bytes = of.size in
    record { above = omega arith; below = omega arith }

-- what holds of the page ahead, whichever it is
ahead_each : (P : ℕ → Type 0) (a : Option Ahead) → ((ahead : Ahead) → a ≡ Some ahead → P ahead.page) → IfSome a (λ (ahead : Ahead). P ahead.page)
ahead_each P None h = tt
ahead_each P (Some ahead) h = h ahead refl

ahead_aligned : (edit : EditView) (want : Wants) (word : ℕ → ℕ) → Plans edit want word → (ahead : Ahead) → edit.ahead ≡ Some ahead → ahead.page % 4096 ≡ 0
ahead_aligned edit want word plans ahead is =
    ⊎_elim
    (λ away. let none : None ≡ Some ahead = sym (plans.removal away).ahead ∙ is in absurd (let no : ⊥ = cc in no))
    (λ aims. (subst (λ a. IfSome a (IsAhead want word edit.table)) is (plans.target aims).ahead).aligned)
    (cases_Bool edit.removing)

-- a turn keeps the tables apart
pub turn_tables : (frames frames' : FramesView) (old new : EditView) (want : Wants) (move : Move) (pool : PoolView) → AreTables frames old.table → IsPoolOf pool frames → HasTaken old (words frames) pool → Plans old want (words frames)
    → frames'.own.base ≡ frames.own.base → length frames'.own.bytes ≡ length frames.own.bytes → IsTurn old new want (words frames) (words frames') move → AreTables frames' new.table
turn_tables frames frames' old new want move pool tables of taken plans base size is =
    let apart : AreApart (words frames) old.table = record { once = tables.once; aligned = tables.aligned } in
    let left : new.left + 1 ≡ old.left = is.left in
    let some : 0 < old.left = omega arith in
    let Fine = λ (q : ℕ). (q % 4096 ≡ 0) × AreOwnBytes frames.own q 4096 in
    let ahead : IfSome old.ahead (λ (a : Ahead). Fine a.page) = ahead_each Fine old.ahead (λ a e. (ahead_aligned old want (words frames) plans a e, taken_own pool frames a.page of (taken a.page (ahead_mine old (words frames) a some e)))) in
    let each : (q : ℕ) → 0 < times (words frames') levels old.table q → Fine q =
    moved_each Fine want (words frames) (words frames') old.table old.removing old.ahead move apart is.at is.moved (λ q reached. (tables.aligned q reached, tables.own q reached)) ahead in
    let fine : (q : ℕ) → 0 < times (words frames') levels new.table q → Fine q = λ q reached. each q (subst (λ t. 0 < times (words frames') levels t q) is.table reached) in
    record {
      once = λ q. subst (λ t. times (words frames') levels t q ≤ 1) (sym is.table) (moved_once want (words frames) (words frames') old.table move apart is.moved q);
      aligned = λ q reached. (fine q reached).0;
      own = λ q reached. let own = (fine q reached).1 in let above : frames.own.base ≤ q = own.above in let below : q + 4096 ≤ frames.own.base + length frames.own.bytes = own.below in record { above = omega arith; below = omega arith };
    }
