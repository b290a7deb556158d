-- What one turn does is a step of the edit.
use Rattle.std.proofs.Common.{◌≡◌, ℕ, ◌+◌, ◌-◌, ◌*◌, ◌%◌, ◌<◌, ◌≤◌, suc, ap, ◌∙◌, sym, subst, ⊎_elim, nat_lt, arith, refl, true, false, Option, Some, None, IfSome}
use Rattle.std.proofs.lemmas.Bool.{false≢true, lt-ltb, or_left}
use Rattle.jh_num.specs.declared.address.TheConstants.{ADDRESS_END}
use Rattle.jh_num.specs.declared.level.TheConstants.{LAST_LEVEL}
use Rattle.jh_desc.specs.declared.descriptor.Descriptor.TheVariants.{Table}
use Rattle.jh_desc.specs.Descriptors.{read_of}
use Rattle.jh_frames.specs.Kept.{IsWholePages}
use Rattle.jh_frames.specs.Memory.{FramesView, AreOwnBytes}
use Rattle.jh_pool.specs.Pages.{IsTakenPage, PoolView}
use Rattle.jh_walk.specs.Pages.{times}
use Rattle.jh_walk.specs.Walks.{levels}
use Rattle.jh_walk.proofs.Public.{on_times}
use Rattle.jh_shape.specs.Wanted.{Wants}
use Rattle.jh_edit.specs.declared.edit.Ahead.{Ahead}
use Rattle.jh_edit.specs.declared.finding.Node.{Node}
use Rattle.jh_edit.specs.declared.finding.Todo.{Todo}
use Rattle.jh_edit.specs.declared.finding.Todo.TheVariants.{Prune, Empty, Fill, Make}
use Rattle.jh_edit.specs.Trees.{staying}
use Rattle.jh_edit.specs.Plans.{EditView, IsAhead, IsDoneBelow, Plans}
use Rattle.jh_edit.specs.Tables.{AreTables, HasTaken, IsPoolOf, is_ahead, words}
use Rattle.jh_edit.specs.Moves.{Move, Link as LinkPage, IsAtTurn}
use Rattle.jh_edit.specs.Private.Slots.{IsTablePlace}
use Rattle.jh_edit.specs.Private.Finding.{IsBegun, IsNode, IsTodo}
use Rattle.jh_edit.specs.Private.Steps.{root_of, AnyCache, IsDeed, IsPageChanged, IsStep}
use Rattle.jh_edit.proofs.WritingLemmas.{IsPut}
use Rattle.jh_edit.proofs.MoveTableLemmas.{ahead_mine, mine_is, not_over}
use Rattle.jh_edit.proofs.StepLemmas.{itself_reached, pool_linked, put_in_page, reached_own}

-- ---- what an edit begins with

pub reach_taken : (edit : EditView) (word : ℕ → ℕ) (p : PoolView) → 0 < edit.left → HasTaken edit word p → (page : ℕ) → 0 < times word levels edit.table page → IsTakenPage p page
reach_taken edit word p some taken page reached =
    taken page (mine_is edit word page (not_over edit some) ∙ or_left (nat_lt 0 (times word levels edit.table page)) (is_ahead edit.ahead page) (lt-ltb 0 (times word levels edit.table page) reached))

pub first_place : (f : FramesView) (table : ℕ) → AreTables f table → IsWholePages f.own → IsTablePlace table
first_place f table tables whole =
    let here = itself_reached (words f) table in
    let own = tables.own table here in
    let low = own.above in
    let high = own.below in
    let end = whole.below in
    record { aligned = tables.aligned table here; below = omega arith }

pub first_node : (table : ℕ) → IsTablePlace table → IsNode (root_of table)
first_node table place = record { few = omega arith; place = place; begins = record { begins = omega arith; bound = omega arith } }

pub is_begun : (want : Wants) (word : ℕ → ℕ) (root : Node) (todo : Todo) → IsTodo want word root todo → IsBegun todo
is_begun want word root (Prune link start) is = tt
is_begun want word root (Empty node) is = tt
is_begun want word root (Fill node) is = tt
is_begun want word root (Make node slot) is = (is.is, is.within)

-- what isn't some page is none
pub none_of : (ahead : Option Ahead) → ((a : Ahead) → ahead ≡ Some a → ⊥) → ahead ≡ None
none_of None not = refl
none_of (Some a) not = absurd (not a refl)

-- ---- a removal

pub step_away : (tag : ℕ) (want : Wants) (edit : EditView) (f f' : FramesView) (p p' : PoolView) (c c' : AnyCache) → edit.removing ≡ true → edit.ahead ≡ None → ((move : Move) × IsDeed tag want edit.table true None None f f' p p' c c' move)
    → (move : Move) × IsStep tag want edit edit f f' p p' c c' move
step_away tag want edit f f' p p' c c' removing ahead (move, deed) = (
  move,
  record {
    left = refl;
    table = refl;
    removing = refl;
    at = subst (λ r. IsAtTurn r edit.ahead move) (sym removing) (subst (λ a. IsAtTurn true a move) (sym ahead) deed.at);
    ahead = ahead ∙ deed.next;
    cursor = λ aims. absurd (false≢true (sym aims ∙ removing));
    moved = deed.moved;
    memory = deed.memory;
    pool = deed.pool;
    cache = deed.cache;
  },
)

-- ---- towards the target

pub step_mended : (tag : ℕ) (want : Wants) (edit : EditView) (ahead : Option Ahead) (cursor : ℕ) (f f' : FramesView) (p p' : PoolView) (c c' : AnyCache) → edit.removing ≡ false → edit.ahead ≡ None → IsDoneBelow want (words f) cursor levels edit.table 0
    → ((move : Move) × IsDeed tag want edit.table false None ahead f f' p p' c c' move)
    → (move : Move) × IsStep tag want edit (record { table = edit.table; left = edit.left; removing = edit.removing; ahead = ahead; cursor = cursor }) f f' p p' c c' move
step_mended tag want edit ahead cursor f f' p p' c c' aims none done (move, deed) = (
  move,
  record {
    left = refl;
    table = refl;
    removing = refl;
    at = subst (λ r. IsAtTurn r edit.ahead move) (sym aims) (subst (λ a. IsAtTurn false a move) (sym none) deed.at);
    ahead = deed.next;
    cursor = λ is. done;
    moved = deed.moved;
    memory = deed.memory;
    pool = deed.pool;
    cache = deed.cache;
  },
)

-- ---- the page ahead

pub ahead_is : (want : Wants) (word : ℕ → ℕ) (edit : EditView) (ahead : Ahead) → Plans edit want word → edit.removing ≡ false → edit.ahead ≡ Some ahead → IsAhead want word edit.table ahead
ahead_is want word edit ahead plans aims is = subst (λ (a : Option Ahead). IfSome a (IsAhead want word edit.table)) is (plans.target aims).ahead

pub ahead_own : (want : Wants) (f : FramesView) (table : ℕ) (ahead : Ahead) → AreTables f table → IsAhead want (words f) table ahead → AreOwnBytes f.own ahead.at 8
ahead_own want f table ahead tables is =
    let slot = is.slot in
    let few = is.empty.within in
    let own = reached_own f table tables (staying want) (Some 0) (suc (suc slot.below)) (Some slot.start) slot.parent is.empty.stays in
    let low = own.above in
    let high = own.below in
    let at = is.at in
    record { above = omega arith; below = omega arith }

pub ahead_below : (edit : EditView) (word : ℕ → ℕ) (ahead : Ahead) (f : FramesView) (p : PoolView) → 0 < edit.left → edit.ahead ≡ Some ahead → HasTaken edit word p → IsPoolOf p f → ahead.page < ADDRESS_END
ahead_below edit word ahead f p some is taken pool =
    let page = (taken ahead.page (ahead_mine edit word ahead some is)).in_range in
    let low = page.above in
    let high = page.below in
    let end = pool.end in
    omega arith

pub step_linked : (tag : ℕ) (want : Wants) (edit : EditView) (ahead : Ahead) (f f' : FramesView) (p : PoolView) (c : AnyCache) → AreTables f edit.table → Plans edit want (words f) → edit.removing ≡ false → edit.ahead ≡ Some ahead → ahead.page < ADDRESS_END
    → ((page level : ℕ) → level < LAST_LEVEL → page % 4096 ≡ 0 → page < ADDRESS_END → read_of (page + 3) level ≡ Table page) → IsPut ahead.at (ahead.page + 3) f f'
    → (move : Move) × IsStep tag want edit (record { table = edit.table; left = edit.left; removing = edit.removing; ahead = None; cursor = edit.cursor }) f f' p p c c move
step_linked tag want edit ahead f f' p c tables plans aims some below reads put =
    let is = ahead_is want (words f) edit ahead plans aims some in
    let slot = is.slot in
    let few = is.empty.within in
    let at : ahead.at ≡ slot.parent + 8 * slot.slot = is.at in
    let aligned : slot.parent % 4096 ≡ 0 = tables.aligned slot.parent (on_times (staying want) (words f) levels (Some 0) edit.table (suc (suc slot.below)) (Some slot.start) slot.parent is.empty.stays) in
    let home : slot.parent ≡ ahead.at - ahead.at % 4096 = omega arith in
    let changed : IsPageChanged slot.parent f f' = put_in_page slot.parent slot.slot (ahead.page + 3) f f' few (subst (λ a. IsPut a (ahead.page + 3) f f') at put) in (
      LinkPage ahead,
      record {
        left = refl;
        table = refl;
        removing = refl;
        at = (aims, some);
        ahead = refl;
        cursor = λ aim. (plans.target aims).cursor;
        moved = record {
          is = is;
          leads = ap (λ w. read_of w (LAST_LEVEL - suc slot.below)) put.here ∙ reads ahead.page (LAST_LEVEL - suc slot.below) (omega arith) is.aligned below;
          others = λ q out. ⊎_elim (λ (less : q + 8 ≤ ahead.at). put.words_below q less) (λ (more : ahead.at + 8 ≤ q). put.words_above q more) out;
        };
        memory = subst (λ page. IsPageChanged page f f') home changed;
        pool = pool_linked edit.table ahead p;
        cache = refl;
      },
    )
