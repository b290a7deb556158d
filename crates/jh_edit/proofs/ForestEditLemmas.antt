-- The edit of a call stays while the words of the tables do that it is about, and those of the page that is ahead.
use Rattle.std.proofs.Common.{◌≡◌, ℕ, ◌+◌, ◌≤◌, ap, ◌∙◌, sym, subst, arith, refl, true, Option, Some, None, IfSome, length, if◌then◌else◌}
use Rattle.jh_num.proofs.Public.{same_number}
use Rattle.jh_frames.specs.Memory.{FramesView}
use Rattle.jh_walk.specs.Counts.{unmoved}
use Rattle.jh_walk.specs.Pages.{HaveSameTables, pages_reached}
use Rattle.jh_walk.specs.Walks.{levels}
use Rattle.jh_walk.proofs.Public.{counts_same}
use Rattle.jh_shape.specs.Claims.{Claims}
use Rattle.jh_shape.specs.Shapes.{want_of}
use Rattle.jh_shape.specs.Wanted.{Wants}
use Rattle.jh_edit.specs.declared.edit.Ahead.{Ahead}
use Rattle.jh_edit.specs.declared.stage.CellPart.{CellPart}
use Rattle.jh_edit.specs.declared.stage.CellPart.TheVariants.{Unchanged, Fresh, Build, Remove}
use Rattle.jh_edit.specs.declared.stage.Editing.{Editing}
use Rattle.jh_edit.specs.declared.stage.Seat.{Seat}
use Rattle.jh_edit.specs.declared.stage.Stage2.{Stage2}
use Rattle.jh_edit.specs.Forest.{GrantsNothingOf, IsCellPart, IsEdit, IsEditOf, IsFitToCome, IsForest, WritesNoTable, ahead_times, ahead_uses, part_ahead_times, uses, with_comm, with_frames}
use Rattle.jh_edit.specs.Plans.{EditView, HasSameWords, Plans}
use Rattle.jh_edit.specs.Tables.{is_ahead, words}
use Rattle.jh_edit.specs.Trees.{lack_at, lack_of, staying}
use Rattle.jh_edit.proofs.ForestLemmas.{same_own, used_page, written_apart, written_tables}
use Rattle.jh_edit.proofs.MoveLackLemmas.{lack_told}
use Rattle.jh_edit.proofs.PlanLemmas.{plan_stays}

-- a write outside tables
pub record Written (claims : Seat → Claims) (stage : Stage2) (after : FramesView) : Type 0 where
  pub forest : IsForest claims stage
  pub writes : WritesNoTable stage after

-- the page ahead of the edit is one of those that the call has ahead
abbrev pub IsCounted : Stage2 → EditView → Type 0
IsCounted stage edit = (page : ℕ) → ahead_times page edit ≤ ahead_uses stage.editing page

pub ahead_words : (P : ℕ → Type 0) (ahead : Option Ahead) → ((page : ℕ) → is_ahead ahead page ≡ true → P page) → IfSome ahead (λ (a : Ahead). P a.page)
ahead_words P None h = tt
ahead_words P (Some ahead) h = h ahead.page (same_number ahead.page)

edit_tables : (claims : Seat → Claims) (stage : Stage2) (after : FramesView) → Written claims stage after → (edit : EditView) (seat : Seat) → IsEditOf stage edit seat → HaveSameTables (words stage.frames) (words after) levels edit.table
edit_tables claims stage after w edit seat of =
    let P : ℕ → Type 0 = λ table. HaveSameTables (words stage.frames) (words after) levels table in
    subst P (sym of.table) (written_tables claims stage after w.forest w.writes seat of.tree of.sits of.has)

edit_ahead : (claims : Seat → Claims) (stage : Stage2) (after : FramesView) → Written claims stage after → (edit : EditView) → IsCounted stage edit → IfSome edit.ahead (λ (a : Ahead). HasSameWords (words stage.frames) (words after) a.page)
edit_ahead claims stage after w edit counted =
    ahead_words (HasSameWords (words stage.frames) (words after)) edit.ahead
    (λ page is slot few.
    let one : ahead_times page edit ≡ 1 = ap (λ b. if b then 1 else 0) is in
    let some : ahead_times page edit ≤ ahead_uses stage.editing page = counted page in
    let once : uses stage page ≤ 1 = w.forest.once page in
    written_apart stage after w.writes page (used_page claims stage w.forest page (omega arith)) (omega arith) slot few)

plan_written : (claims : Seat → Claims) (stage : Stage2) (after : FramesView) → Written claims stage after → (want : Wants) (edit : EditView) (seat : Seat) → IsEditOf stage edit seat → IsCounted stage edit → Plans edit want (words stage.frames) → Plans edit want (words after)
plan_written claims stage after w want edit seat of counted plan =
    plan_stays counts_same edit want (words stage.frames) (words after) (edit_tables claims stage after w edit seat of) (edit_ahead claims stage after w edit counted) plan

lack_written : (claims : Seat → Claims) (stage : Stage2) (after : FramesView) → Written claims stage after → (want : Wants) (edit : EditView) (seat : Seat) → IsEditOf stage edit seat
    → lack_of want (words after) levels edit.table 0 ≡ lack_of want (words stage.frames) levels edit.table 0
lack_written claims stage after w want edit seat of =
    let same = edit_tables claims stage after w edit seat of in
    counts_same (staying want) (lack_at want) (words stage.frames) (words after) levels (Some 0) edit.table same (λ state m page some. lack_told want (words stage.frames) (words after) m page state (λ slot few. same.words page slot some few))

pages_written : (claims : Seat → Claims) (stage : Stage2) (after : FramesView) → Written claims stage after → (edit : EditView) (seat : Seat) → IsEditOf stage edit seat
    → pages_reached (words after) levels edit.table ≡ pages_reached (words stage.frames) levels edit.table
pages_written claims stage after w edit seat of =
    counts_same unmoved (λ state word n page. 1) (words stage.frames) (words after) levels None edit.table (edit_tables claims stage after w edit seat of) (λ state m page some. refl)

still_of : (stage : Stage2) (after : FramesView) (edit : EditView) (seat : Seat) → IsEditOf stage edit seat → IsEditOf (with_frames stage after) edit seat
still_of stage after edit seat of = record { tree = of.tree; sits = of.sits; has = of.has; table = of.table }

kept_root : (rootward : Claims) (stage : Stage2) (after : FramesView) → WritesNoTable stage after → GrantsNothingOf rootward stage.frames.own.base (length stage.frames.own.bytes) → GrantsNothingOf rootward after.own.base (length after.own.bytes)
kept_root rootward stage after writes kept =
    let P : ℕ → Type 0 = λ base. GrantsNothingOf rootward base (length after.own.bytes) in
    let Q : ℕ → Type 0 = λ size. GrantsNothingOf rootward stage.frames.own.base size in
    subst P (sym writes.base) (subst Q (sym writes.size) kept)

fit_written : (coming : Claims) (stage : Stage2) (after : FramesView) → WritesNoTable stage after → IsFitToCome coming stage → IsFitToCome coming (with_frames stage after)
fit_written coming stage after writes fit = record {
  sound = fit.sound;
  kept = λ comm aligned low at place rights device below granted own. fit.kept comm aligned low at place rights device below granted (sym (same_own stage after writes place) ∙ own);
}

cell_written : (claims : Seat → Claims) (coming : Claims) (stage : Stage2) (after : FramesView) → Written claims stage after → (part : CellPart) (lack : ℕ) → ((page : ℕ) → part_ahead_times page part ≤ ahead_uses stage.editing page)
    → IsCellPart coming stage part lack → IsCellPart coming (with_frames stage after) part lack
cell_written claims coming stage after w Unchanged lack counted is = is
cell_written claims coming stage after w (Fresh id bound) lack counted is = record { allowed = is.allowed; new = is.new; room = is.room; fit = fit_written coming stage after w.writes is.fit; lacks = is.lacks }
cell_written claims coming stage after w (Build id edit) lack counted is = record {
  seat = is.seat;
  comm = is.comm;
  named = is.named;
  page = is.page;
  of = still_of stage after edit is.seat is.of;
  aim = is.aim;
  plan = plan_written claims stage after w (want_of (with_comm coming is.comm)) edit is.seat is.of counted is.plan;
  fit = fit_written coming stage after w.writes is.fit;
  lacks = is.lacks ∙ sym (lack_written claims stage after w (want_of (with_comm coming is.comm)) edit is.seat is.of);
}
cell_written claims coming stage after w (Remove id edit) lack counted is = record {
  seat = is.seat;
  named = is.named;
  sits = is.sits;
  cell = is.cell;
  aim = is.aim;
  ahead = is.ahead;
  on = λ some. still_of stage after edit is.seat (is.on some);
  turns = λ some. is.turns some ∙ sym (pages_written claims stage after w edit is.seat (is.on some));
  over = is.over;
  lacks = is.lacks;
}

pub written_edit : (claims : Seat → Claims) (rootward coming : Claims) (stage : Stage2) (editing : Editing) (after : FramesView) → stage.editing ≡ Some editing → IsForest claims stage → IsEdit rootward coming stage editing
    → WritesNoTable stage after → IsEdit rootward coming (with_frames stage after) editing
written_edit claims rootward coming stage editing after on forest is writes =
    let w : Written claims stage after = record { forest = forest; writes = writes } in
    let both = λ (page : ℕ). ap (λ e. ahead_uses e page) on in
    let rooted : IsCounted stage editing.root = λ page. let e : ahead_uses stage.editing page ≡ ahead_times page editing.root + part_ahead_times page editing.cell = both page in omega arith in
    let celled : (page : ℕ) → part_ahead_times page editing.cell ≤ ahead_uses stage.editing page = λ page. let e : ahead_uses stage.editing page ≡ ahead_times page editing.root + part_ahead_times page editing.cell = both page in omega arith in
    let lack : lack_of (want_of rootward) (words after) levels editing.root.table 0 ≡ lack_of (want_of rootward) (words stage.frames) levels editing.root.table 0 =
    lack_written claims stage after w (want_of rootward) editing.root is.root.seat is.root.of in
    let enough = is.enough in
    record {
      lack = is.lack;
      root = record {
        seat = is.root.seat;
        root = is.root.root;
        of = still_of stage after editing.root is.root.seat is.root.of;
        aim = is.root.aim;
        plan = plan_written claims stage after w (want_of rootward) editing.root is.root.seat is.root.of rooted is.root.plan;
        sound = is.root.sound;
        kept = kept_root rootward stage after writes is.root.kept;
      };
      cell = cell_written claims coming stage after w editing.cell is.lack celled is.cell;
      enough = omega arith;
    }
