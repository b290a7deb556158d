-- What a turn of an edit asks of tables and of the pool that their pages are taken from, and the pages of an edit.
use Rattle.std.specs.Prelude.{◌≡◌, ℕ, ◌+◌, ◌-◌, ◌*◌, ◌%◌, ◌<◌, ◌≤◌, Bool, true, false, ◌&&◌, ◌||◌, nat_eq, nat_lt, length, Option, Some, None, if◌then◌else◌}
use Rattle.jh_num.specs.declared.address.TheConstants.{ADDRESS_END}
use Rattle.jh_num.specs.Levels.{slot_size}
use Rattle.jh_frames.specs.Memory.{FramesView, AreOwnBytes, byte_at, word_in}
use Rattle.jh_pool.specs.Pages.{IsTakenPage, PoolView}
use Rattle.jh_walk.specs.Pages.{times}
use Rattle.jh_walk.specs.Walks.{levels}
use Rattle.jh_shape.specs.declared.want.Want.TheVariants.{Table as WantTable}
use Rattle.jh_shape.specs.Wanted.{Wants}
use Rattle.jh_edit.specs.declared.edit.Ahead.{Ahead}
use Rattle.jh_edit.specs.Plans.{EditView}

-- ---- tables in memory

-- the words of memory
abbrev pub words : FramesView → ℕ → ℕ
words frames = word_in (byte_at frames)

-- from the first table on each page that is reached is reached once, begins at a page, and is the hypervisor's
pub record AreTables (frames : FramesView) (table : ℕ) : Type 0 where
  pub once : (page : ℕ) → times (words frames) levels table page ≤ 1
  pub aligned : (page : ℕ) → 0 < times (words frames) levels table page → page % 4096 ≡ 0
  pub own : (page : ℕ) → 0 < times (words frames) levels table page → AreOwnBytes frames.own page 4096

-- the pool's pages are just those of the hypervisor's memory, which begins at a page and lies below the end of addresses
pub record IsPoolOf (pool : PoolView) (frames : FramesView) : Type 0 where
  pub aligned : pool.base % 4096 ≡ 0
  pub base : pool.base ≡ frames.own.base
  pub size : 4096 * pool.size ≡ length frames.own.bytes
  pub end : pool.base + 4096 * pool.size ≤ ADDRESS_END

-- ---- pages of an edit

-- all tables are to go, and have gone
abbrev pub is_over : EditView → Bool
is_over edit = edit.removing && nat_eq edit.left 0

-- the page is the one that is taken ahead
abbrev pub is_ahead : Option Ahead → ℕ → Bool
is_ahead None page = false
is_ahead (Some ahead) page = nat_eq ahead.page page

-- the page is one of the edit's: a table that is reached, or the page ahead; none is once all tables have gone
abbrev pub is_mine : EditView → (ℕ → ℕ) → ℕ → Bool
is_mine edit word page =
    if is_over edit then false else nat_lt 0 (times word levels edit.table page) || is_ahead edit.ahead page

-- each page of the edit's is a page of the pool that is taken
abbrev pub HasTaken : EditView → (ℕ → ℕ) → PoolView → Type 0
HasTaken edit word pool = (page : ℕ) → is_mine edit word page ≡ true → IsTakenPage pool page

-- ---- wants

-- where a table is wanted, one is wanted in the slot of the level above that it lies in
abbrev pub WantsTablesBelowTables : Wants → Type 0
WantsTablesBelowTables want =
    (level start : ℕ) → level < 3 → start % slot_size (level + 1) ≡ 0 → want (level + 1) start ≡ WantTable → want level (start - start % slot_size level) ≡ WantTable
