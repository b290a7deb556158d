-- What a turn of one cell's tables asks, and what it leaves, before the page of a cell that is gone is given back.
use Rattle.std.specs.Prelude.{◌≡◌, ℕ, ◌+◌, ◌<◌, ◌≤◌, ◌↔◌, ◌⊎◌, ◌||◌, true, false, length, List, map, Some}
use Rattle.jh_desc.specs.declared.descriptor.Hit.{Hit}
use Rattle.jh_frames.specs.Memory.{FramesView, byte_at}
use Rattle.jh_pool.specs.Pages.{IsTakenPage, PoolView, is_free, used_of}
use Rattle.jh_cache.specs.declared.translation.Translation.{Translation}
use Rattle.jh_cache.specs.Translations.{flushed}
use Rattle.jh_walk.specs.Pages.{Grows}
use Rattle.jh_walk.specs.Walks.{levels, walk_of}
use Rattle.jh_shape.specs.Claims.{Claims}
use Rattle.jh_shape.specs.Shapes.{want_of}
use Rattle.jh_shape.specs.SoundClaims.{AreSoundClaims}
use Rattle.jh_shape.specs.Wanted.{Wants}
use Rattle.jh_edit.specs.Plans.{EditView, Plans, ahead_count}
use Rattle.jh_edit.specs.Tables.{AreTables, HasTaken, IsPoolOf, is_mine, is_over, words}
use Rattle.jh_edit.specs.Trees.{lack_of, walked}
use Rattle.jh_edit.specs.Turns.{Breaks, KeepsRight, LeavesAlone}

-- the edit has a turn left, to what the claims want, and all that it needs
pub record IsReady (claims : Claims) (edit : EditView) (f : FramesView) (p : PoolView) : Type 0 where
  pub sound : edit.removing ≡ false → AreSoundClaims claims
  pub tables : AreTables f edit.table
  pub plan : Plans edit (want_of claims) (words f)
  pub left : 0 < edit.left
  pub pool : IsPoolOf p f
  pub taken : HasTaken edit (words f) p
  pub enough : edit.removing ≡ false → lack_of (want_of claims) (words f) levels edit.table 0 + used_of p ≤ p.size + ahead_count edit.ahead

-- one turn of it
pub record IsEditTurn (want : Wants) (tag : ℕ) (edit edit' : EditView) (f f' : FramesView) (p p' : PoolView) (c c' : List (List Translation)) : Type 0 where
  pub left : edit'.left + 1 ≡ edit.left
  pub table : edit'.table ≡ edit.table
  pub aim : edit'.removing ≡ edit.removing
  pub plan : is_over edit' ≡ false → Plans edit' want (words f')
  pub tables : AreTables f' edit'.table
  pub one_page : (page : ℕ) × (((is_mine edit (words f) page || is_mine edit' (words f') page) ≡ true) × ((q : ℕ) → (q < page) ⊎ (page + 4096 ≤ q) → byte_at f' q ≡ byte_at f q))
  pub breaks : Breaks (words f) (words f') levels edit.table
  pub cache : (c' ≡ map (flushed tag) c) ⊎ ((c' ≡ c) × (Grows (words f) (words f') levels edit.table × ((page : ℕ) → IsTakenPage p page → IsTakenPage p' page)))
  pub leaves : (at : ℕ) (hit : Hit) → walk_of (words f') levels edit.table at ≡ Some hit → (walk_of (words f) levels edit.table at ≡ Some hit) ⊎ ((edit.removing ≡ false) × (walked want levels 0 at ≡ Some hit))
  pub right : edit.removing ≡ false → KeepsRight want (words f) (words f') levels edit.table 0
  pub left_alone : edit.removing ≡ false → LeavesAlone want (words f) (words f') levels edit.table 0
  pub pages : (page : ℕ) → IsTakenPage p' page ↔ ((IsTakenPage p page × (is_mine edit (words f) page ≡ false)) ⊎ (is_mine edit' (words f') page ≡ true))
  pub fresh : (page : ℕ) → is_mine edit' (words f') page ≡ true → is_mine edit (words f) page ≡ false → is_free p page ≡ true
  pub room : edit.removing ≡ false → lack_of want (words f') levels edit.table 0 + used_of p' + ahead_count edit.ahead ≤ lack_of want (words f) levels edit.table 0 + used_of p + ahead_count edit'.ahead
  pub given : edit.removing ≡ true → used_of p' + 1 ≡ used_of p
  pub pool : IsPoolOf p' f'
  pub guests : f'.guest ≡ f.guest
  pub base : f'.own.base ≡ f.own.base
  pub size : length f'.own.bytes ≡ length f.own.bytes
