-- An edit whose pages alone are taken.
use Rattle.std.specs.Prelude.{◌≡◌, ℕ, ◌+◌, ◌≤◌, ◌↔◌, true, false, List, []}
use Rattle.jh_frames.specs.Memory.{FramesView, byte_at}
use Rattle.jh_pool.specs.Pages.{IsPageOf, IsTakenPage, PoolView, is_free, used_of}
use Rattle.jh_cache.specs.declared.translation.Translation.{Translation}
use Rattle.jh_cache.specs.Translations.{translations_of}
use Rattle.jh_walk.specs.Walks.{levels}
use Rattle.jh_shape.specs.Wanted.{Wants}
use Rattle.jh_edit.specs.Plans.{EditView, Plans, ahead_count}
use Rattle.jh_edit.specs.Tables.{AreTables, IsPoolOf, is_mine, words}
use Rattle.jh_edit.specs.Trees.{lack_of}

-- at any turn of an edit to a target: just its pages are taken of the pool, which has enough for it, and no translation is
-- cached
pub record IsAlone (want : Wants) (edit : EditView) (f : FramesView) (p : PoolView) (c : List (List Translation)) : Type 0 where
  pub aim : edit.removing ≡ false
  pub plan : Plans edit want (words f)
  pub tables : AreTables f edit.table
  pub pool : IsPoolOf p f
  pub taken : (page : ℕ) → IsTakenPage p page ↔ (is_mine edit (words f) page ≡ true)
  pub enough : lack_of want (words f) levels edit.table 0 + used_of p ≤ p.size + ahead_count edit.ahead
  pub empty : (cpu : ℕ) → translations_of c cpu ≡ []

-- memory before any table is made: all bytes are 0, and no page of the pool is taken
pub record IsBlank (f : FramesView) (p : PoolView) (c : List (List Translation)) : Type 0 where
  pub zero : (q : ℕ) → byte_at f q ≡ 0
  pub pool : IsPoolOf p f
  pub free : (page : ℕ) → IsPageOf p page → is_free p page ≡ true
  pub used : used_of p ≡ 0
  pub empty : (cpu : ℕ) → translations_of c cpu ≡ []
