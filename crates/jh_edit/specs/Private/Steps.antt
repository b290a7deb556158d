-- What the code of one turn does, besides what it does to words.
use Rattle.std.specs.Prelude.{◌≡◌, ℕ, ◌+◌, ◌-◌, ◌<◌, ◌≤◌, ◌⊎◌, Bool, true, false, nat_eq, length, List, map, Option, if◌then◌else◌}
use Rattle.jh_frames.specs.Memory.{FramesView, byte_at}
use Rattle.jh_pool.specs.Pages.{PoolView, is_free, used_of, IsPageOf}
use Rattle.jh_cache.specs.declared.translation.Translation.{Translation}
use Rattle.jh_cache.specs.Translations.{flushed}
use Rattle.jh_walk.specs.Walks.{levels}
use Rattle.jh_shape.specs.Wanted.{Wants}
use Rattle.jh_edit.specs.declared.finding.Link.{Link}
use Rattle.jh_edit.specs.declared.finding.Node.{Node}
use Rattle.jh_edit.specs.declared.edit.Ahead.{Ahead}
use Rattle.jh_edit.specs.Plans.{EditView, EmptySlot, IsDoneBelow}
use Rattle.jh_edit.specs.Tables.{words}
use Rattle.jh_edit.specs.Moves.{Move, StayingTable, TableLink, IsAtTurn, IsMoved, IsPoolAfter, ahead_after, is_flushed, written_page}

-- the link, the table and the slot, as moves name them
abbrev pub link_of : Link → TableLink
link_of link = record { parent = link.parent; slot = link.slot; below = link.below; page = link.page }

abbrev pub staying_of : Node → StayingTable
staying_of node = record { page = node.page; start = node.start; below = node.below }

abbrev pub gap_of : Node → ℕ → EmptySlot
gap_of node slot = record { parent = node.page; start = node.start; slot = slot; below = node.below - 1 }

-- the first table, as the search begins there
abbrev pub root_of : ℕ → Node
root_of table = record { page = table; start = 0; below = 3 }

-- translations of all CPUs
abbrev pub AnyCache : Type 0
AnyCache = List (List Translation)

-- bytes outside the page are the same, and so are the ranges of memory and the pages of guests
pub record IsPageChanged (page : ℕ) (f f' : FramesView) : Type 0 where
  pub base : f'.own.base ≡ f.own.base
  pub size : length f'.own.bytes ≡ length f.own.bytes
  pub guest : f'.guest ≡ f.guest
  pub outside : (q : ℕ) → (q < page) ⊎ (page + 4096 ≤ q) → byte_at f' q ≡ byte_at f q

-- the page is given back, and no other
pub record IsGivenBack (page : ℕ) (p p' : PoolView) : Type 0 where
  pub base : p'.base ≡ p.base
  pub size : p'.size ≡ p.size
  pub free : (q : ℕ) → is_free p' q ≡ (if nat_eq page q then true else is_free p q)
  pub used : used_of p' + 1 ≡ used_of p

-- what one turn does to all that it is handed, but to the edit: the page that is ahead before, and after
pub record IsDeed (tag : ℕ) (want : Wants) (table : ℕ) (removing : Bool) (ahead ahead' : Option Ahead) (f f' : FramesView) (p p' : PoolView) (c c' : List (List Translation)) (move : Move) : Type 0 where
  pub at : IsAtTurn removing ahead move
  pub next : ahead' ≡ ahead_after move
  pub moved : IsMoved want (words f) (words f') table move
  pub memory : IsPageChanged (written_page table move) f f'
  pub pool : IsPoolAfter table move p p'
  pub cache : c' ≡ (if is_flushed move then map (flushed tag) c else c)

-- a page that was free is taken, and no other
pub record IsTakenFrom (page : ℕ) (p p' : PoolView) : Type 0 where
  pub base : p'.base ≡ p.base
  pub size : p'.size ≡ p.size
  pub from : IsPageOf p page
  pub was_free : is_free p page ≡ true
  pub free : (q : ℕ) → is_free p' q ≡ (if nat_eq page q then false else is_free p q)
  pub used : used_of p' ≡ used_of p + 1

-- what a step of an edit does to all that it is handed
pub record IsStep (tag : ℕ) (want : Wants) (edit edit' : EditView) (f f' : FramesView) (p p' : PoolView) (c c' : List (List Translation)) (move : Move) : Type 0 where
  pub left : edit'.left ≡ edit.left
  pub table : edit'.table ≡ edit.table
  pub removing : edit'.removing ≡ edit.removing
  pub at : IsAtTurn edit.removing edit.ahead move
  pub ahead : edit'.ahead ≡ ahead_after move
  pub cursor : edit.removing ≡ false → IsDoneBelow want (words f) edit'.cursor levels edit.table 0
  pub moved : IsMoved want (words f) (words f') edit.table move
  pub memory : IsPageChanged (written_page edit.table move) f f'
  pub pool : IsPoolAfter edit.table move p p'
  pub cache : c' ≡ (if is_flushed move then map (flushed tag) c else c)
