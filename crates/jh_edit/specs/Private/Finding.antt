-- What a search for the next turn of an edit finds.
use Rattle.std.specs.Prelude.{◌≡◌, ℕ, ◌+◌, ◌-◌, ◌*◌, ◌<◌, ◌≤◌, ◌⊎◌, true, false, Option, Some, None, List, slice_get, suc}
use Rattle.jh_num.specs.declared.level.TheConstants.{LAST_LEVEL}
use Rattle.jh_num.specs.Levels.{slot_size}
use Rattle.jh_desc.specs.declared.descriptor.Descriptor.{Descriptor}
use Rattle.jh_desc.specs.declared.descriptor.Descriptor.TheVariants.{Invalid, Table, Leaf}
use Rattle.jh_desc.specs.Descriptors.{read_of}
use Rattle.jh_walk.specs.Counts.{IsReachedAs, NamesTable, Step}
use Rattle.jh_walk.specs.Pages.{pages_reached}
use Rattle.jh_walk.specs.Walks.{levels}
use Rattle.jh_shape.specs.declared.want.Want.{Want}
use Rattle.jh_shape.specs.declared.want.Want.TheVariants.{Nothing, Table as WantTable, Leaf as WantLeaf}
use Rattle.jh_shape.specs.Wanted.{Wants, slot_start}
use Rattle.jh_edit.specs.declared.finding.Link.{Link}
use Rattle.jh_edit.specs.declared.finding.Node.{Node}
use Rattle.jh_edit.specs.declared.finding.Todo.{Todo}
use Rattle.jh_edit.specs.declared.finding.Todo.TheVariants.{Prune, Empty, Fill, Make}
use Rattle.jh_edit.specs.Trees.{IsAsWanted, Stands, staying}
use Rattle.jh_edit.specs.Turns.{has_lacking_leaf, has_wrong_leaf, HasNoTableTooMany}
use Rattle.jh_edit.specs.Plans.{IsDoneBelow, IsDoneSlot}
use Rattle.jh_edit.specs.Private.Slots.{IsTablePlace, IsTableStart}

-- ---- links

-- the link's word names its page, at which there is a level left
pub record IsLink (word : ℕ → ℕ) (link : Link) : Type 0 where
  pub names : NamesTable word (LAST_LEVEL - link.below) link.parent link.slot link.page
  pub some : 0 < link.below
  pub home : IsTablePlace link.parent
  pub place : IsTablePlace link.page

-- the link is one of the table, which has so many levels below it
pub record IsLinkOf (word : ℕ → ℕ) (n page : ℕ) (link : Link) : Type 0 where
  pub is : IsLink word link
  pub parent : link.parent ≡ page
  pub below : link.below ≡ n

-- no slot of the table names a table
abbrev pub HasNoLink : (ℕ → ℕ) → ℕ → ℕ → Type 0
HasNoLink word below page = (slot next : ℕ) → slot < 512 → read_of (word (page + 8 * slot)) (LAST_LEVEL - below) ≡ Table next → ⊥

-- from None on the state stays None
abbrev pub KeepsNone : Step → Type 0
KeepsNone step = (n slot : ℕ) → step None n slot ≡ None

-- from a link on, the link to a page that names no table: it is the same one, or one of a table that the first one's page
-- reaches
pub record IsDeepest (word : ℕ → ℕ) (link deep : Link) : Type 0 where
  pub is : IsLink word deep
  pub last : pages_reached word deep.below deep.page ≡ 1
  pub reached : (deep ≡ link) ⊎ ((step : Step) → KeepsNone step → IsReachedAs step word link.below None link.page (suc deep.below) None deep.parent)

-- from a table on, which has so many levels below it, the link is one of a table that is reached, and leads to a page that
-- names no table
pub record IsToTakeAway (word : ℕ → ℕ) (n page : ℕ) (link : Link) : Type 0 where
  pub is : IsLink word link
  pub last : pages_reached word link.below link.page ≡ 1
  pub reached : (step : Step) → KeepsNone step → IsReachedAs step word (suc n) None page (suc link.below) None link.parent

-- ---- the slots of a table that stays

-- what is wanted of a slot of the table
abbrev pub want_in : Wants → Node → ℕ → Want
want_in want node slot = want (LAST_LEVEL - node.below) (slot_start (LAST_LEVEL - node.below) node.start slot)

-- what stands in a slot of the table
abbrev pub read_in : (ℕ → ℕ) → Node → ℕ → Descriptor
read_in word node slot = read_of (word (node.page + 8 * slot)) (LAST_LEVEL - node.below)

-- where a slot of the table begins
abbrev pub begin_in : Node → ℕ → ℕ
begin_in node slot = slot_start (LAST_LEVEL - node.below) node.start slot

-- a table can stand there, and begin there
pub record IsNode (node : Node) : Type 0 where
  pub few : node.below < levels
  pub place : IsTablePlace node.page
  pub begins : IsTableStart (suc node.below) node.start

-- the list tells what is wanted of the slots of the table
pub record AreWantsOf (want : Wants) (node : Node) (wants : List Want) : Type 0 where
  pub are : (slot : ℕ) → slot < 512 → slice_get wants slot ≡ Some (want_in want node slot)

-- what is wanted stands, but a table may lack, and may have anything below it
abbrev pub IsTidySlot : Want → Descriptor → Type 0
IsTidySlot Nothing d = d ≡ Invalid
IsTidySlot (WantLeaf out rights device) d = d ≡ Leaf out rights device
IsTidySlot WantTable d = ((next : ℕ) × (d ≡ Table next)) ⊎ (d ≡ Invalid)

-- each slot of the table is so
abbrev pub IsTidy : Wants → (ℕ → ℕ) → Node → Type 0
IsTidy want word node = (slot : ℕ) → slot < 512 → IsTidySlot (want_in want node slot) (read_in word node slot)

-- what is wanted of the slot stands, and all below it
abbrev pub SlotStands : Wants → (ℕ → ℕ) → Node → ℕ → Type 0
SlotStands want word node slot = IsAsWanted (λ next. Stands want word node.below next (begin_in node slot)) (want_in want node slot) (read_in word node slot)

-- from the table on, what begins below the cursor is done
abbrev pub IsDone : Wants → (ℕ → ℕ) → ℕ → Node → Type 0
IsDone want word cursor node = IsDoneBelow want word cursor (suc node.below) node.page node.start

-- the table stands, and all below it
abbrev pub NodeStands : Wants → (ℕ → ℕ) → Node → Type 0
NodeStands want word node = Stands want word (suc node.below) node.page node.start

-- ---- what is to be done

-- where the search goes on after it
abbrev pub cursor_of : Todo → ℕ
cursor_of (Prune link start) = start
cursor_of (Empty node) = node.start
cursor_of (Fill node) = node.start
cursor_of (Make node slot) = begin_in node slot

-- the slot of a table that is to be made is one of a table that can begin there
abbrev pub IsBegun : Todo → Type 0
IsBegun (Prune link start) = Unit {0}
IsBegun (Empty node) = Unit {0}
IsBegun (Fill node) = Unit {0}
IsBegun (Make node slot) = IsNode node × (slot < 512)

-- the table is reached from the other, and stays
abbrev pub Reaches : Wants → (ℕ → ℕ) → Node → Node → Type 0
Reaches want word root node = IsReachedAs (staying want) word (suc root.below) (Some root.start) root.page (suc node.below) (Some node.start) node.page

-- the link is one of a table that is reached from the first one, isn't wanted, and leads to a page that names no table
pub record IsToPrune (want : Wants) (word : ℕ → ℕ) (root : Node) (link : Link) : Type 0 where
  pub there : Option ℕ
  pub reached : IsReachedAs (staying want) word (suc root.below) (Some root.start) root.page (suc link.below) there link.parent
  pub unwanted : staying want there link.below link.slot ≡ None
  pub is : IsLink word link
  pub last : pages_reached word link.below link.page ≡ 1

-- the table is reached from the first one, stays, and has leaves that aren't wanted so
pub record IsToEmpty (want : Wants) (word : ℕ → ℕ) (root node : Node) : Type 0 where
  pub reached : Reaches want word root node
  pub is : IsNode node
  pub wrong : has_wrong_leaf want word node.below node.page node.start ≡ true

-- the table is reached from the first one, stays, has no leaf and no table too many, and lacks leaves
pub record IsToFill (want : Wants) (word : ℕ → ℕ) (root node : Node) : Type 0 where
  pub reached : Reaches want word root node
  pub is : IsNode node
  pub right : has_wrong_leaf want word node.below node.page node.start ≡ false
  pub tables : HasNoTableTooMany want word node.below node.page node.start
  pub lacking : has_lacking_leaf want word node.below node.page node.start ≡ true

-- the slot is one of a table that is reached from the first one and stays, a table is wanted in it, and none stands
pub record IsToMake (want : Wants) (word : ℕ → ℕ) (root node : Node) (slot : ℕ) : Type 0 where
  pub reached : Reaches want word root node
  pub is : IsNode node
  pub within : slot < 512
  pub some : 0 < node.below
  pub wants : want_in want node slot ≡ WantTable
  pub invalid : read_in word node slot ≡ Invalid

-- what is to be done from the table on
abbrev pub IsTodo : Wants → (ℕ → ℕ) → Node → Todo → Type 0
IsTodo want word root (Prune link start) = IsToPrune want word root link
IsTodo want word root (Empty node) = IsToEmpty want word root node
IsTodo want word root (Fill node) = IsToFill want word root node
IsTodo want word root (Make node slot) = IsToMake want word root node slot

-- that is to be done to the table itself
pub record IsOwnTodo (want : Wants) (word : ℕ → ℕ) (node : Node) (todo : Todo) : Type 0 where
  pub is : IsTodo want word node todo
  pub begins : cursor_of todo ≡ node.start

-- that is to be done from the table on, at an address within it, and what begins below is done
pub record IsFound (want : Wants) (word : ℕ → ℕ) (node : Node) (todo : Todo) : Type 0 where
  pub is : IsTodo want word node todo
  pub first : node.start ≤ cursor_of todo
  pub last : cursor_of todo < node.start + 512 * slot_size (LAST_LEVEL - node.below)
  pub done : IsDone want word (cursor_of todo) node

-- that is to be done within a slot of the table, and what begins below is done there
pub record IsFoundIn (want : Wants) (word : ℕ → ℕ) (node : Node) (slot : ℕ) (todo : Todo) : Type 0 where
  pub is : IsTodo want word node todo
  pub first : begin_in node slot ≤ cursor_of todo
  pub last : cursor_of todo < begin_in node slot + slot_size (LAST_LEVEL - node.below)
  pub done : IsDoneSlot (begin_in node slot < cursor_of todo) (λ next. IsDoneBelow want word (cursor_of todo) node.below next (begin_in node slot)) (want_in want node slot) (read_in word node slot)
