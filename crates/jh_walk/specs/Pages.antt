-- The pages that valid table descriptors reach from a first table, and changes within one of them.
use Rattle.std.specs.Prelude.{◌≡◌, ◌≢◌, ℕ, ◌+◌, ◌-◌, ◌*◌, ◌%◌, ◌<◌, ◌≤◌, nat_eq, zero, suc, if◌then◌else◌, Option, None}
use Rattle.jh_desc.specs.declared.descriptor.Descriptor.{Descriptor}
use Rattle.jh_desc.specs.declared.descriptor.Descriptor.TheVariants.{Invalid, Table, Leaf}
use Rattle.jh_desc.specs.Descriptors.{read_of}
use Rattle.jh_num.specs.declared.level.TheConstants.{LAST_LEVEL}
use Rattle.jh_walk.specs.Counts.{Step, StateWeight, count_from, IsReachedAs, unmoved}

-- what a page weighs where no state counts, by the words, the levels below it and its address
abbrev pub Weight : Type 0
Weight = (ℕ → ℕ) → ℕ → ℕ → ℕ

-- the sum of the weights of the table, with so many levels left, and of all tables that it reaches, each as often as
-- it is reached
abbrev pub count : Weight → (ℕ → ℕ) → ℕ → ℕ → ℕ
count weight word n table = count_from unmoved (λ state. weight) word n None table

-- the weight of a page: 1 where it is this one, else 0
abbrev pub page_weight : ℕ → Weight
page_weight page word n other = if nat_eq other page then 1 else 0

-- how often the page is reached from a table with so many levels left
abbrev pub times : (ℕ → ℕ) → ℕ → ℕ → ℕ → ℕ
times word n table page = count (page_weight page) word n table

-- how many pages are reached from a table with so many levels left, each as often as it is reached
abbrev pub pages_reached : (ℕ → ℕ) → ℕ → ℕ → ℕ
pages_reached word n table = count (λ word n page. 1) word n table

-- from a table with so many levels left the page is reached, with `left` levels left at it
abbrev pub IsReached : (ℕ → ℕ) → ℕ → ℕ → ℕ → ℕ → Type 0
IsReached word n table left page = IsReachedAs unmoved word n None table left None page

-- the 512 words of each page that is reached are the same
pub record HaveSameTables (word word' : ℕ → ℕ) (n table : ℕ) : Type 0 where
  pub words : (page slot : ℕ) → 0 < times word n table page → slot < 512 → word' (page + 8 * slot) ≡ word (page + 8 * slot)

-- each page that is reached weighs the same, in every state and with any number of levels below it
abbrev pub HaveSameWeights : StateWeight → (ℕ → ℕ) → (ℕ → ℕ) → ℕ → ℕ → Type 0
HaveSameWeights weight word word' n table =
    (state : Option ℕ) (m page : ℕ) → 0 < times word n table page → weight state word' m page ≡ weight state word m page

-- each page that is reached is aligned
abbrev pub AreAligned : (ℕ → ℕ) → ℕ → ℕ → Type 0
AreAligned word n table = (page : ℕ) → 0 < times word n table page → page % 4096 ≡ 0

-- aligned pages other than `inner` have the same words and weights
pub record AreAlikeBut (inner : ℕ) (weight : StateWeight) (word word' : ℕ → ℕ) : Type 0 where
  pub words : (page slot : ℕ) → page % 4096 ≡ 0 → page ≢ inner → slot < 512 → word' (page + 8 * slot) ≡ word (page + 8 * slot)
  pub weights : (state : Option ℕ) (n page : ℕ) → page % 4096 ≡ 0 → page ≢ inner → weight state word' n page ≡ weight state word n page

-- what is asked of a slot: where its descriptor is valid its word stays, and below a table the same goes on
abbrev pub IsKept : (ℕ → Type 0) → Descriptor → Type 0 → Type 0
IsKept below Invalid same = Unit {0}
IsKept below (Leaf out rights device) same = same
IsKept below (Table next) same = same × below next

-- each word that reads valid stays, in each page that is reached from a table with so many levels left
abbrev pub Grows : (ℕ → ℕ) → (ℕ → ℕ) → ℕ → ℕ → Type 0
Grows word word' zero table = Unit {0}
Grows word word' (suc n) table =
    (slot : ℕ) → slot < 512 → IsKept (Grows word word' n) (read_of (word (table + 8 * slot)) (LAST_LEVEL - n)) (word' (table + 8 * slot) ≡ word (table + 8 * slot))

-- a change of words within one page alone, among aligned pages that are reached from a table with so many levels left,
-- and what is counted of them from the table in a state
pub record TableChange : Type 0 where
  pub page : ℕ
  pub step : Step
  pub weight : StateWeight
  pub before : ℕ → ℕ
  pub after : ℕ → ℕ
  pub left : ℕ
  pub state : Option ℕ
  pub table : ℕ
  pub alike : AreAlikeBut page weight before after
  pub aligned : AreAligned before left table

-- how often the page was reached from the table
abbrev pub times_before : TableChange → ℕ
times_before c = times c.before c.left c.table c.page

-- what was counted from a table with so many levels left and in a state
abbrev pub counted_before : TableChange → ℕ → Option ℕ → ℕ → ℕ
counted_before c left state table = count_from c.step c.weight c.before left state table

-- what is counted after the change
abbrev pub counted_after : TableChange → ℕ → Option ℕ → ℕ → ℕ
counted_after c left state table = count_from c.step c.weight c.after left state table

-- the page was reached once, with `left` levels left at it and in the state `there`
pub record WasReachedOnce (c : TableChange) (left : ℕ) (there : Option ℕ) : Type 0 where
  pub once : times_before c ≤ 1
  pub reached : IsReachedAs c.step c.before c.left c.state c.table left there c.page
