-- Where a cell puts the windows of its device's BARs: the registers, and behind them the table of vectors.
use Rattle.std.specs.Prelude.{◌≡◌, ◌≤◌, ◌+◌, ◌%◌, ◌^◌, ℕ, false, List}
use Rattle.jh_num.specs.declared.address.TheConstants.{PAGE_SIZE}
use Rattle.jh_cellcfg.specs.declared.region.Region.{Region}
use Rattle.jh_talk.specs.declared.window.TheConstants.{WINDOW_SIZE}
use Rattle.jh_talk.specs.Addresses.{is_met}

-- the windows may begin there: at a page but the first, and end within 32 bits, and they meet nothing
pub record IsWindow (obstacles : List Region) (first : ℕ) : Type 0 where
  pub aligned : first % PAGE_SIZE ≡ 0
  pub above : PAGE_SIZE ≤ first
  pub below : first + WINDOW_SIZE ≤ 2 ^ 32
  pub clear : is_met obstacles first WINDOW_SIZE ≡ false

-- this is the least address where the windows may begin
pub record IsLeastWindow (obstacles : List Region) (first : ℕ) : Type 0 where
  pub is : IsWindow obstacles first
  pub least : (other : ℕ) → IsWindow obstacles other → first ≤ other

-- the windows may begin nowhere
abbrev pub HasNoWindow : List Region → Type 0
HasNoWindow obstacles = (first : ℕ) → IsWindow obstacles first → ⊥
