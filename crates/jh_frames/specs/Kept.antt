-- What holds of memory at every moment.
use Rattle.std.specs.Prelude.{◌≡◌, ℕ, ◌+◌, ◌%◌, ◌≤◌, List, length, IfSome}
use Rattle.jh_num.specs.declared.address.TheConstants.{ADDRESS_END}
use Rattle.jh_num.specs.Pages.{page_at}
use Rattle.jh_frames.specs.Memory.{OwnView}

-- the hypervisor's memory is whole pages below the end of addresses
pub record IsWholePages (own : OwnView) : Type 0 where
  pub aligned : own.base % 4096 ≡ 0
  pub whole : length own.bytes % 4096 ≡ 0
  pub below : own.base + length own.bytes ≤ ADDRESS_END

-- each page of a guest that is held has 4,096 bytes
abbrev pub AreWholePages : List (ℕ × List ℕ) → Type 0
AreWholePages pages = (number : ℕ) → IfSome (page_at pages number) (λ page. length page ≡ 4096)
