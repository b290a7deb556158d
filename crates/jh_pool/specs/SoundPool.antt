-- What holds of a pool at every moment.
use Rattle.std.specs.Prelude.{◌≡◌, ℕ, ◌+◌, ◌*◌, ◌%◌, ◌<◌, ◌≤◌, ◌==◌, List, [], ◌∷◌, length, if◌then◌else◌}
use Rattle.jh_num.specs.declared.address.TheConstants.{ADDRESS_END}
use Rattle.jh_pool.specs.Pages.{IsPageIn}

-- how often the address is in the list
abbrev pub often : ℕ → List ℕ → ℕ
often page [] = 0
often page (free ∷ rest) = (if free == page then 1 else 0) + often page rest

-- the range is whole pages below the end of addresses, free pages are pages of it, each once, and there is room for all
-- pages among them
pub record IsSoundPool (base size : ℕ) (free : List ℕ) (capacity : ℕ) : Type 0 where
  pub aligned : base % 4096 ≡ 0
  pub place : base + 4096 * size ≤ ADDRESS_END
  pub pages : (page : ℕ) → 0 < often page free → IsPageIn base size page
  pub once : (page : ℕ) → often page free ≤ 1
  pub few : length free ≤ size
  pub room : size ≤ capacity
