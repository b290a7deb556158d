-- The pages of a range of memory, and which of them are taken.
use Rattle.std.specs.Prelude.{◌≡◌, ℕ, ◌+◌, ◌-◌, ◌*◌, ◌%◌, ◌<◌, ◌≤◌, ◌↔◌, Bool, false, ◌==◌, List, length, map}
use Rattle.std.specs.List.{list_any, range_with_len}

-- what contracts see of a pool: where its range begins, of how many pages of 4,096 bytes it is, and the
-- addresses of those that are free
pub record PoolView : Type 0 where
  pub base : ℕ
  pub size : ℕ
  pub free : List ℕ

-- the address begins a page of the range, which begins at the base, a multiple of 4,096, and is of so many pages
pub record IsPageIn (base size page : ℕ) : Type 0 where
  pub aligned : page % 4096 ≡ 0
  pub above : base ≤ page
  pub below : page < base + 4096 * size

-- the address begins a page of the pool's range
abbrev pub IsPageOf : PoolView → ℕ → Type 0
IsPageOf pool page = IsPageIn pool.base pool.size page

-- the page is one of the pool's free ones
abbrev pub is_free : PoolView → ℕ → Bool
is_free pool page = list_any (λ free. free == page) pool.free

-- the address is that of a page of the pool that is taken: it isn't free
pub record IsTakenPage (pool : PoolView) (page : ℕ) : Type 0 where
  pub in_range : IsPageOf pool page
  pub taken : is_free pool page ≡ false

-- the addresses of the pages of the pool, from the lowest on
abbrev pub page_addresses : PoolView → List ℕ
page_addresses pool = map (λ k. pool.base + 4096 * k) (range_with_len 0 pool.size)

-- how many pages of the pool are taken, where none is twice among the free ones
abbrev pub used_of : PoolView → ℕ
used_of pool = pool.size - length pool.free

-- of how often each page is had: each taken page of the pool is had once, and no other page of it is had
pub record AreHadOnce (pool : PoolView) (had : ℕ → ℕ) : Type 0 where
  pub once : (page : ℕ) → IsPageOf pool page → had page ≤ 1
  pub taken : (page : ℕ) → IsPageOf pool page → 0 < had page ↔ IsTakenPage pool page
