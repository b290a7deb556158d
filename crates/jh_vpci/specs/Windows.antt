-- How many bytes windows have, and where they may begin.
use Rattle.std.specs.Prelude.{ℕ, ◌*◌, ◌/◌, ◌≡◌, ◌==◌, if◌then◌else◌}

-- the bytes of the BAR's window: 4,096 of BAR 0, with the registers, and 512 of BAR 1, with the table of vectors
abbrev pub window_size : ℕ → ℕ
window_size bar = if bar == 0 then 4096 else 512

-- the address is a multiple of the size of the BAR's window
abbrev pub BeginsWindow : ℕ → ℕ → Type 0
BeginsWindow bar start = start / window_size bar * window_size bar ≡ start

-- each window begins at a multiple of its size
pub record AreWindows (bar0 bar1 : ℕ) : Type 0 where
  pub pages : BeginsWindow 0 bar0
  pub tables : BeginsWindow 1 bar1
