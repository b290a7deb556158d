-- Counts of faults. A count never falls, and it stands still at 2^64 - 1.
use Rattle.std.specs.Prelude.{ℕ, ◌-◌, ◌^◌, ◌<◌, ◌≤◌, ◌⊎◌}

-- the count rose: it is greater than before, or stands at its end
abbrev pub Rose : ℕ → ℕ → Type 0
Rose old new = (old < new) ⊎ (2 ^ 64 - 1 ≤ new)
