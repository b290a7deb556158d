-- What contracts see of counted descriptor reads.
use Rattle.std.specs.Prelude.{ℕ, ◌-◌, List, length, drop}
use Rattle.jh_num.specs.declared.steps.Probe.{Probe}

-- how many reads there were, and the last of them, the newest last
pub record Counted : Type 0 where
  pub count : ℕ
  pub probes : List Probe

-- the last eight of the list, or all of a shorter one
abbrev pub last_eight : List Probe → List Probe
last_eight probes = drop (length probes - 8) probes
