-- No region so far breaks a rule about one region.
use Rattle.std.proofs.Common.{◌≡◌, ℕ, ◌<◌, false, take, get_or}
use Rattle.jh_cellcfg.specs.declared.region.Region.{Region}
use Rattle.jh_check.specs.Private.Sound.{breaks_any}
use Rattle.jh_check.proofs.regions.are_sound.Given as goal

abbrev pub invariant-loop-r : goal.invariant-loop-r
invariant-loop-r l = (i : ℕ) (d : Region) → i < l.r → breaks_any l.hypervisor l.cell (take i l.regions) (get_or l.regions i d) ≡ false
