-- The runs of the chips that are done with.
use Rattle.std.proofs.Common.{◌-◌, ◌^◌, ◌+◌}
use Rattle.std.specs.Option.{option_map_or}
use Rattle.jh_pins.specs.Runs.{AreRuns}
use Rattle.jh_pins.specs.Private.Given.{is_given}
use Rattle.jh_pins.proofs.RunLemmas.{is_upto}
use Rattle.jh_pins.proofs.runs.runs_of.Given as goal

abbrev pub invariant-loop-chip : goal.invariant-loop-chip
invariant-loop-chip l = AreRuns (is_upto l.last (is_given l.irqchips)) l.runs.items

abbrev pub decreases-loop-chip : goal.decreases-loop-chip
decreases-loop-chip l = option_map_or (λ last. 2 ^ 64 - last) l.last (2 ^ 64 + 1)
