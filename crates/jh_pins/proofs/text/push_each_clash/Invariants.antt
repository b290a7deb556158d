-- What is written so far are the lines of the clashes so far.
use Rattle.std.proofs.Common.{◌≡◌, ◌++◌, take}
use Rattle.std.specs.List.{flat_map}
use Rattle.jh_pins.specs.Texts.{clash_line}
use Rattle.jh_pins.proofs.text.push_each_clash.Given as goal

abbrev pub invariant-loop-clash : goal.invariant-loop-clash
invariant-loop-clash l = l.text.items ≡ l.fn.text.items ++ flat_map clash_line (take l.clash-index l.clashes)
