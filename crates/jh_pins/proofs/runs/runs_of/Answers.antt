-- No chip is done with, one more is, and all are.
use Rattle.std.proofs.Common.{◌≡◌, ℕ, false, ◌+◌, ◌-◌, ◌^◌, ◌<◌, List, Option, Some, None, refl, sym, ap, subst, ◌∙◌, arith}
use Rattle.std.specs.Option.{option_map_or}
use Rattle.std.proofs.lemmas.Bool.{leb-false}
use Rattle.jh_num.specs.declared.range.Range.{Range}
use Rattle.jh_num.specs.Bytes.{has_byte}
use Rattle.jh_pins.specs.declared.pin.PinRun.{PinRun}
use Rattle.jh_pins.specs.Runs.{AreRuns}
use Rattle.jh_pins.specs.Private.Given.{is_done, is_given}
use Rattle.jh_pins.proofs.RunLemmas.{AreNumbers, is_upto, no_runs, next_chip, all_done}
use Rattle.jh_pins.proofs.runs.runs_of.Goals as goal

pub loop-chip-init : goal.loop-chip-init
loop-chip-init c =
    let P : List PinRun → Type 0 = λ runs. AreRuns (is_upto None (is_given c.args.irqchips.now)) runs in
    subst P (sym c.new-runs.ensures.items) (no_runs (is_upto None (is_given c.args.irqchips.now)) (λ pin. refl))

pub loop-chip-preserved : goal.loop-chip-preserved
loop-chip-preserved c =
    let has = is_given c.args.irqchips.now in
    let rows = c.ranges-in-Some.result.now in
    let P : List PinRun → Type 0 = λ runs. AreRuns (is_upto (Some c.in-Some.chip) has) runs in
    let numbers : AreNumbers c.in-Some.chip has rows = λ n. ap (λ (l : List Range). has_byte l n) c.ranges-in-Some.ensures.ranges ∙ c.in_ok-pins.ensures.pins n in
    subst P (sym c.in_ok-push_runs.ensures)
    (next_chip c.args.irqchips.now c.loop-chip.last c.in-Some.chip rows c.loop-chip.runs.items c.in-Some.ensures c.ranges-in-Some.ensures.apart numbers c.loop-chip.invariant)

fewer : (last : Option ℕ) (chip : ℕ) → chip < 2 ^ 64 → is_done last chip ≡ false → 2 ^ 64 - chip < option_map_or (λ done. 2 ^ 64 - done) last (2 ^ 64 + 1)
fewer None chip fits undone = omega arith
fewer (Some done) chip fits undone = let past = leb-false chip done undone in omega arith

pub loop-chip-smaller : goal.loop-chip-smaller
loop-chip-smaller c =
    let fits : c.in-Some.chip < 2 ^ 64 = omega arith in
    fewer c.loop-chip.last c.in-Some.chip fits c.in-Some.ensures.0

pub returns : goal.returns
returns c = all_done c.args.irqchips.now c.loop-chip.last c.loop-chip.runs.items c.in_default.ensures c.loop-chip.invariant
