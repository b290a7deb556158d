-- A cell that is neither known nor busy names no CPU, and so breaks the rule of CPUs.
use Rattle.std.proofs.Common.{◌≡◌, ℕ, Bool, true, false, List, sym, ap, ◌∙◌}
use Rattle.jh_num.specs.Bits.{has_bit}
use Rattle.jh_cellcfg.specs.Cells.{is_cpu_set}
use Rattle.jh_check.specs.Clean.{IsSoundBitmap, IsSoundCpuSet}
use Rattle.jh_check.specs.Devices.{cpus_break}
use Rattle.jh_check.specs.Refusals.{names_beyond, nobody}
use Rattle.jh_check.proofs.IdleLemmas.{idle_breaks, refused_known, refused_busy, refused_idle}
use Rattle.jh_check.proofs.MaskLemmas.{no_bit}
use Rattle.jh_check.proofs.refusal.refusal_without_cpus.Goals as goal

pub returns-then-is_known-clause-value : goal.returns-then-is_known-clause-value
returns-then-is_known-clause-value c = λ pages pool.
    refused_known c.args.system.now c.args.live.now c.args.new.now pages pool (sym c.is_known.ensures ∙ c.if-is_known.true)

-- the empty mask
named : (set : List ℕ) (answer : Bool) → answer ≡ names_beyond (has_bit 0) set → names_beyond nobody set ≡ answer
named set answer is = sym (is ∙ ap (λ (may : ℕ → Bool). names_beyond may set) (λ i cpu. no_bit cpu i))

pub returns-then-names_beyond-clause-value : goal.returns-then-names_beyond-clause-value
returns-then-names_beyond-clause-value c = λ pages pool.
    refused_busy c.args.system.now c.args.live.now c.args.new.now pages pool
    (sym c.is_known.ensures ∙ c.if-is_known.false)
    (named c.args.new.now.cpu_set c.names_beyond.result c.names_beyond.ensures ∙ c.if-names_beyond.true)

pub returns-clause-value : goal.returns-clause-value
returns-clause-value c = λ pages pool.
    let set : List ℕ = c.args.new.now.cpu_set in
    let idle : names_beyond nobody set ≡ false = named set c.names_beyond.result c.names_beyond.ensures ∙ c.if-names_beyond.false in
    let gives : IsSoundBitmap set → IsSoundCpuSet set = rw (← c.as_slice.ensures.value) c.sound_bitmaps_name_few_cpus.ensures in
    let beyond : (cpu : ℕ) × (is_cpu_set set cpu ≡ true) × (nobody cpu ≡ false) → names_beyond nobody set ≡ true =
    rw (← c.as_slice-2.ensures.value) (c.beyond_is_a_cpu.ensures nobody).1 in
    let breaks : cpus_break set ≡ true = idle_breaks set gives beyond idle in
    refused_idle c.args.system.now c.args.live.now c.args.new.now pages pool (sym c.is_known.ensures ∙ c.if-is_known.false) idle breaks
