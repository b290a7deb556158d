-- The one test stands for each rule about one region, and every region passes it.
use Rattle.std.proofs.Common.{◌≡◌, ℕ, false, take, get_or, inl, inr, sym, subst, arith}
use Rattle.std.proofs.lemmas.Bool.{cases_eq}
use Rattle.std.proofs.lemmas.List.{get_or_default}
use Rattle.jh_cellcfg.specs.declared.region.Region.{Region}
use Rattle.jh_check.specs.Private.Sound.{breaks_any}
use Rattle.jh_check.proofs.SoundLemmas.{sound_all}
use Rattle.jh_check.proofs.regions.are_sound.Goals as goal

pub loop-r-preserved : goal.loop-r-preserved
loop-r-preserved c =
    let regions = c.args.regions.now in
    let none : Region = record { phys_start = 0; virt_start = 0; size = 0; flags = 0 } in
    let r = c.loop-r.r in
    let P : ℕ → Region → Type 0 = λ k x. breaks_any c.args.hypervisor.now c.args.cell (take k regions) x ≡ false in
    let b = c.breaks_any.ensures in
    let f = c.if-breaks_any.false in
    let here : P r (get_or regions r none) = cc in
    λ i d h. elim (cases_eq i r) [
      | inl e ↦ subst (λ k. P k (get_or regions k d)) (sym e) (subst (P r) (get_or_default regions r none d c.loop-r-test.true) here)
      | inr m ↦ c.loop-r.invariant i d (omega arith)
    ]

pub returns : goal.returns
returns c = λ e. sound_all c.args.hypervisor.now c.args.cell c.args.regions.now (λ i d h. c.loop-r.invariant i d (let k = c.loop-r-test.false in omega arith))
