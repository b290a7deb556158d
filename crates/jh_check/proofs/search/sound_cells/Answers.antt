-- Each turn adds the answer about its cell, and earlier answers keep their places.
use Rattle.std.proofs.Common.{◌≡◌, ℕ, ◌+◌, ◌<◌, Bool, true, false, [], ◌∷◌, ◌++◌, length, get_or, inl, inr, sym, ap, subst, ◌∙◌, arith}
use Rattle.std.proofs.lemmas.Bool.{cases_eq}
use Rattle.std.proofs.lemmas.List.{get_or_default, get_or_append_left, get_or_push, length_push}
use Rattle.jh_cellcfg.specs.declared.config.CellConfig.{CellConfig}
use Rattle.jh_check.specs.Private.Cells.{cells_of}
use Rattle.jh_check.specs.Private.Sound.{AreSound}
use Rattle.jh_check.proofs.search.sound_cells.Goals as goal

pub loop-a-preserved : goal.loop-a-preserved
loop-a-preserved c =
    let h = c.args.setup.now.hypervisor.now in
    let all = cells_of c.args.setup.now in
    let a = c.loop-a.a in
    let sound = c.loop-a.sound.items in
    let x = c.are_sound.result in
    let within : a < length all = omega arith in
    let count = c.loop-a.invariant.count in
    let P : ℕ → CellConfig → Bool → Type 0 = λ k cell b. b ≡ true → AreSound h k cell.memory_regions in
    let here : P a c.cell.result.now x = λ t. subst (λ regions. AreSound h a regions) c.as_slice-regions.ensures.value (c.are_sound.ensures t) in
    let mine : P a (get_or all a c.cell.result.now) x = subst (λ cell. P a cell x) c.cell.ensures here in
    rw c.in_ok-push.ensures.items (
    record {
      count = length_push sound x ∙ ap (λ m. m + 1) count;
      known = λ k cell l. elim (cases_eq k a) [
        | inl e ↦
            let there = subst (λ y. P a y x) (get_or_default all a c.cell.result.now cell within) mine in
            let last = subst (λ y. P a (get_or all a cell) y) (sym (get_or_push sound x false a count)) there in
            subst (λ j. P j (get_or all j cell) (get_or (sound ++ x ∷ []) j false)) (sym e) last
        | inr m ↦ subst (λ y. P k (get_or all k cell) y) (sym (get_or_append_left sound (x ∷ []) false k (omega arith))) (c.loop-a.invariant.known k cell (omega arith))
      ];
    })
