-- One cell more.
use Rattle.std.proofs.Common.{◌≡◌, ℕ, List, get_or, subst, sym, ◌∙◌, inl, inr, arith}
use Rattle.std.proofs.lemmas.Bool.{cases_lt}
use Rattle.std.proofs.lemmas.Option.{get_or_from_slice_get, slice_get-get_or}
use Rattle.jh_cellcfg.specs.declared.config.CellConfig.{CellConfig}
use Rattle.jh_check.specs.Clean.{IsSoundBitmap, IsSoundCpuSet}
use Rattle.jh_history.proofs.plain.sets_name_cpus.Goals as goal

abbrev IsGood : List ℕ → Type 0
IsGood set = IsSoundBitmap set → IsSoundCpuSet set

pub loop-cell-preserved : goal.loop-cell-preserved
loop-cell-preserved c = λ k d lt.
    let cells = c.args.cells.now in
    let i = c.loop-cell.cell-index in
    let cell = c.cell-item.result in
    elim (cases_lt k i) [
      | inl before ↦ c.loop-cell.invariant k d before
      | inr from ↦ (
          let e : k ≡ i = omega arith in
          let is : cell ≡ get_or cells i d = c.cell-item.is ∙ get_or_from_slice_get cells i (get_or cells i d) cell (slice_get-get_or cells i d c.loop-cell-test.true) in
          let good : IsGood cell.cpu_set = subst IsGood c.as_slice.ensures.value c.sound_bitmaps_name_few_cpus.ensures in
          subst (λ (n : ℕ). IsGood (get_or cells n d).cpu_set) (sym e) (subst (λ (x : CellConfig). IsGood x.cpu_set) is good))
    ]

pub returns : goal.returns
returns c = λ k d lt. c.loop-cell.invariant k d (omega arith)
