-- The one region that may take the access answers, or what is behind the regions.
use Rattle.std.proofs.Common.{List, ap, ◌∙◌}
use Rattle.std.specs.Option.{option_map_or}
use Rattle.jh_cellcfg.specs.declared.region.Region.{Region}
use Rattle.jh_mmio.specs.Dispatch.{by_subpage, hitting_behind_regions}
use Rattle.jh_mmio.proofs.HittingLemmas.{hitting_first, hitting_no_bytes}
use Rattle.jh_mmio.proofs.index.RegionIndex.dispatch.Goals as goal

pub returns-then-width-eq0 : goal.returns-then-width-eq0
returns-then-width-eq0 c = hitting_no_bytes _ _ _ _ _ _ _ c.if-width-eq0.true

pub returns : goal.returns
returns c =
    let same = c.as_slice.ensures.value ∙ c.self.view_is in
    c.by_first.ensures
    ∙ ap (λ (xs : List Region). option_map_or (by_subpage xs c.args.at c.args.width c.args.write) c.subpage_at-first.result (hitting_behind_regions c.args.ecam.start c.args.ecam.end c.args.windows.now c.args.at c.args.width)) same
    ∙ hitting_first c.args.self.now _ c.args.ecam c.args.windows.now c.args.at c.args.width c.args.write c.subpage_at-first.result c.subpage_at-first.ensures
