-- Each region puts what it makes of its slots over what those before it made.
use Rattle.std.proofs.Common.{◌+◌, ◌*◌, cond, List, get_or, take, Some, sym, ap, ◌∙◌}
use Rattle.std.proofs.lemmas.List.{take_all}
use Rattle.jh_num.specs.Levels.{slot_size}
use Rattle.jh_cellcfg.specs.declared.region.Region.{Region}
use Rattle.jh_shape.specs.Claims.{claims_of}
use Rattle.jh_shape.specs.Private.Marks.{want_by}
use Rattle.jh_shape.specs.Shapes.{is_met_by, want_of}
use Rattle.jh_shape.proofs.PutLemmas.{one_region_more, some_either, with_regions}
use Rattle.jh_shape.proofs.target.Target.fill_wants.Goals as goal

pub loop-region-preserved : goal.loop-region-preserved
loop-region-preserved c = (
  c.put_wants.auto.wants ∙ c.loop-region.invariant.0,
  λ n few.
      let claims = claims_of c.args.self.now in
      let regions = c.args.self.now.regions.now in
      let i = c.loop-region.region-index in
      let at = c.args.start + n * slot_size c.args.level in
      let none : Region = record { phys_start = 0; virt_start = 0; size = 0; flags = 0 } in
      let region = get_or regions i none in
      let met = is_met_by c.args.level at region in
      let own = want_by claims c.args.level at region in
      let before = want_of (with_regions claims (take i regions)) c.args.level at in
      c.put_wants.ensures n few
      ∙ ap (λ w. cond met (Some own) w) (c.loop-region.invariant.1 n few)
      ∙ some_either met own before
      ∙ ap Some (sym (one_region_more claims regions i c.args.level at none c.requires.sound.disjoint c.loop-region-test.true)),
)

pub returns : goal.returns
returns c = λ n few.
    c.loop-region.invariant.1 n few
    ∙ ap (λ (regions : List Region). Some (want_of (with_regions (claims_of c.args.self.now) regions) c.args.level (c.args.start + n * slot_size c.args.level))) (take_all c.loop-region.region-index c.args.self.now.regions.now c.loop-region-test.false)
