-- Each region lies within the list of marks, and in the end all regions have marked theirs.
use Rattle.std.proofs.Common.{◌+◌, ◌*◌, List, length, ap, ◌∙◌, arith}
use Rattle.std.specs.List.{list_any}
use Rattle.std.proofs.lemmas.List.{take_all}
use Rattle.jh_cellcfg.specs.declared.region.Region.{Region}
use Rattle.jh_shape.specs.Claims.{claims_of}
use Rattle.jh_shape.specs.Shapes.{is_leaf_by}
use Rattle.jh_num.specs.Levels.{slot_size}
use Rattle.jh_shape.proofs.MarkLemmas.{none_beyond}
use Rattle.jh_shape.proofs.target.Target.fill_leaves.Goals as goal

pub loop-region-init : goal.loop-region-init
loop-region-init c = λ n below. c.requires.clear n

pub mark_leaves-requires-clause-room : goal.mark_leaves-requires-clause-room
mark_leaves-requires-clause-room c =
    none_beyond c.args.base (64 * length c.args.words.now) _ c.args.level c.args.self.now.regions.now c.loop-region.region-index _ c.loop-region-test.true c.requires.room (let len = c.loop-region.auto.words in omega arith)

pub returns : goal.returns
returns c = λ n below.
    c.loop-region.invariant n below
    ∙ ap (λ (regions : List Region). list_any (λ (region : Region). is_leaf_by (claims_of c.args.self.now) c.args.level (c.args.base + n * slot_size c.args.level) region) regions) (take_all c.loop-region.region-index c.args.self.now.regions.now c.loop-region-test.false)
