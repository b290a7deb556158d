-- A region is within one block's extents, and these are within the extents of all blocks.
use Rattle.std.proofs.Common.{◌+◌, ◌*◌, ◌/◌, ◌<◌, ◌≤◌, length, get_or, arith}
use Rattle.jh_check.specs.declared.blocks.TheConstants.{BLOCK}
use Rattle.jh_check.specs.Private.Spans.{span_of}
use Rattle.jh_check.specs.Private.Envelopes.{passes_shared}
use Rattle.jh_check.proofs.BlockLemmas.{inside_both}
use Rattle.jh_check.proofs.blocks.extents_of.Goals as goal

pub returns : goal.returns
returns c = λ rule regions are r d low high within takes.
    let blocks = c.args.blocks.now in
    let t = c.loop-block-test.false in
    let size = c.loop-block.auto.block-index-end in
    let k = r / BLOCK in
    let none = c.loop-block.extents in
    let enough = are.enough in
    let h : k < length blocks = omega arith in
    let first : BLOCK * k ≤ r = omega arith in
    let last : r < BLOCK * k + BLOCK = omega arith in
    inside_both (passes_shared rule (get_or regions r d)) (span_of rule r (get_or regions r d)) (get_or blocks k none) c.loop-block.extents
    (c.loop-block.invariant k none (omega arith)) (are.each k none h r d first last within takes)
