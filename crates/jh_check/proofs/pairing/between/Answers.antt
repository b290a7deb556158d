-- A block that lies in the gaps gives nothing, and the blocks go up to the last region.
use Rattle.std.proofs.Common.{◌≡◌, ◌+◌, ◌*◌, ◌++◌, refl, sym, ap, ◌∙◌, arith}
use Rattle.jh_check.specs.declared.blocks.TheConstants.{BLOCK}
use Rattle.jh_check.specs.Lists.{capped}
use Rattle.jh_check.specs.Findings.{between, between_at}
use Rattle.jh_check.specs.Private.Blocks.{between_from}
use Rattle.jh_check.proofs.ListLemmas.{found_done}
use Rattle.jh_check.proofs.BlockLemmas.{block_beyond}
use Rattle.jh_check.proofs.pairing.between.Goals as goal

pub loop-k-init : goal.loop-k-init
unfolding between
loop-k-init c = record { gaps = c.first_gaps-gaps.ensures; found = refl }

pub loop-k-preserved-then-lie_in : goal.loop-k-preserved-then-lie_in
loop-k-preserved-then-lie_in c =
    let pair = c.args.pair.now in
    let k = c.loop-k.k in
    let lies = c.if-lie_in.true in
    let gaps = c.loop-k.invariant.gaps in
    let any = gaps.any _ (c.lie_in.ensures.any lies) in
    let unshared = gaps.unshared _ (c.lie_in.ensures.unshared lies) in
    let t = c.loop-k-test.true in
    let e : BLOCK * (k + 1) ≡ BLOCK * k + BLOCK = omega arith in
    let passed = block_beyond pair.rule pair.a pair.one.now pair.b pair.other.now pair.envelopes.now (BLOCK * k) BLOCK _ c.requires.pair.envelopes c.requires.pair.same (c.requires.blocks.each k _ (omega arith)) any unshared in
    record {
      gaps = gaps;
      found = ap (λ n. capped (c.loop-k.found ++ between_from pair.rule pair.a pair.one.now pair.b pair.other.now n)) e ∙ ap (λ xs. capped (c.loop-k.found ++ xs)) (sym passed) ∙ c.loop-k.invariant.found;
    }

pub loop-k-preserved : goal.loop-k-preserved
loop-k-preserved c =
    let pair = c.args.pair.now in
    let e : BLOCK * (c.loop-k.k + 1) ≡ BLOCK * c.loop-k.k + BLOCK = omega arith in
    record {
      gaps = c.in_ok-among.ensures.gaps;
      found = ap (λ n. capped (c.among.new.found ++ between_from pair.rule pair.a pair.one.now pair.b pair.other.now n)) e ∙ c.in_ok-among.ensures.found ∙ c.loop-k.invariant.found;
    }

pub returns : goal.returns
returns c =
    let pair = c.args.pair.now in
    let t = c.loop-k-test.false in
    let enough = c.requires.blocks.enough in
    found_done (between_at pair.rule pair.a pair.one.now pair.b pair.other.now) pair.one.now.memory_regions (BLOCK * c.loop-k.k) c.loop-k.found _ (omega arith) c.loop-k.invariant.found
