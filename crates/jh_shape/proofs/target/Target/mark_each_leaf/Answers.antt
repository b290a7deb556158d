-- A slot that is cut for root leaves the marks as they were, and any other adds its own.
use Rattle.std.proofs.Common.{◌≡◌, ℕ, ◌+◌, ◌*◌, ◌≤◌, Bool, true, false, ◌&&◌, refl, sym, ap, ◌∙◌, arith}
use Rattle.jh_cellcfg.specs.Regions.{place_in}
use Rattle.jh_shape.specs.Claims.{claims_of}
use Rattle.jh_shape.specs.Private.Marks.{is_marked}
use Rattle.jh_shape.specs.Shapes.{are_cut, is_cut_for_root}
use Rattle.jh_num.specs.Levels.{slot_size}
use Rattle.jh_shape.proofs.MarkLemmas.{is_from, leaf_step, leaf_skip, leaf_end}
use Rattle.jh_shape.proofs.target.Target.mark_each_leaf.Goals as goal
use Rattle.jh_shape.proofs.target.Target.mark_each_leaf.Goals.{then-not-is_cut, else-not-is_cut}

pub loop-n-preserved : goal.loop-n-preserved
loop-n-preserved c =
    let claims = claims_of c.args.self.now in
    let size = slot_size c.args.level in
    let kept : ℕ → Bool = λ k. is_cut_for_root claims c.args.level (c.args.base + k * size) c.args.region.now in
    let from = c.args.slots.from in
    let n = c.loop-n.n in
    let cut = are_cut claims.holders (place_in c.args.region.now (c.args.base + n * size)) size in
    let for_root : kept n ≡ cut = ap (λ v. v && cut) c.requires.root in
    let low : from ≤ n = c.loop-n.auto.n in
    let test = c.loop-n-test.true in
    elim c.if-not-is_cut.branch [
      | then-not-is_cut w ↦
          let free : kept n ≡ false = for_root ∙ sym c.is_cut.ensures ∙ w.if-not-is_cut.true in
          (omega arith, λ k. ap (λ ws. is_marked ws k) w.words-is ∙ leaf_step kept k from n (is_marked c.args.words.now k) (is_marked c.loop-n.words k) _ low free (c.loop-n.invariant.1 k) (w.mark.ensures k))
      | else-not-is_cut w ↦
          let held : kept n ≡ true = for_root ∙ sym c.is_cut.ensures ∙ w.if-not-is_cut.false in
          (omega arith, λ k. ap (λ ws. is_marked ws k) w.words-is ∙ leaf_skip kept k from n (is_marked c.args.words.now k) (is_marked c.loop-n.words k) low held (c.loop-n.invariant.1 k))
    ]

pub returns : goal.returns
returns c = λ k.
    let kept : ℕ → Bool = λ j. is_cut_for_root (claims_of c.args.self.now) c.args.level (c.args.base + j * slot_size c.args.level) c.args.region.now in
    leaf_end kept k c.args.slots.from c.args.slots.to c.loop-n.n (is_marked c.args.words.now k) (is_marked c.loop-n.words k) (is_from c.args.slots.from c.args.slots.to k) c.loop-n-test.false c.loop-n.invariant.0 refl (c.loop-n.invariant.1 k)
