-- The leaves are the slots that the region spans and nothing cuts, whichever way marks them.
use Rattle.std.proofs.Common.{◌≡◌, ◌+◌, ◌-◌, ◌*◌, ◌<◌, true, ◌&&◌, nat_le, nat_lt, length, sym, ◌∙◌, arith}
use Rattle.std.proofs.lemmas.Bool.{and_parts, ltb-true}
use Rattle.jh_cellcfg.specs.Regions.{virt_end, place_in}
use Rattle.jh_shape.specs.Claims.{claims_of}
use Rattle.jh_shape.specs.Intervals.{spans}
use Rattle.jh_shape.specs.Private.Marks.{is_marked}
use Rattle.jh_shape.specs.Shapes.{are_cut}
use Rattle.jh_num.specs.Levels.{slot_size}
use Rattle.jh_shape.proofs.LawLemmas.{size_some}
use Rattle.jh_shape.proofs.MarkLemmas.{leaf_span, none_kept, free_alike, spans_in}
use Rattle.jh_shape.proofs.target.Target.mark_leaves.Goals as goal

pub returns-then-not-self : goal.returns-then-not-self
returns-then-not-self c = λ n below.
    let claims = claims_of c.args.self.now in
    let level = c.args.level in
    let size = slot_size level in
    let region = c.args.region.now in
    let at = c.args.base + n * size in
    let slots = c.spanned-slots.result in
    let span = nat_le slots.from n && nat_lt n slots.to in
    let shifted : span ≡ spans (region.virt_start - c.args.base) (virt_end region - c.args.base) (n * size) size = rw (← c.addresses_in.ensures.end, ← c.addresses_in.ensures.start) (c.spanned-slots.ensures.slots n below) in
    let spanned : span ≡ spans region.virt_start (virt_end region) at size = shifted ∙ spans_in region.virt_start (virt_end region) c.args.base (n * size) size (size_some level) in
    leaf_span claims level at region (is_marked c.args.words.now n) span _ c.requires.level (sym c.is_mapped.ensures ∙ c.if-is_mapped.true) (sym c.fits_blocks.ensures ∙ c.if-fits_blocks.true) spanned
    (none_kept claims.root (are_cut claims.holders (place_in region at) size) span (is_marked c.args.words.now n) _ c.if-not-self.true (c.mark_span.ensures.marks n))

pub returns-then-div_ceil-cuts : goal.returns-then-div_ceil-cuts
returns-then-div_ceil-cuts c = λ n below.
    let claims = claims_of c.args.self.now in
    let level = c.args.level in
    let size = slot_size level in
    let region = c.args.region.now in
    let at = c.args.base + n * size in
    let slots = c.spanned-slots.result in
    let room = 64 * length c.args.cuts.now in
    let span = nat_le slots.from n && nat_lt n slots.to in
    let shifted : span ≡ spans (region.virt_start - c.args.base) (virt_end region - c.args.base) (n * size) size = rw (← c.addresses_in.ensures.end, ← c.addresses_in.ensures.start) (c.spanned-slots.ensures.slots n below) in
    let spanned : span ≡ spans region.virt_start (virt_end region) at size = shifted ∙ spans_in region.virt_start (virt_end region) c.args.base (n * size) size (size_some level) in
    let low : span ≡ true → n < room = λ is.
    (let p = and_parts (nat_le slots.from n) (nat_lt n slots.to) is in
    let l = ltb-true n slots.to p.1 in
    let end = c.div_ceil.ensures in
    let room = c.if-div_ceil-cuts.true in
    omega arith) in
    leaf_span claims level at region (is_marked c.args.words.now n) span _ c.requires.level (sym c.is_mapped.ensures ∙ c.if-is_mapped.true) (sym c.fits_blocks.ensures ∙ c.if-fits_blocks.true) spanned
    (free_alike claims level n at room region c.args.cuts.now (is_marked c.args.words.now n) span _ c.if-not-self.false c.if-region.true spanned low (λ l. c.requires.cuts c.if-not-self.false n l below) (c.mark_free.ensures n))

pub returns-else-region : goal.returns-else-region
returns-else-region c = λ n below.
    let claims = claims_of c.args.self.now in
    let level = c.args.level in
    let size = slot_size level in
    let region = c.args.region.now in
    let at = c.args.base + n * size in
    let slots = c.spanned-slots.result in
    let span = nat_le slots.from n && nat_lt n slots.to in
    let shifted : span ≡ spans (region.virt_start - c.args.base) (virt_end region - c.args.base) (n * size) size = rw (← c.addresses_in.ensures.end, ← c.addresses_in.ensures.start) (c.spanned-slots.ensures.slots n below) in
    let spanned : span ≡ spans region.virt_start (virt_end region) at size = shifted ∙ spans_in region.virt_start (virt_end region) c.args.base (n * size) size (size_some level) in
    leaf_span claims level at region (is_marked c.args.words.now n) span _ c.requires.level (sym c.is_mapped.ensures ∙ c.if-is_mapped.true) (sym c.fits_blocks.ensures ∙ c.if-fits_blocks.true) spanned (c.mark_apart.ensures n)
