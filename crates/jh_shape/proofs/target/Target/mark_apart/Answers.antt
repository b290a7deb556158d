-- The places of the slots follow one another from the first slot's place on, so that cuts are told by their marks.
use Rattle.std.proofs.Common.{◌≡◌, ℕ, ◌+◌, ◌-◌, ◌*◌, ◌<◌, ◌≤◌, Bool, ◌&&◌, ◌||◌, nat_le, nat_lt, sym, ap, ◌∙◌, arith}
use Rattle.std.proofs.lemmas.Bool.{and_parts, leb-true, ltb-true}
use Rattle.jh_cellcfg.specs.Regions.{place_in}
use Rattle.jh_shape.specs.Claims.{claims_of}
use Rattle.jh_shape.specs.Private.Marks.{is_marked}
use Rattle.jh_shape.specs.Shapes.{are_cut, is_cut_for_root}
use Rattle.jh_num.specs.Levels.{slot_size}
use Rattle.jh_shape.proofs.MarkLemmas.{but_alike, place_from, unmarked}
use Rattle.jh_shape.proofs.target.Target.mark_apart.Goals as goal

pub fill_cuts-requires-clause-clear : goal.fill_cuts-requires-clause-clear
fill_cuts-requires-clause-clear c = λ n. unmarked 4096 n

pub returns-then-first-from : goal.returns-then-first-from
returns-then-first-from c = λ n.
    let claims = claims_of c.args.self.now in
    let level = c.args.level in
    let size = slot_size level in
    let region = c.args.region.now in
    let base = c.args.base in
    let from = c.args.slots.from in
    let to = c.args.slots.to in
    let span = nat_le from n && nat_lt n to in
    let cut : ℕ → Bool = λ place. are_cut claims.holders place size in
    let kept = is_cut_for_root claims level (base + n * size) region in
    let first : c.place_in-first.result ≡ place_in region (base + from * size) = c.place_in-first.ensures.value ∙ ap (λ (z : ℕ). place_in region (base + from * z)) c.slot_size.ensures in
    c.mark_unless.ensures n
    ∙ ap (λ v. is_marked c.args.words.now n || v)
    (but_alike span _ kept (λ is.
    let p = and_parts (nat_le from n) (nat_lt n to) is in
    let low : from ≤ n = leb-true from n p.0 in
    let high : n < to = ltb-true n to p.1 in
    let some : from < to = omega arith in
    let at : place_in region (base + n * size) ≡ place_in region (base + from * size) + (n - from) * size =
    place_from region.phys_start region.virt_start base size from n low (c.requires.low from (omega arith) some) in
    c.fill_cuts.ensures (n - from) (omega arith) (let within = c.requires.within n low high in omega arith)
    ∙ ap (λ (f : ℕ). cut (f + (n - from) * size)) first
    ∙ ap cut (sym at)
    ∙ sym (ap (λ v. v && cut (place_in region (base + n * size))) c.requires.root)))
