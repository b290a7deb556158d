-- Places behind the first of a slot lie in that slot alone, which is marked.
use Rattle.std.proofs.Common.{◌≡◌, ℕ, ◌+◌, ◌*◌, true, subst, sym, ap, ◌∙◌, arith}
use Rattle.jh_num.specs.Levels.{slot_size}
use Rattle.jh_shape.specs.Intervals.{touches}
use Rattle.jh_shape.specs.Private.Marks.{is_marked}
use Rattle.jh_shape.proofs.HeldLemmas.{behind_alone}
use Rattle.jh_shape.proofs.TableLemmas.{slot_fits}
use Rattle.jh_shape.proofs.region.behind_cut.Goals as goal

pub overflow_add-result : goal.overflow_add-result
overflow_add-result c =
    let few = c.if-n.true in
    let low = c.requires.base in
    rw c.slot_size-size.ensures (let fits = slot_fits c.args.level c.slot_of-n.result c.requires.level (omega arith) in omega arith)

pub overflow_add-result-then-is_marked : goal.overflow_add-result-then-is_marked
overflow_add-result-then-is_marked c =
    let few = c.if-n.true in
    let low = c.requires.base in
    rw c.slot_size-size.ensures
    (let fits = slot_fits c.args.level c.slot_of-n.result c.requires.level (omega arith) in
    let one = slot_fits c.args.level 1 c.requires.level (omega arith) in
    omega arith)

pub returns-then-is_marked : goal.returns-then-is_marked
returns-then-is_marked c = λ n few touched.
    let size = slot_size c.args.level in
    let k = c.slot_of-n.result in
    let base = c.args.base in
    let own : touches (base + k * size + 1) (base + k * size + size) (base + n * size) size ≡ true =
    ap (λ (s : ℕ). touches (base + k * s + 1) (base + k * s + s) (base + n * size) size) (sym c.slot_size-size.ensures) ∙ touched in
    let same : n ≡ k = behind_alone base size k n own in
    let marked : is_marked c.args.cuts.now k ≡ true = sym c.is_marked.ensures ∙ c.if-is_marked.true in
    let here : n * size ≡ k * size = ap (λ m. m * size) same in
    let there : k * c.slot_size-size.result ≡ k * size = ap (λ (s : ℕ). k * s) c.slot_size-size.ensures in
    (subst (λ (m : ℕ). is_marked c.args.cuts.now m ≡ true) (sym same) marked, omega arith)
