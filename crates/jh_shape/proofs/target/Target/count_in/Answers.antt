-- Leaves are marked first, so that what the slots that are met add to the marks are the tables.
use Rattle.std.proofs.Common.{◌≡◌, ℕ, ◌+◌, ◌*◌, ◌/◌, Bool, not, ◌&&◌, ◌||◌, ap, ◌∙◌}
use Rattle.std.specs.List.{list_any}
use Rattle.jh_shape.specs.declared.marks.TheConstants.{WINDOW}
use Rattle.jh_cellcfg.specs.declared.region.Region.{Region}
use Rattle.jh_shape.specs.Claims.{claims_of}
use Rattle.jh_shape.specs.Private.Marks.{is_beyond, is_marked, marked_slots, tables_in}
use Rattle.jh_shape.specs.Pages.{count_below}
use Rattle.jh_shape.specs.Shapes.{is_leaf, is_met}
use Rattle.jh_num.specs.Levels.{slot_size}
use Rattle.jh_shape.proofs.CountLemmas.{count_below_agree, count_below_either, grown_same}
use Rattle.jh_shape.proofs.target.Target.count_in.Goals as goal

pub add_met-requires-clause-room : goal.add_met-requires-clause-room
add_met-requires-clause-room c =
    ap (λ (len : ℕ). list_any (λ (region : Region). is_beyond c.args.base (64 * len) c.args.level region) c.args.self.now.regions.now) c.fill_leaves.auto.words ∙ c.requires.room

pub returns-clause-value : goal.returns-clause-value
unfolding tables_in
returns-clause-value c =
    let claims = claims_of c.args.self.now in
    let level = c.args.level in
    let size = slot_size level in
    let all = WINDOW / size in
    let leaf : ℕ → Bool = λ n. is_leaf claims level (c.args.base + n * size) in
    let met : ℕ → Bool = λ n. is_met claims level (c.args.base + n * size) in
    let first = marked_slots c.fill_leaves.new.words level in
    let last = marked_slots c.add_met.new.words level in
    let leaves : first ≡ count_below leaf all = count_below_agree (λ n. is_marked c.fill_leaves.new.words n) leaf all (λ n below. c.fill_leaves.ensures n below) in
    let both : last ≡ count_below leaf all + count_below (λ n. met n && not (leaf n)) all =
    count_below_either (λ n. is_marked c.add_met.new.words n) leaf met all
    (λ n below. c.add_met.ensures.met n below ∙ ap (λ b. b || met n) (c.fill_leaves.ensures n below)) in
    grown_same first last c.add_met.result (count_below leaf all) (count_below (λ n. met n && not (leaf n)) all) c.add_met.ensures.more leaves both
