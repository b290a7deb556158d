-- The region that has the whole access takes it, unless one of its places is kept.
use Rattle.std.proofs.Common.{◌≤◌, Bool, not, ap, sym, ◌∙◌}
use Rattle.std.specs.List.{list_any}
use Rattle.jh_cellcfg.proofs.Public.{has_address_first}
use Rattle.jh_history.specs.declared.place.Place.{Place}
use Rattle.jh_history.specs.declared.place.Place.TheVariants.{Physical}
use Rattle.jh_history.specs.Grants.{is_closed_to}
use Rattle.jh_history.proofs.BehindLemmas.{whole_takes, kept_row}
use Rattle.jh_history.proofs.cells.takes_all.Goals as goal

pub returns-then-has_whole-clause-takes : goal.returns-then-has_whole-clause-takes
returns-then-has_whole-clause-takes c =
    let kept : Place → Bool = is_closed_to c.args.image.now c.args.cells.now c.args.cell in
    let at = c.args.wanted.now.at in
    let width = c.args.wanted.now.width in
    let region = c.args.region.now in
    let low : region.virt_start ≤ at = has_address_first region at (c.has_whole.ensures.first c.if-has_whole.true) in
    ap not (c.are_closed.ensures ∙ ap (list_any kept) c.places_in-places.ensures ∙ kept_row c.args.image.now c.args.cells.now c.args.cell at width region low)
    ∙ sym (whole_takes (λ p. kept (Physical p)) at width region (sym c.has_whole.ensures.whole ∙ c.if-has_whole.true))
