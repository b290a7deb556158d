-- The region that has the whole access, unless one of its places is kept.
use Rattle.std.proofs.Common.{◌≤◌, Bool, Some, None, cond, ap, sym, ◌∙◌}
use Rattle.std.specs.List.{list_any}
use Rattle.jh_cellcfg.proofs.Public.{has_address_first}
use Rattle.jh_mmio.specs.Dispatch.{unless_closed}
use Rattle.jh_history.specs.declared.place.Place.{Place}
use Rattle.jh_history.specs.declared.place.Place.TheVariants.{Physical}
use Rattle.jh_history.specs.Grants.{is_closed_to}
use Rattle.jh_board.proofs.BehindLemmas.{unless_kept}
use Rattle.jh_board.proofs.granted.open_whole.Goals as goal

pub returns-then-closes_any-clause-found : goal.returns-then-closes_any-clause-found
returns-then-closes_any-clause-found c =
    let kept : Place → Bool = is_closed_to c.args.image.now c.args.cells.now.lives c.args.cell in
    let wanted = c.args.wanted.now in
    let region = c.in_ok-region.region in
    let low : region.virt_start ≤ wanted.at = has_address_first region wanted.at c.in_ok-region.ensures.first in
    sym (c.whole.ensures.found (λ p. kept (Physical p)) ∙ ap (unless_closed (λ p. kept (Physical p)) wanted.at wanted.width) c.in_ok-region.was
    ∙ unless_kept c.args.image.now c.args.cells.now.lives c.args.cell wanted.at wanted.width region c.closes_any.result low (c.closes_any.ensures ∙ ap (list_any kept) c.places_in-places.ensures)
    ∙ ap (λ (b : Bool). cond b None (Some region)) c.if-closes_any.true)

pub returns-else-closes_any-clause-found : goal.returns-else-closes_any-clause-found
returns-else-closes_any-clause-found c =
    let kept : Place → Bool = is_closed_to c.args.image.now c.args.cells.now.lives c.args.cell in
    let wanted = c.args.wanted.now in
    let region = c.in_ok-region.region in
    let low : region.virt_start ≤ wanted.at = has_address_first region wanted.at c.in_ok-region.ensures.first in
    sym (c.whole.ensures.found (λ p. kept (Physical p)) ∙ ap (unless_closed (λ p. kept (Physical p)) wanted.at wanted.width) c.in_ok-region.was
    ∙ unless_kept c.args.image.now c.args.cells.now.lives c.args.cell wanted.at wanted.width region c.closes_any.result low (c.closes_any.ensures ∙ ap (list_any kept) c.places_in-places.ensures)
    ∙ ap (λ (b : Bool). cond b None (Some region)) c.if-closes_any.false)

pub returns-in_err-region-clause-found : goal.returns-in_err-region-clause-found
returns-in_err-region-clause-found c =
    let kept : Place → Bool = is_closed_to c.args.image.now c.args.cells.now.lives c.args.cell in
    let wanted = c.args.wanted.now in
    c.from_residual.ensures ∙ sym (c.whole.ensures.found (λ p. kept (Physical p)) ∙ ap (unless_closed (λ p. kept (Physical p)) wanted.at wanted.width) c.in_err-region.was)
