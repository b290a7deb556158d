-- What the regions give, unless a place is kept.
use Rattle.std.proofs.Common.{List, Option, ap, sym, refl, ◌∙◌}
use Rattle.jh_history.specs.declared.place.Place.{Place}
use Rattle.jh_history.specs.Access.{memory_or_nothing}
use Rattle.jh_history.specs.Grants.{is_closed_to}
use Rattle.jh_history.proofs.GrantedLemmas.{unless_kept}
use Rattle.jh_history.proofs.ReachLemmas.{granted_by_regions}
use Rattle.jh_history.proofs.reach.memory_in.Goals as goal

pub returns-in_err-places : goal.returns-in_err-places
returns-in_err-places g c =
    let grants = c.args.grants.now in
    let wanted = c.args.wanted.now in
    let image = g.G.LiveGrants.image grants in
    let lives = g.G.LiveGrants.lives grants in
    let kept = is_closed_to image lives c.args.cell in
    ap memory_or_nothing c.from_residual.ensures
    ∙ sym (ap (λ (o : Option (List Place)). unless_kept kept (memory_or_nothing o)) c.in_err-places.was)
    ∙ granted_by_regions image lives c.args.cell (g.G.Grants.regions grants c.args.cell) wanted.access wanted.at wanted.width c.memory.result (g.met.G.LiveGrants.regions_of_lives grants c.args.cell) c.memory.ensures

pub returns-then-closes : goal.returns-then-closes
returns-then-closes g c =
    let grants = c.args.grants.now in
    let wanted = c.args.wanted.now in
    let image = g.G.LiveGrants.image grants in
    let lives = g.G.LiveGrants.lives grants in
    let kept = is_closed_to image lives c.args.cell in
    sym (ap (λ (o : Option (List Place)). unless_kept kept (memory_or_nothing o)) c.in_ok-places.was ∙ rw (← c.closes.ensures, c.if-closes.true) refl)
    ∙ granted_by_regions image lives c.args.cell (g.G.Grants.regions grants c.args.cell) wanted.access wanted.at wanted.width c.memory.result (g.met.G.LiveGrants.regions_of_lives grants c.args.cell) c.memory.ensures

pub returns-else-closes : goal.returns-else-closes
returns-else-closes g c =
    let grants = c.args.grants.now in
    let wanted = c.args.wanted.now in
    let image = g.G.LiveGrants.image grants in
    let lives = g.G.LiveGrants.lives grants in
    let kept = is_closed_to image lives c.args.cell in
    sym (ap (λ (o : Option (List Place)). unless_kept kept (memory_or_nothing o)) c.in_ok-places.was ∙ rw (← c.closes.ensures, c.if-closes.false) refl)
    ∙ granted_by_regions image lives c.args.cell (g.G.Grants.regions grants c.args.cell) wanted.access wanted.at wanted.width c.memory.result (g.met.G.LiveGrants.regions_of_lives grants c.args.cell) c.memory.ensures
