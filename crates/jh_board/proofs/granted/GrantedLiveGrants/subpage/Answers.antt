-- The subpage region is that of the image and the cells.
use Rattle.std.proofs.Common.{ap, ◌∙◌}
use Rattle.std.specs.Prelude.{find}
use Rattle.jh_mmio.specs.Dispatch.{takes_all}
use Rattle.jh_history.specs.declared.place.Place.TheVariants.{Physical}
use Rattle.jh_history.specs.Grants.{is_closed_to}
use Rattle.jh_history.specs.Lives.{regions_in}
use Rattle.jh_history.specs.LiveView.{GrantsView}
use Rattle.jh_board.proofs.granted.GrantedLiveGrants.subpage.Goals as goal

pub returns-clause-found : goal.returns-clause-found
returns-clause-found c =
    c.open_whole.ensures.found
    ∙ ap (λ (g : GrantsView). find (takes_all (λ p. is_closed_to g.image g.lives c.args.cell (Physical p)) c.args.wanted.now.at c.args.wanted.now.width) (regions_in g.image g.lives c.args.cell)) c.self.view_is
