-- The places of two stretches.
use Rattle.std.proofs.Common.{◌∙◌, ◌-◌, arith}
use Rattle.jh_history.specs.Places.{places_of_row}
use Rattle.jh_history.specs.Access.{place_of}
use Rattle.jh_history.proofs.AccessLemmas.{places_from_both, places_from_no_low, places_from_no_high}
use Rattle.jh_history.proofs.grants.places_of.Goals as goal

pub returns-in_err-low : goal.returns-in_err-low
returns-in_err-low g c =
    let place = place_of c.args.cell (g.G.Grants.regions c.args.grants.now c.args.cell) c.args.wanted.now.access in
    let here = c.in_page-here.result in
    c.from_residual.ensures ∙ places_from_no_low place c.args.wanted.now.at c.args.wanted.now.width here (c.args.wanted.now.width - here) (omega arith) (rw c.in_err-low.was at c.row_from.ensures.places)

pub returns-in_err-high : goal.returns-in_err-high
returns-in_err-high g c =
    let place = place_of c.args.cell (g.G.Grants.regions c.args.grants.now c.args.cell) c.args.wanted.now.access in
    let here = c.in_page-here.result in
    c.from_residual-in_err-high.ensures
    ∙ places_from_no_high place c.args.wanted.now.at c.args.wanted.now.width here (c.args.wanted.now.width - here) (places_of_row c.in_ok-low.low) (omega arith) (rw c.in_ok-low.was at c.row_from.ensures.places) (rw (c.in_err-high.was, c.from.ensures) at c.row_from-2.ensures.places)

pub returns : goal.returns
returns g c =
    let place = place_of c.args.cell (g.G.Grants.regions c.args.grants.now c.args.cell) c.args.wanted.now.access in
    let here = c.in_page-here.result in
    rw c.new.ensures (places_from_both place c.args.wanted.now.at c.args.wanted.now.width here (c.args.wanted.now.width - here) (places_of_row c.in_ok-low.low) (places_of_row c.in_ok-high.high) (omega arith) (rw c.in_ok-low.was at c.row_from.ensures.places) (rw (c.in_ok-high.was, c.from.ensures) at c.row_from-2.ensures.places))
