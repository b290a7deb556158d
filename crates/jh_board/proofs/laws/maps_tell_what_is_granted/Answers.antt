-- The regions of what is sound share no address.
use Rattle.std.proofs.Common.{refl}
use Rattle.jh_history.specs.Grants.{is_closed_to}
use Rattle.jh_history.specs.History.{facts}
use Rattle.jh_history.specs.Lives.{regions_in}
use Rattle.jh_board.proofs.RegionMapLemmas.{regions_apart, told_is, RunsAreSingle}
use Rattle.jh_board.proofs.laws.maps_tell_what_is_granted.Goals as goal

pub returns : goal.returns
returns c m access at =
    let lives = (facts m.image m.form m.entries).cells in
    let sound = c.legal_journals_are_sound.ensures.legal m.image m.form m.entries m.admitted m.legal in
    let single : RunsAreSingle = λ closed regions runs one other at is. c.maps_tell_each_address.ensures.single (record { closed = closed; regions = regions; runs = runs; is = is }) one other at in
    told_is c.maps_tell_each_address.ensures.place single (is_closed_to m.image lives m.id) m.id (regions_in m.image lives m.id) m.runs access at (λ k. refl) (regions_apart m.image lives m.id sound.cells.clean) m.is
