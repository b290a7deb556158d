-- A place that is free lies within the places, and so does the memory's size.
use Rattle.jh_plan.proofs.PlaceLemmas.{free_within}
use Rattle.jh_plan.proofs.cell.find_seat.Goals as goal
use Rattle.std.proofs.Common.{rules}
use Rattle.jh_plan.specs.Places.{IsHighestPlace}

pub comm_start-requires : goal.comm_start-requires
comm_start-requires c =
    let highest : IsHighestPlace c.args.root.now c.args.earlier.now c.args.demand.now.size c.in-Some-highest_place.place = search rules in
    free_within c.args.root.now c.args.earlier.now c.args.demand.now.size c.in-Some-highest_place.place c.requires.demand.some_size c.requires.within highest.free
