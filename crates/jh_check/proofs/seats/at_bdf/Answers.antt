-- In the order of bdfs, the seats of one stand between those below it and those above.
use Rattle.std.proofs.Common.{nat_lt, leb, arith, rules}
use Rattle.std.proofs.lemmas.List.Sorted.{IsPartitionPoint-from_clause, IsPartitionedBy-ltb, IsPartitionedBy-leb}
use Rattle.jh_check.specs.declared.seats.Seat.{Seat}
use Rattle.jh_check.proofs.SeatLemmas.{seat_within}
use Rattle.jh_check.proofs.seats.at_bdf.Goals as goal

pub returns : goal.returns
returns c =
    let seats = c.args.seats.now in
    let bdf = c.args.bdf in
    let n = c.partition_point-end.result in
    let m = c.partition_point-begin.result in
    let ends = IsPartitionPoint-from_clause (λ (seat : Seat). leb seat.bdf bdf) seats n c.partition_point-end.ensures.partitioned (IsPartitionedBy-leb (λ (seat : Seat). seat.bdf) seats bdf c.requires) (λ a r q k. search rules) in
    let begins = IsPartitionPoint-from_clause (λ (seat : Seat). nat_lt seat.bdf bdf) seats m c.partition_point-begin.ensures.partitioned (IsPartitionedBy-ltb (λ (seat : Seat). seat.bdf) seats bdf c.requires) (λ a r q k. search rules) in
    seat_within seats bdf c.min.result m n (omega (arith, c.min.ensures)) (omega (arith, c.min.ensures)) c.partition_point-end.ensures.bound ends.1 begins.0
