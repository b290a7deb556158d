-- Each fault is told where none before it holds.
use Rattle.std.proofs.Common.{◌≡◌, true, false, ◌∷◌, [], rules}
use Rattle.std.proofs.lemmas.Bool.{both_ways}
use Rattle.jh_cellcfg.specs.Cells.{is_cpu_set}
use Rattle.jh_check.specs.Clean.{IsSoundCpuSet}
use Rattle.jh_talk.specs.Private.Seats.{AreCpus, CannotBe}
use Rattle.jh_talk.proofs.FaultLemmas.{faultless_first}
use Rattle.jh_talk.proofs.JoinLemmas.{below_cpu, below_device, below_pool, cell_set, cell_speaks, root_set}
use Rattle.jh_talk.proofs.joining.find_seats.Goals as goal

pub returns-then-not-branch-clause-fault : goal.returns-then-not-branch-clause-fault
returns-then-not-branch-clause-fault c =
    let no : c.in_ok-may_join.field-0 ≡ false = search rules in
    record {
      holds = cell_speaks c.args.system.now c.args.cell.now (λ joins. both_ways c.in_ok-may_join.field-0 no (c.in_ok-may_join.ensures.1 joins));
      first = faultless_first c.args.system.now c.args.cell.now;
    }

pub find_cpus-requires-clause-root : goal.find_cpus-requires-clause-root
find_cpus-requires-clause-root c =
    let yes : c.in_ok-may_join.field-0 ≡ true = search rules in
    (c.names_few_cpus.ensures (root_set c.args.system.now (c.args.cell.now ∷ []) (c.in_ok-may_join.ensures.0 yes).clean)).few

pub find_cpus-requires-clause-cell : goal.find_cpus-requires-clause-cell
find_cpus-requires-clause-cell c =
    let yes : c.in_ok-may_join.field-0 ≡ true = search rules in
    (c.names_few_cpus-2.ensures (cell_set c.args.system.now c.args.cell.now (c.in_ok-may_join.ensures.0 yes).clean)).few

pub find_cpus-requires-clause-some : goal.find_cpus-requires-clause-some
find_cpus-requires-clause-some c = λ none.
    let yes : c.in_ok-may_join.field-0 ≡ true = search rules in
    let set : IsSoundCpuSet c.args.cell.now.cpu_set = c.names_few_cpus-2.ensures (cell_set c.args.system.now c.args.cell.now (c.in_ok-may_join.ensures.0 yes).clean) in
    both_ways (is_cpu_set c.args.cell.now.cpu_set set.some.0) (none set.some.0) set.some.1

pub returns-in_default-clause-fault : goal.returns-in_default-clause-fault
returns-in_default-clause-fault c =
    let yes : c.in_ok-may_join.field-0 ≡ true = search rules in
    let none : CannotBe c.args.system.now.root c.args.cell.now = search rules in
    record { holds = none; first = below_cpu c.args.system.now c.args.cell.now (c.in_ok-may_join.ensures.0 yes) }

pub returns-then-lacks_pages-clause-fault : goal.returns-then-lacks_pages-clause-fault
returns-then-lacks_pages-clause-fault c =
    let yes : c.in_ok-may_join.field-0 ≡ true = search rules in
    let cpus : AreCpus c.args.system.now.root c.args.cell.now c.in-Some.cpus = search rules in
    record { holds = c.lacks_pages.ensures.0 c.if-lacks_pages.true; first = below_pool c.args.system.now c.args.cell.now c.in-Some.cpus (c.in_ok-may_join.ensures.0 yes) cpus }

pub returns-clause-faultless : goal.returns-clause-faultless
returns-clause-faultless c =
    let yes : c.in_ok-may_join.field-0 ≡ true = search rules in
    let cpus : AreCpus c.args.system.now.root c.args.cell.now c.in-Some.cpus = search rules in
    below_device c.args.system.now c.args.cell.now c.in-Some.cpus (c.in_ok-may_join.ensures.0 yes) cpus (λ lacks. both_ways c.lacks_pages.result c.if-lacks_pages.false (c.lacks_pages.ensures.1 lacks))
