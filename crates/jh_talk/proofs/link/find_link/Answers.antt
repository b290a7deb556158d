-- Each fault is told where none before it holds.
use Rattle.std.proofs.Common.{◌≡◌, true, false, rules}
use Rattle.jh_talk.specs.Pairs.{IsFirstPair, HasNoPair}
use Rattle.jh_talk.specs.Sections.{has_sections}
use Rattle.jh_talk.specs.Functions.{has_function}
use Rattle.jh_talk.proofs.JoinLemmas.{below_section, below_ecam, below_window}
use Rattle.jh_talk.proofs.link.find_link.Goals as goal

pub returns-in_default-clause-fault : goal.returns-in_default-clause-fault
returns-in_default-clause-fault c =
    let none : HasNoPair c.args.system.now.root c.args.cell.now = search rules in
    record { holds = none; first = c.requires }

pub returns-then-not-has_sections-clause-fault : goal.returns-then-not-has_sections-clause-fault
returns-then-not-has_sections-clause-fault c =
    let first : IsFirstPair c.args.system.now.root c.args.cell.now c.in-Some.pair = search rules in
    let lacking : has_sections c.args.system.now.root c.args.cell.now c.in-Some.pair ≡ false = search rules in
    record {
      holds = record { pair = c.in-Some.pair; first = first; lacking = lacking };
      first = below_section c.args.system.now c.args.cell.now c.in-Some.pair c.requires first;
    }

pub returns-then-not-has_function-clause-fault : goal.returns-then-not-has_function-clause-fault
returns-then-not-has_function-clause-fault c =
    let first : IsFirstPair c.args.system.now.root c.args.cell.now c.in-Some.pair = search rules in
    let sections : has_sections c.args.system.now.root c.args.cell.now c.in-Some.pair ≡ true = search rules in
    let lacking : has_function c.args.system.now c.args.cell.now c.in-Some.pair.device ≡ false = search rules in
    record {
      holds = record { pair = c.in-Some.pair; first = first; lacking = lacking };
      first = below_ecam c.args.system.now c.args.cell.now c.in-Some.pair c.requires first sections;
    }

pub returns-clause-faultless : goal.returns-clause-faultless
returns-clause-faultless c =
    let first : IsFirstPair c.args.system.now.root c.args.cell.now c.in-Some.pair = search rules in
    let sections : has_sections c.args.system.now.root c.args.cell.now c.in-Some.pair ≡ true = search rules in
    let function : has_function c.args.system.now c.args.cell.now c.in-Some.pair.device ≡ true = search rules in
    below_window c.args.system.now c.args.cell.now c.in-Some.pair c.requires first sections function
