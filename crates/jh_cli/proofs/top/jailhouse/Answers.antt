-- What a run or a soak tells is sent.
use Rattle.std.proofs.Common.{◌≡◌, [], Option, Some, subst}
use Rattle.std.specs.Prelude.{map, string_bytes}
use Rattle.jh_outside.specs.Trail.{Asks, no_ask}
use Rattle.jh_cli.specs.Reading.{IsCountedFault}
use Rattle.jh_cli.specs.Call.{IsCall}
use Rattle.jh_cli.specs.Soak.{Soaks}
use Rattle.jh_cli.specs.Words.{Request, RunOf, SoakOf, command_of}
use Rattle.jh_cli.proofs.CallLemmas.{finished_call}
use Rattle.jh_cli.proofs.RunLemmas.{soak_counted}
use Rattle.jh_cli.proofs.StopLemmas.{on_ending}
use Rattle.jh_cli.proofs.top.jailhouse.Goals as goal

pub returns-in-Some-Run : goal.returns-in-Some-Run
returns-in-Some-Run g c =
    let board = c.in-Some-Run.board.now in
    let is : Some (RunOf board) ≡ command_of (map string_bytes c.args.words.now) = rw c.in-Some-Run.field-0-is at c.in-Some-Run.ensures.command in
    subst
    (λ (request : Option Request). IsCall g.F.Files g.K.Sink request c.args.files.now c.run-ending.new.files c.args.out.now c.finish.new.out c.finish.result)
    is
    (finished_call g.F.Files g.K.Sink c.good_inputs_are_answered.ensures
    (Some (RunOf board)) c.args.files.now c.run-ending.new.files c.args.out.now c.finish.new.out c.run-ending.result c.finish.result
    c.run-ending.ensures.ends c.run-ending.ensures.counted c.run-ending.ensures.asked c.finish.ensures.sent c.finish.ensures.fault c.finish.ensures.memory)

pub returns-in-Some-Soak : goal.returns-in-Some-Soak
returns-in-Some-Soak g c =
    let word = c.in-Some-Soak.rounds.now in
    let is : Some (SoakOf word) ≡ command_of (map string_bytes c.args.words.now) = rw c.in-Some-Soak.field-0-is at c.in-Some-Soak.ensures.command in
    let files = c.args.files.now in
    let count = g.F.Files.faults files in
    let failed = g.F.Files.failed files in
    let ending = c.soak-ending.result in
    let end = c.finish-in-Some-Soak in
    subst
    (λ (request : Option Request). IsCall g.F.Files g.K.Sink request files files c.args.out.now end.new.out end.result)
    is
    (finished_call g.F.Files g.K.Sink c.good_inputs_are_answered.ensures
    (Some (SoakOf word)) files files c.args.out.now end.new.out ending end.result
    c.soak-ending.ensures
    (on_ending (Soaks word) (IsCountedFault count count failed) ending (soak_counted count count failed word) c.soak-ending.ensures)
    (on_ending (Soaks word) (λ reply. Asks g.F.Files files [] files) ending (λ reply soaked. no_ask files) c.soak-ending.ensures)
    end.ensures.sent end.ensures.fault end.ensures.memory)
