-- What the port has seen that tells how the run ended is the beginning of the whole journal.
use Rattle.std.proofs.Common.{subst}
use Rattle.std.proofs.lemmas.List.Elements.{All-contains}
use mathlib.Core.List.{IsPrefix}
use Rattle.jh_turn.specs.Ports.{opened_value, seen_by}
use Rattle.jh_run.specs.Drives.{ExplainsEnd}
use Rattle.jh_run.specs.Running.{origin_of}
use Rattle.jh_run.proofs.WholeLemmas.{board_of, board_legal, board_tells, quiet_exactly, full_exactly}
use Rattle.jh_run.proofs.runs.end_run.Goals as goal

pub returns-clause-board : goal.returns-clause-board
returns-clause-board c = board_of (origin_of (opened_value c.args.shared)) c.close-board.result.board c.close-board.ensures.origin

pub returns-clause-legal : goal.returns-clause-legal
returns-clause-legal c = board_legal (origin_of (opened_value c.args.shared)) c.close-board.result.board c.close-board.ensures.origin c.journal.ensures.legal

pub returns-clause-quiet : goal.returns-clause-quiet
returns-clause-quiet c =
    let origin = origin_of (opened_value c.args.shared) in
    let board = c.close-board.result.board in
    let shows = c.requires.shows in
    let begins = All-contains (λ p. IsPrefix (seen_by p) board.entries) c.args.driven.ports.items shows.port c.close-board.ensures.seen shows.one in
    let tells = board_tells c.nothing_extends_a_quiet_journal.ensures origin board c.args.driven.refused (seen_by shows.port) c.close-board.ensures.origin c.journal.ensures.legal c.journal.ensures.within begins shows.shows in
    quiet_exactly origin c.in_ok-ended.ended board.entries (subst (λ refused. ExplainsEnd origin refused board.entries) c.in_ok-ended.ensures tells)

pub returns-clause-full : goal.returns-clause-full
returns-clause-full c =
    let origin = origin_of (opened_value c.args.shared) in
    let board = c.close-board.result.board in
    let shows = c.requires.shows in
    let begins = All-contains (λ p. IsPrefix (seen_by p) board.entries) c.args.driven.ports.items shows.port c.close-board.ensures.seen shows.one in
    let tells = board_tells c.nothing_extends_a_quiet_journal.ensures origin board c.args.driven.refused (seen_by shows.port) c.close-board.ensures.origin c.journal.ensures.legal c.journal.ensures.within begins shows.shows in
    full_exactly origin c.in_ok-ended.ended board.entries (subst (λ refused. ExplainsEnd origin refused board.entries) c.in_ok-ended.ensures tells)
