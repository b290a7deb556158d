-- The page of a seat is the hypervisor's.
use Rattle.std.proofs.Common.{◌∙◌}
use Rattle.jh_edit.specs.declared.stage.Stage2.{Stage2}
use Rattle.jh_board.specs.Seats.{IsOwnPage}
use Rattle.jh_board.proofs.AnswerLemmas.{if_some}
use Rattle.jh_board.proofs.SeatsLemmas.{comm_found}
use Rattle.jh_board.proofs.SoundLemmas.{page_inside}
use Rattle.jh_board.proofs.memory.Memory.comm.Goals as goal

pub returns-in-Some-clause-inside : goal.returns-in-Some-clause-inside
returns-in-Some-clause-inside c =
    let stage : Stage2 = c.self.inside.stage in
    rw (← c.self.view_is) (if_some c.in-Some.seat.now.comm (IsOwnPage stage.frames.own) (λ page is.
    page_inside c.self.inside.base stage c.self.invariant c.args.id page (comm_found stage c.as_slice.result.now c.args.id c.in-Some.seat.now c.as_slice.ensures.value c.in-Some.ensures ∙ is)))
