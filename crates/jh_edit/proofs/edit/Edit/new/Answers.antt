-- No page is ahead, and nothing is said to be done.
use Rattle.std.proofs.Common.{◌≡◌, arith}
use Rattle.std.proofs.lemmas.Bool.{false≢true}
use Rattle.jh_frames.specs.Memory.{byte_at, word_in}
use Rattle.jh_walk.specs.Walks.{levels}
use Rattle.jh_shape.specs.Claims.{claims_of}
use Rattle.jh_shape.specs.Shapes.{want_of}
use Rattle.jh_edit.specs.Turns.{turns_of}
use Rattle.jh_edit.proofs.PlanLemmas.{nothing_done}
use Rattle.jh_edit.proofs.edit.Edit.new.Goals as goal

pub returns-clause-plan : goal.returns-clause-plan
returns-clause-plan c =
    let e : c.turns_from.result ≡ turns_of (want_of (claims_of c.args.t.now)) (word_in (byte_at c.args.f.now)) levels c.args.table 0 = c.turns_from.ensures.value in
    record {
      target = λ is. record { turns = omega arith; ahead = tt; cursor = nothing_done (want_of (claims_of c.args.t.now)) (word_in (byte_at c.args.f.now)) levels c.args.table 0 };
      removal = λ is. absurd (false≢true is);
    }
