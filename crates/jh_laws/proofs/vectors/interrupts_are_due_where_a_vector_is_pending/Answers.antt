-- By what a ready CPU is, and by the lowest pending vector.
use Rattle.jh_history.proofs.Public.{legal_sound}
use Rattle.jh_laws.specs.Moments.{facts_of}
use Rattle.jh_laws.proofs.DueCpusLemmas.{ready_from_due, due_from_ready}
use Rattle.jh_laws.proofs.InterruptLemmas.{ready_pending, pending_ready, interrupt_is}
use Rattle.jh_laws.proofs.vectors.interrupts_are_due_where_a_vector_is_pending.Goals as goal

pub returns-clause-due : goal.returns-clause-due
returns-clause-due c = λ j cpu is.
    let sound = legal_sound j.image j.form j.entries j.admitted j.legal in (
      λ due. ready_pending j.image (facts_of j) cpu is (ready_from_due j.image (facts_of j) cpu j.admitted sound due),
      λ pending. due_from_ready j.image (facts_of j) cpu j.admitted sound (pending_ready j.image (facts_of j) cpu is pending),
    )

pub returns-clause-next : goal.returns-clause-next
returns-clause-next c = λ m n v is. interrupt_is m.image m.form m.before m.rest m.entry n v m.admitted m.legal is
