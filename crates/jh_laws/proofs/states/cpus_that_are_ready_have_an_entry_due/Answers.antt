-- By the open call and the CPU's state.
use Rattle.jh_laws.specs.Moments.{facts_of}
use Rattle.jh_laws.proofs.DueCpusLemmas.{ready_from_due, due_from_ready}
use Rattle.jh_history.proofs.Public.{legal_sound}
use Rattle.jh_laws.proofs.states.cpus_that_are_ready_have_an_entry_due.Goals as goal

pub returns : goal.returns
returns c = λ j cpu.
    let sound = legal_sound j.image j.form j.entries j.admitted j.legal in
    (ready_from_due j.image (facts_of j) cpu j.admitted sound, due_from_ready j.image (facts_of j) cpu j.admitted sound)
