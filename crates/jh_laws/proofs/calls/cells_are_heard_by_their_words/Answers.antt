-- By the phase that is waited in, which counts.
use Rattle.jh_laws.proofs.AnswerLemmas.{settles_at, hears_at}
use Rattle.jh_laws.proofs.calls.cells_are_heard_by_their_words.Goals as goal

pub returns-clause-settle : goal.returns-clause-settle
returns-clause-settle c = λ s call how is act next settles.
    let h = settles_at s.image s.form s.before s.between s.rest s.first s.last call how s.admitted s.legal is act next.others next.own settles in
    record { config = h.0; lives = h.1; named = h.2; settles = h.3 }

pub returns-clause-note : goal.returns-clause-note
returns-clause-note c = λ s id other how act next hears.
    let h = hears_at s.image s.form s.before s.between s.rest s.first s.last id other how s.admitted s.legal act next.others next.own hears in
    (h.0, record { config = h.1.0; lives = h.1.1; named = h.1.2; hears = h.1.3 })
