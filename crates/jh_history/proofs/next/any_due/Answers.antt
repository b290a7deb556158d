-- A CPU was found that has an entry due, or else none has: a board has no CPU beyond the sixteenth.
use Rattle.std.proofs.Common.{inl, inr, refl, arith}
use Rattle.std.proofs.lemmas.Bool.{cases_lt}
use Rattle.jh_history.proofs.DueLemmas.{due_at_beyond, none_round}
use Rattle.jh_history.proofs.next.any_due.Goals as goal

pub returns-clause-quiet : goal.returns-clause-quiet
returns-clause-quiet g c = λ i f h few. (
  λ _ cpu. elim (cases_lt cpu 16) [
    | inl below ↦ none_round i f c.args.first cpu c.requires below (λ j lt. c.loop-k.invariant i f h j (omega arith))
    | inr beyond ↦ due_at_beyond i f cpu (few cpu) beyond
  ],
  λ _. refl,
)
