-- The value that is taken is the claimed one, whose history begins with what the port has seen.
use Rattle.std.proofs.Common.{Some, ap, ◌∙◌, ◌≡◌, ◌∷◌, [], sym, subst}
use Rattle.std.proofs.lemmas.List.{nil_from_length}
use mathlib.Core.List.{IsPrefix}
use Rattle.jh_turn.specs.Hands.{seen_of}
use Rattle.jh_turn.specs.Histories.{IsTurn}
use Rattle.jh_turn.specs.Ports.{opened_value}
use Rattle.jh_turn.proofs.Turns.{told, sees_on, one_value}
use Rattle.jh_turn.proofs.shared.Shared.turn.Goals as goal

-- the value that was claimed is in the slot that the seat has
pub take-value-requires-clause-there : goal.take-value-requires-clause-there
take-value-requires-clause-there g c = let k = c.claim.ensures.claimed in (k.value, k.has_slot ∙ ap (λ l. (0, Some k.value) ∷ l) (nil_from_length _ c.args.port.now.empty))

pub returns-clause-seen : goal.returns-clause-seen
returns-clause-seen g c = let t = g.T.Turner in let k = c.claim.ensures.claimed in
    let there : c.claim.new.seat.me.1 ≡ (0, Some k.value) ∷ [] = k.has_slot ∙ ap (λ l. (0, Some k.value) ∷ l) (nil_from_length _ c.args.port.now.empty) in
    let same = c.deref_mut.ensures.value ∙ ap (λ b. b.value) (one_value _ _ _ c.take-value.ensures.value there) in
    subst (λ m. IsPrefix (seen_of c.args.port.now.seat.me.0.hands) (seen_of m.0.hands)) (sym c.put_back.ensures.done)
    (sees_on t.whose t.origin t.serves t.history c.args.port.now.caller c.args.port.now.seat.me c.claim.new.seat.me k c.deref_mut.result.now c.turn-answer.new.self same c.turn-answer.ensures.history)

pub returns-clause-turn : goal.returns-clause-turn
returns-clause-turn g c = let t = g.T.Turner in let k = c.claim.ensures.claimed in
    let there : c.claim.new.seat.me.1 ≡ (0, Some k.value) ∷ [] = k.has_slot ∙ ap (λ l. (0, Some k.value) ∷ l) (nil_from_length _ c.args.port.now.empty) in
    let same = c.deref_mut.ensures.value ∙ ap (λ b. b.value) (one_value _ _ _ c.take-value.ensures.value there) in
    subst (λ m. IsTurn t.whose (t.answers (t.origin (opened_value c.args.self.now)))
    (record { caller = c.args.port.now.caller; seen = seen_of c.args.port.now.seat.me.0.hands; answer = c.turn-answer.result; now = seen_of m.0.hands })) (sym c.put_back.ensures.done)
    (told t.whose t.origin t.serves t.history t.answers c.args.port.now.caller c.args.port.now.seat.me c.claim.new.seat.me k (opened_value c.args.self.now) c.deref_mut.result.now c.turn-answer.new.self c.turn-answer.result c.requires.1 same
    c.turn-answer.ensures.history c.turn-answer.ensures.answer)
