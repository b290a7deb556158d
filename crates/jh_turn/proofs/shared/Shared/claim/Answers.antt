-- A caller's number is below the one of a free turn, and who finds it free has claimed it.
use Rattle.std.proofs.Common.{rules, ◌<◌, arith, ap, subst, ◌∙◌}
use Rattle.jh_turn.specs.Private.Rule.{HasClaimed}
use Rattle.jh_turn.proofs.Keeps.{claim_keeps}
use Rattle.jh_turn.proofs.shared.Shared.claim.Goals as goal

pub compare_exchange-found-requires : goal.compare_exchange-found-requires
compare_exchange-found-requires g c = let t = g.T.Turner in let small : c.args.caller < 256 = omega arith in (
  search rules,
  search rules,
  claim_keeps t.whose t.origin t.serves t.history c.args.self.now.table.shared.key _ _ c.args.caller c.loop.seat.me _ (ap (λ m. m.0.hands) c.loop.invariant.1 ∙ c.requires.waits.one_hand) small,
)

pub returns-then-found-eq-FREE-clause-claimed : goal.returns-then-found-eq-FREE-clause-claimed
returns-then-found-eq-FREE-clause-claimed g c = let t = g.T.Turner in
    subst (λ m. HasClaimed t.whose t.origin t.serves t.history c.args.caller m c.compare_exchange-found.new.seat.me) c.loop.invariant.1 (c.compare_exchange-found.ensures.2.0 c.if-found-eq-FREE.true)
