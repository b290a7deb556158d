-- Each port that is popped adds its hand to the seat, and in the end none is left.
use Rattle.std.proofs.Common.{rules, ◌≡◌, ◌∷◌, ◌++◌, [], length, Some, sym, subst, ap, ◌∙◌, append_assoc}
use Rattle.std.proofs.lemmas.List.{nil_from_length}
use Rattle.std.proofs.lemmas.List.Elements.{All-pop}
use Rattle.jh_turn.specs.Private.Closing.{HasHands}
use Rattle.jh_turn.specs.Ports.{IsPortOf}
use Rattle.jh_turn.proofs.Closes.{one_joined, hands_joined}
use Rattle.jh_turn.proofs.Seating.{join_keeps}
use Rattle.jh_turn.proofs.shared.Shared.gather.Goals as goal

pub loop-port-init : goal.loop-port-init
loop-port-init g c = let p = All-pop (IsPortOf c.args.self.now) c.args.ports.items c.pop.new.self.items (Some c.in-Some.last) c.in-Some.ensures.items c.requires.own in record {
  left = p.0;
  own = c.into_seat-all.ensures.same.0 ∙ p.1.0;
  waits = c.into_seat-all.ensures.waits.0;
  joined = (c.in-Some.last ∷ [], c.in-Some.ensures.items, one_joined c.into_seat-all.result.me.0.hands c.in-Some.last c.into_seat-all.ensures.hand);
}

pub join_seat-requires : goal.join_seat-requires
join_seat-requires g c = let t = g.T.Turner in let p = All-pop (IsPortOf c.args.self.now) c.loop-port.ports.items c.pop-in-loop-port.new.self.items (Some c.in-Some-pop.port) c.in-Some-pop.ensures.items c.loop-port.invariant.left in (
  c.loop-port.invariant.own,
  c.into_seat-seat.ensures.same.0 ∙ p.1.0,
  c.into_seat-seat.ensures.waits.1,
  search rules,
  join_keeps t.whose t.origin t.serves t.history c.args.self.now.table.shared.key _ _ c.loop-port.all.me.0 c.into_seat-seat.result.me.0 c.loop-port.invariant.waits c.into_seat-seat.ensures.waits.0,
)

pub loop-port-preserved : goal.loop-port-preserved
loop-port-preserved g c = let p = All-pop (IsPortOf c.args.self.now) c.loop-port.ports.items c.pop-in-loop-port.new.self.items (Some c.in-Some-pop.port) c.in-Some-pop.ensures.items c.loop-port.invariant.left in
    let done = c.loop-port.invariant.joined.0 in record {
      left = p.0;
      own = c.join_seat.ensures.0 ∙ c.loop-port.invariant.own;
      waits = ap (λ m. m.0.holding) c.join_seat.ensures.2 ∙ c.loop-port.invariant.waits;
      joined = (
        c.in-Some-pop.port ∷ done,
        c.loop-port.invariant.joined.1 ∙ (ap (λ l. l ++ done) c.in-Some-pop.ensures.items ∙ append_assoc c.pop-in-loop-port.new.self.items (c.in-Some-pop.port ∷ []) done),
        subst (λ m. HasHands m.0.hands (c.in-Some-pop.port ∷ done)) (sym c.join_seat.ensures.2)
            (hands_joined c.loop-port.all.me.0.hands c.into_seat-seat.result.me.0.hands c.in-Some-pop.port done c.into_seat-seat.ensures.hand c.loop-port.invariant.joined.2),
      );
    }

pub returns-clause-hands : goal.returns-clause-hands
returns-clause-hands g c = let none_left : length c.loop-port.ports.items ≡ 0 = search rules in let done = c.loop-port.invariant.joined.0 in
    subst (HasHands c.loop-port.all.me.0.hands) (sym (c.loop-port.invariant.joined.1 ∙ ap (λ l. l ++ done) (nil_from_length c.loop-port.ports.items none_left))) c.loop-port.invariant.joined.2
