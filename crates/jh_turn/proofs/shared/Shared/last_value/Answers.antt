-- With all hands in one seat that waits, nobody has the turn, and the value is at home.
use Rattle.std.proofs.Common.{◌≡◌, Some, sym, subst, ap, ◌∙◌}
use Rattle.std.proofs.lemmas.List.Elements.{All-contains}
use mathlib.Core.Option.{some-injective}
use Rattle.jh_turn.specs.Private.Closing.{HasCaller, IsLast}
use Rattle.jh_turn.specs.Ports.{opened_value, all_callers}
use Rattle.jh_turn.proofs.Seating.{closes}
use Rattle.jh_turn.proofs.shared.Shared.last_value.Goals as goal

pub unreachable-requires : goal.unreachable-requires
unreachable-requires g c = let t = g.T.Turner in
    let k = closes t.whose t.origin t.serves t.history c.args.self.table.shared.key _ _ _ c.args.seat.me.0 c.requires.waits (λ who here. All-contains (HasCaller c.args.seat.me.0.hands) (all_callers c.args.self) who c.requires.all here) c.close_with-closed.ensures.values.2 in
    c.in_default.not-Some k.0 (some-injective _ _ (sym c.take-slot.ensures.value ∙ k.1))

pub returns : goal.returns
returns g c = let t = g.T.Turner in
    let k = closes t.whose t.origin t.serves t.history c.args.self.table.shared.key _ _ _ c.args.seat.me.0 c.requires.waits (λ who here. All-contains (HasCaller c.args.seat.me.0.hands) (all_callers c.args.self) who c.requires.all here) c.close_with-closed.ensures.values.2 in
    let slot : Some c.in-Some.value ≡ Some k.0 = sym c.in-Some.is ∙ some-injective _ _ (sym c.take-slot.ensures.value ∙ k.1) in
    let same : c.in-Some.value ≡ k.0 = cc slot in
    subst (IsLast t.whose t.origin t.history (opened_value c.args.self) (all_callers c.args.self) c.args.seat.me.0.hands) (sym (c.into_inner.ensures ∙ ap (λ b. b.value) same)) k.2
