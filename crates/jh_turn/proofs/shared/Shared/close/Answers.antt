-- All ports together have every caller's hand, and a hand has what its port has seen.
use Rattle.std.proofs.Common.{◌≡◌, arith}
use Rattle.std.proofs.lemmas.List.{length-map}
use Rattle.std.proofs.lemmas.List.Elements.{All-weaker}
use mathlib.Core.List.{IsPrefix}
use Rattle.jh_turn.specs.Histories.{entries_of}
use Rattle.jh_turn.specs.Private.Rule.{hand}
use Rattle.jh_turn.specs.Ports.{all_callers, port_caller, seen_by}
use Rattle.jh_turn.proofs.Closes.{callers_joined, Has}
use Rattle.jh_turn.proofs.shared.Shared.close.Goals as goal

pub gather-seat-requires-clause-some : goal.gather-seat-requires-clause-some
gather-seat-requires-clause-some g c = let first = c.requires.1 0 0 c.args.self.some_caller in let inside = first.1 in let l = length-map c.args.ports.items port_caller in omega arith

pub last_value-requires-clause-all : goal.last_value-requires-clause-all
last_value-requires-clause-all g c = callers_joined c.gather-seat.result.me.0.hands c.args.ports.items (all_callers c.args.self) c.gather-seat.ensures.hands c.requires.1

pub returns-clause-seen : goal.returns-clause-seen
returns-clause-seen g c = All-weaker (Has c.gather-seat.result.me.0.hands) (λ p. IsPrefix (seen_by p) (g.T.Turner.history c.last_value.result)) (λ p here. c.last_value.ensures.seen (hand (port_caller p) (seen_by p)) here) c.args.ports.items c.gather-seat.ensures.hands

pub returns-clause-own : goal.returns-clause-own
returns-clause-own g c = let t = g.T.Turner in
    All-weaker (Has c.gather-seat.result.me.0.hands) (λ p. entries_of t.whose (port_caller p) (t.history c.last_value.result) ≡ entries_of t.whose (port_caller p) (seen_by p)) (λ p here. c.last_value.ensures.own (hand (port_caller p) (seen_by p)) here) c.args.ports.items c.gather-seat.ensures.hands
