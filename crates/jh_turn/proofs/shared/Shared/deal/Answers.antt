-- The port that is pushed is of the caller at the index, and the seat keeps those behind it.
use Rattle.std.proofs.Common.{ℕ, ◌+◌, ◌∷◌, ◌++◌, [], List, map, drop, All, ap, ap₂, ◌∙◌, sym, subst, add-zero, drop-drop, get_or-drop, slice_index}
use Rattle.std.proofs.lemmas.List.{map-append, take_more, take_rest}
use Rattle.std.proofs.lemmas.List.Elements.{All-push}
use Rattle.jh_turn.specs.Private.Dealing.{HasToGive, IsNewPort}
use Rattle.jh_turn.specs.Ports.{opened_value, port_caller}
use Rattle.jh_turn.proofs.shared.Shared.deal.Goals as goal

pub loop-i-preserved : goal.loop-i-preserved
loop-i-preserved g c = let i : ℕ = c.loop-i.i in let log = g.T.Turner.history (opened_value c.args.self.now) in let callers = c.args.callers.now in record {
  seat = subst (λ left. HasToGive log left c.args.self.now c.next_port.new.seat) (ap (drop 1) (take_rest callers i) ∙ drop-drop 1 i callers) c.next_port.ensures.seat;
  ports = subst (All (IsNewPort log c.args.self.now)) (sym c.push_reserved.ensures.items) (All-push (IsNewPort log c.args.self.now) c.loop-i.ports.items c.next_port.result c.loop-i.invariant.ports c.next_port.ensures.port);
  callers = ap (map port_caller) c.push_reserved.ensures.items
      ∙ (map-append port_caller c.loop-i.ports.items (c.next_port.result ∷ [])
      ∙ (ap₂ (λ l x. l ++ x ∷ []) c.loop-i.invariant.callers (c.next_port.ensures.caller ∙ ap (λ (l : List ℕ). slice_index l 0) (take_rest callers i) ∙ get_or-drop i callers 0 0 ∙ ap (λ (z : ℕ). slice_index callers z) (add-zero i)) ∙ sym (take_more callers i 0 c.loop-i-test.true)));
  count = c.push_reserved.ensures.len ∙ ap (λ (z : ℕ). z + 1) c.loop-i.invariant.count;
  room = c.push_reserved.ensures.capacity ∙ c.loop-i.invariant.room;
}
