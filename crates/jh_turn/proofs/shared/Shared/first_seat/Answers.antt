-- The rule holds at first: the value is in its slot, and one seat has each caller's hand.
use Rattle.std.proofs.Common.{◌∷◌, [], List, Contains, ap, ◌∙◌, sym, subst, length, Option, Box, Global}
use Rattle.std.proofs.lemmas.List.Elements.{All-contains}
use Rattle.atomic_table.specs.Table.{opening}
use Rattle.jh_turn.specs.Private.Rule.{HasOneHistory, opening_view}
use Rattle.jh_turn.proofs.Seating.{opens}
use Rattle.jh_turn.proofs.shared.Shared.first_seat.Goals as goal

pub new-requires : goal.new-requires
new-requires g c = let t = g.T.Turner in let slot = c.in_ok-slots.ensures.ok in
    subst (λ (xs : List (Option (Box g.row.T.Denot Global))). HasOneHistory t.whose t.origin t.serves t.history record { value = c.of.result; callers = c.in-Ok.callers } (opening (256 ∷ c.args.entries ∷ []) xs (opening_view t.history record { value = c.of.result; callers = c.in-Ok.callers })))
    (sym slot.1)
    (opens t.whose t.origin t.serves t.history record { value = c.of.result; callers = c.in-Ok.callers } c.args.entries slot.0 (slot.2 ∙ sym c.of.ensures) (c.requires.counted ∙ ap (λ x. length (t.history x)) (sym c.of.ensures))
    (λ who here. subst (λ x. t.serves (t.origin x) who) (sym c.of.ensures) (All-contains (λ who. t.serves (t.origin c.args.value) who) c.args.callers.now who c.requires.served (subst (λ l. Contains l who) c.in-Ok.ensures.items here))))

pub unboxed-requires : goal.unboxed-requires
unboxed-requires g c = let slot = c.in_ok-slots.ensures.ok in (slot.0, c.in-Err.ensures.err ∙ slot.1)
