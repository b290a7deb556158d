-- The seat has the one slot with the value in it, so the slot may be exchanged.
use Rattle.std.proofs.Common.{Some, ap, ◌∙◌, ◌∷◌, sym}
use Rattle.atomic_table.specs.Table.{rest}
use Rattle.jh_turn.proofs.shared.Shared.take.Goals as goal

pub exchange-requires : goal.exchange-requires
exchange-requires g c = let has = c.requires.there.1 in (c.requires.own, (Some c.requires.there.0, has ∙ ap (λ l. (0, Some c.requires.there.0) ∷ l) (sym (ap rest has))))
