-- The rule holds over the note and the release, as the value is in the slot before both.
use Rattle.std.proofs.Common.{rules, Some, ap, ◌∙◌, ◌∷◌}
use Rattle.atomic_table.specs.Table.{rest}
use Rattle.jh_turn.specs.Hands.{caller_of}
use Rattle.jh_turn.specs.Private.Rule.{hand}
use Rattle.jh_turn.proofs.Keeps.{note_keeps, release_keeps}
use Rattle.jh_turn.proofs.shared.Shared.put_back.Goals as goal

pub store-requires : goal.store-requires
store-requires g c = let t = g.T.Turner in let now = c.exchange.ensures.3 in let has = ap (λ m. m.1) now ∙ ap (λ l. (0, Some c.args.value) ∷ l) (ap rest c.requires.work.taken) in (
  search rules,
  search rules,
  note_keeps t.whose t.origin t.serves t.history c.args.self.now.table.shared.key _ _ c.args.caller c.args.entries c.exchange.new.seat.me _ c.args.value (ap (λ m. m.0.hands) now ∙ c.requires.work.one_hand) (ap (λ m. m.0.holding) now ∙ c.requires.work.holds)
      has c.requires.grown.grown c.requires.counted,
)

pub store-requires-2 : goal.store-requires-2
store-requires-2 g c = let t = g.T.Turner in let now = c.exchange.ensures.3 in let has = ap (λ m. m.1) now ∙ ap (λ l. (0, Some c.args.value) ∷ l) (ap rest c.requires.work.taken) in
    let noted = c.store.ensures.2 c.args.value has in let who = ap caller_of (ap (λ m. m.0.hands) now ∙ c.requires.work.one_hand) in (
      search rules,
      search rules,
      release_keeps t.whose t.origin t.serves t.history c.args.self.now.table.shared.key _ _ c.args.caller c.store.new.seat.me c.args.value c.requires.grown.first (ap (λ m. m.0.hands) noted ∙ ap (λ w. hand w (t.history c.args.value.value) ∷ _) who) (ap (λ m. m.0.holding) noted)
          (ap (λ m. m.1) noted ∙ has) (ap (λ m. m.0.opened) noted ∙ (ap (λ m. m.0.opened) now ∙ c.requires.grown.from)) c.requires.grown.same_origin,
    )
