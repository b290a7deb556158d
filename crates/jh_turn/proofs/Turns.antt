-- What a turn tells its port.
use Rattle.std.proofs.Common.{◌≡◌, ℕ, List, [], ◌∷◌, ◌++◌, Some, Box, Global, sym, subst, ap, ap₂, ◌∙◌}
use mathlib.Core.List.{IsPrefix}
use Rattle.jh_turn.specs.Histories.{entries_of, Grows, PortTurn, IsTurn}
use Rattle.jh_turn.specs.Hands.{seen_of}
use Rattle.jh_turn.specs.Private.Rule.{Slot, Seated, HasClaimed}
use Rattle.jh_turn.proofs.Prefixes.{entries_append, entries_made, foreign_rest, grown_by, grows_on, prefix_trans}
use Rattle.jh_turn.proofs.Keeps.{first_slot}

module _ {E O A : Type 0} (whose : E → ℕ) (answers : O → ℕ → List E → List E → A → Type 0) where
  pub turned : (turn : PortTurn E A) (before : List E) (origin opened : O) → IsPrefix turn.seen before → entries_of whose turn.caller before ≡ entries_of whose turn.caller turn.seen → origin ≡ opened
      → Grows whose turn.caller before turn.now → answers origin turn.caller before turn.now turn.answer → IsTurn whose (answers opened) turn
  turned turn before origin opened start own same grew told = let who = turn.caller in let g = grown_by whose who before turn.now grew in record {
    others = start.0;
    made = g.0;
    foreign = foreign_rest whose who turn.seen start.0 (ap (entries_of whose who) start.1 ∙ own);
    one_at_most = g.1;
    after = g.2 ∙ ap (λ l. l ++ g.0) (sym start.1);
    answered = subst (λ (z : O × List E). answers z.0 who z.1 turn.now turn.answer) (λ i. (same i, sym start.1 i)) told;
    own = ap (entries_of whose who) g.2 ∙ (entries_append whose who before g.0 ∙ ap₂ (λ x y. x ++ y) own (entries_made whose who g.0 g.1));
  }

-- two names of what one slot has
pub one_value : {T : Type 0} (slots : List (ℕ × Slot T)) (a b : Box T Global) → slots ≡ (0, Some a) ∷ [] → slots ≡ (0, Some b) ∷ [] → a ≡ b
one_value slots a b e f = let slot : Some a ≡ Some b = ap first_slot (sym e ∙ f) in cc slot

module _ {T E O A : Type 0} (whose : E → ℕ) (origin : T → O) (serves : O → ℕ → Type 0) (history : T → List E) (answers : O → ℕ → List E → List E → A → Type 0) where
  -- from a claim of the turn and a turn of the value in the slot
  pub told : (who : ℕ) (me claimed : Seated T E) (k : HasClaimed whose origin serves history who me claimed) (opened before after : T) (answer : A) → me.0.opened ≡ Some opened → before ≡ k.value.value
      → Grows whose who (history before) (history after) → answers (origin before) who (history before) (history after) answer
      → IsTurn whose (answers (origin opened)) (record { caller = who; seen = seen_of me.0.hands; answer = answer; now = history after })
  told who me claimed k opened before after answer from is grew says = turned whose answers (record { caller = who; seen = seen_of me.0.hands; answer = answer; now = history after }) (history before) (origin before) (origin opened)
      (subst (λ x. IsPrefix (seen_of me.0.hands) (history x)) (sym is) k.seen) (ap (λ x. entries_of whose who (history x)) is ∙ k.own) (ap origin is ∙ k.same_origin opened from) grew says

module _ {T E O : Type 0} (whose : E → ℕ) (origin : T → O) (serves : O → ℕ → Type 0) (history : T → List E) where
  -- what the port had seen begins what it sees
  pub sees_on : (who : ℕ) (me claimed : Seated T E) (k : HasClaimed whose origin serves history who me claimed) (before after : T) → before ≡ k.value.value → Grows whose who (history before) (history after)
      → IsPrefix (seen_of me.0.hands) (history after)
  sees_on who me claimed k before after is grew = prefix_trans (seen_of me.0.hands) (history before) (history after) (subst (λ x. IsPrefix (seen_of me.0.hands) (history x)) (sym is) k.seen) (grows_on whose who (history before) (history after) grew)
