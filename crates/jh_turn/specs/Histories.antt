-- Histories: lists of entries, each of which is one caller's.
use Rattle.std.specs.Prelude.{◌≡◌, ◌≢◌, ◌⊎◌, ℕ, ◌==◌, List, [], ◌∷◌, ◌++◌, filter, All}

-- a turn at a port: its caller, the history that the port had seen, what was answered, and the history that it has seen now
pub record PortTurn (E A : Type 0) : Type 0 where
  pub caller : ℕ
  pub seen : List E
  pub answer : A
  pub now : List E

module _ {E : Type 0} (whose : E → ℕ) where
  -- the entries of one caller, in their order
  abbrev pub entries_of : ℕ → List E → List E
  entries_of who entries = filter (λ e. whose e == who) entries

  -- a turn leaves the history, or adds one entry of the caller at its end
  abbrev pub Grows : ℕ → List E → List E → Type 0
  Grows who before after = (after ≡ before) ⊎ ((e : E) × (whose e ≡ who) × (after ≡ before ++ e ∷ []))

  -- what was made is one entry of the caller, or none
  abbrev pub IsMadeBy : ℕ → List E → Type 0
  IsMadeBy who made = (made ≡ []) ⊎ ((e : E) × (whose e ≡ who) × (made ≡ e ∷ []))

  -- A turn at a port. Just before it the history is what the port had seen, and then what others added, of which nothing
  -- is the caller's. What the port has seen now is the history just after it: one entry more, which the turn made, or none.
  pub record IsTurn {A : Type 0} (answers : ℕ → List E → List E → A → Type 0) (turn : PortTurn E A) : Type 0 where
    pub others : List E
    pub made : List E
    pub foreign : All (λ e. whose e ≢ turn.caller) others
    pub one_at_most : IsMadeBy turn.caller made
    pub after : turn.now ≡ (turn.seen ++ others) ++ made
    pub answered : answers turn.caller (turn.seen ++ others) turn.now turn.answer
    -- of the caller's own entries, what the turn made is all that is new
    pub own : entries_of turn.caller turn.now ≡ entries_of turn.caller turn.seen ++ made
