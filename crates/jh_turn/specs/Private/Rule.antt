-- The rule of the lock's table, and what each step tells.
-- Word 0 is the number of the caller that holds the turn, or `free`. Word 1 is the length of the history. The slot has the
-- value, or nothing while it is out.
use Rattle.std.specs.Prelude.{◌≡◌, ◌≢◌, ◌⊎◌, ℕ, ◌<◌, Bool, true, false, List, [], ◌∷◌, ◌++◌, length, take, drop, map, Contains, Option, Some, None, Box}
use Rattle.std.specs.Global.{Global}
use mathlib.Core.Option as maybe
use mathlib.Core.List.{IsPrefix}
use lib.ListN.{get_elem?}
use Rattle.atomic_table.specs.Table.{State, Me, Step, rest}
use Rattle.jh_turn.specs.declared.rule.Hand.{Hand}
use Rattle.jh_turn.specs.declared.rule.View.{View}
use Rattle.jh_turn.specs.declared.rule.Opening.{Opening}
use Rattle.jh_turn.specs.Histories.{entries_of}
use Rattle.jh_turn.specs.Hands.{caller_of, seen_of}

-- the number that word 0 has where no caller holds the turn: callers have lower ones
abbrev pub free : ℕ
free = 256

-- what lies in the slot: the value, or nothing while it is out
abbrev pub Slot : Type 0 → Type 0
Slot T = Option (Box T Global)

-- what a seat knows, and the slots that it has
abbrev pub Seated : Type 0 → Type 0 → Type 0
Seated T E = Me (Slot T) (View T E)

-- what a seat knows of a caller: its number, and the history that it has seen
abbrev pub hand : {E : Type 0} → ℕ → List E → Hand E
hand caller seen = record { caller = caller; seen = seen }

module _ {T E : Type 0} where
  -- what a seat knows: the opened value, its hands, and whether it holds the turn
  abbrev pub view : Option T → List (Hand E) → Bool → View T E
  view opened hands holding = record { opened = opened; hands = hands; holding = holding }

  -- what the seat knows that has given its first hand away
  abbrev pub without_first : View T E → View T E
  without_first v = view v.opened (drop 1 v.hands) v.holding

  -- what the new seat knows that got the first hand alone, without the turn
  abbrev pub only_first : View T E → View T E
  only_first v = view v.opened (take 1 v.hands) false

  -- what the seat knows that has the hands of both
  abbrev pub together : View T E → View T E → View T E
  together v w = view v.opened (v.hands ++ w.hands) v.holding

  -- what the seat knows that holds the turn for this caller, which has seen this history
  abbrev pub holding_view : Option T → ℕ → List E → View T E
  holding_view opened who log = view opened (hand who log ∷ []) true

  -- what a seat knows that has no hands any more
  abbrev pub spent_view : View T E
  spent_view = view None [] false

  -- one seat holds the turn, and the value is out with it
  pub record IsHeld (log : List E) (s : State (Slot T) (View T E)) : Type 0 where
    pub seat : ℕ
    pub who : ℕ
    pub holder : View T E
    pub words : s.words ≡ who ∷ length log ∷ []
    pub taken : who < free
    pub homes : s.homes ≡ maybe.none ∷ []
    pub there : get_elem? s.views seat ≡ maybe.some holder
    pub whole : holder.hands ≡ hand who log ∷ []
    pub holds_it : holder.holding ≡ true
    pub one_holds : (j : ℕ) (v : View T E) → get_elem? s.views j ≡ maybe.some v → v.holding ≡ true → j ≡ seat

  -- the seat has the slot, with this value in it
  abbrev pub HasSlotWith : Seated T E → Box T Global → Type 0
  HasSlotWith me value = me.1 ≡ (0, Some value) ∷ []

  -- the seat gives the turn up, and the first slot that it had
  abbrev pub Releases : Seated T E → Seated T E → Type 0
  Releases before after = after ≡ (view before.0.opened before.0.hands false, rest before.1)

module _ {T E : Type 0} (history : T → List E) where
  -- the first seat has every caller's hand, which has seen the opened history
  abbrev pub opening_view : Opening T → View T E
  opening_view key = view (Some key.value.value) (map (λ who. hand who (history key.value.value)) key.callers.items) false

  -- where the seat has the slot with a value in it, it has seen the whole history of that value now, and still has the slot
  abbrev pub Notes : Seated T E → Seated T E → Type 0
  Notes before after = (value : Box T Global) → HasSlotWith before value → after ≡ (holding_view before.0.opened (caller_of before.0.hands) (history value.value), before.1)

module _ {T E O : Type 0} (origin : T → O) (history : T → List E) where
  -- no seat holds the turn, and the value is at home
  pub record IsFree (opened : T) (log : List E) (s : State (Slot T) (View T E)) : Type 0 where
    pub value : Box T Global
    pub words : s.words ≡ free ∷ length log ∷ []
    pub homes : s.homes ≡ maybe.some (Some value) ∷ []
    pub all_entries : history value.value ≡ log
    pub same_origin : origin value.value ≡ origin opened
    pub none_holds : (seat : ℕ) (v : View T E) → get_elem? s.views seat ≡ maybe.some v → v.holding ≡ false

module _ {E : Type 0} (whose : E → ℕ) where
  -- The caller is one of these, and this seat is its one seat. What it has seen is a beginning of the history, and has
  -- all entries of its own.
  pub record HandFits (callers : List ℕ) (log : List E) (owner : ℕ → ℕ) (seat : ℕ) (h : Hand E) : Type 0 where
    pub named : Contains callers h.caller
    pub one_seat : owner h.caller ≡ seat
    pub seen : IsPrefix h.seen log
    pub own : entries_of whose h.caller log ≡ entries_of whose h.caller h.seen

module _ {T E : Type 0} (whose : E → ℕ) where
  -- what the seat knows is so: the opened value, if it knows one, and each of its hands
  pub record Fits (opened : T) (callers : List ℕ) (log : List E) (owner : ℕ → ℕ) (seat : ℕ) (v : View T E) : Type 0 where
    pub same : (x : T) → v.opened ≡ Some x → x ≡ opened
    pub each_hand : (h : Hand E) → Contains v.hands h → HandFits whose callers log owner seat h

module _ {T E O : Type 0} (whose : E → ℕ) (origin : T → O) (serves : O → ℕ → Type 0) (history : T → List E) where
  -- There is one history, `log`. It begins with the opened one, and past that has entries of the callers alone.
  pub record HasOneHistory (key : Opening T) (s : State (Slot T) (View T E)) : Type 0 where
    pub log : List E
    pub owner : ℕ → ℕ
    pub begins : IsPrefix (history key.value.value) log
    pub served : (who : ℕ) → Contains key.callers.items who → serves (origin key.value.value) who
    pub no_others : (who : ℕ) → ¬ (Contains key.callers.items who) → entries_of whose who log ≡ entries_of whose who (history key.value.value)
    pub each_seat : (seat : ℕ) (v : View T E) → get_elem? s.views seat ≡ maybe.some v → Fits whose key.value.value key.callers.items log owner seat v
    pub lock : IsFree origin history key.value.value log s ⊎ IsHeld log s

  -- the turn is the seat's, which has the slot with the value in it, and has seen the value's whole history
  pub record HasClaimed (who : ℕ) (before after : Seated T E) : Type 0 where
    pub value : Box T Global
    pub has_slot : after.1 ≡ (0, Some value) ∷ before.1
    pub knows : after.0 ≡ holding_view before.0.opened who (history value.value)
    pub seen : IsPrefix (seen_of before.0.hands) (history value.value)
    pub own : entries_of whose who (history value.value) ≡ entries_of whose who (seen_of before.0.hands)
    pub serves_it : serves (origin value.value) who
    pub same_origin : (x : T) → before.0.opened ≡ Some x → origin value.value ≡ origin x

  -- the caller has the turn where the step found it free; else the seat is as before
  abbrev pub Claims : Step (Slot T) → Seated T E → ℕ → Seated T E → Type 0
  Claims step before found after = (found ≡ free → HasClaimed step.second before after) × (found ≢ free → after ≡ before)
