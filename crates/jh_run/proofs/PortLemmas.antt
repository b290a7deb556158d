-- Ports of one object, driven and given back.
use Rattle.std.proofs.Common.{◌≡◌, ℕ, ◌<◌, List, [], ◌∷◌, length, get_or, set, Contains, Option, ControlFlow, Continue, Break, subst, arith, length-set}
use Rattle.std.specs.Prelude.{IfSome}
use Rattle.std.specs.ControlFlow.{break_value}
use Rattle.std.proofs.lemmas.List.{get_or-set_same}
use Rattle.std.proofs.lemmas.List.Elements.{Contains-get_or, Contains-append_left}
use mathlib.Core.List.{IsPrefix}
use Rattle.jh_turn.specs.declared.turner.Turner.{Ghosts}
use Rattle.jh_turn.specs.declared.shared.Port.{Port}
use Rattle.jh_history.specs.declared.entry.Entry.{Entry}
use Rattle.jh_run.specs.Origins.{Origin}
use Rattle.jh_run.specs.Drives.{Shows, SomeShows}
use Rattle.jh_board.specs.declared.turn.TurnFault.{TurnFault}

-- the element that was just put into a list is in it
pub Contains_put : {X : Type 0} (xs : List X) (i : ℕ) (x : X) → i < length xs → Contains (set xs i x) x
Contains_put {X} xs i x lt = let P : X → Type 0 = λ y. Contains (set xs i x) y in subst P (get_or-set_same xs i x x lt) (Contains-get_or (set xs i x) i x (omega (arith, length-set {A = X})))

-- what is in a beginning is in the whole
begins_contains : {X : Type 0} (first all : List X) (x : X) → IsPrefix first all → Contains first x → Contains all x
begins_contains {X} first all x b h = let P : List X → Type 0 = λ xs. Contains xs x in subst P b.1 (Contains-append_left first b.0 x h)

module _ {T A : Type 0} {G : Ghosts T Entry A} where
  -- what a port has seen after its turn tells why, if anything does
  pub some_shows_at : (origin : Origin) (end : ControlFlow (Option TurnFault) (Unit {0})) (now : List (Port T Entry A G)) (i : ℕ) (q : Port T Entry A G) → i < length now → IfSome (break_value end) (λ s. Shows origin s q) → IfSome (break_value end) (λ s. SomeShows origin s (set now i q))
  some_shows_at origin (Continue go) now i q lt h = tt
  some_shows_at origin (Break s) now i q lt h = record { port = q; one = Contains_put now i q lt; shows = h }

  -- what one of the first ports has seen tells why, and that port is one of all
  pub some_shows_kept : (origin : Origin) (refused : Option TurnFault) (first all : List (Port T Entry A G)) → IsPrefix first all → SomeShows origin refused first → SomeShows origin refused all
  some_shows_kept origin refused first all begins s = record { port = s.port; one = begins_contains first all s.port begins s.one; shows = s.shows }

  -- what the one port has seen tells why
  pub some_shows_one : (origin : Origin) (refused : Option TurnFault) (ports : List (Port T Entry A G)) (d : Port T Entry A G) → length ports ≡ 1 → SomeShows origin refused ports → SomeShows origin refused (get_or ports 0 d ∷ [])
  some_shows_one origin refused [] d one s = absurd (omega arith)
  some_shows_one origin refused (x ∷ []) d one s = s
  some_shows_one origin refused (x ∷ y ∷ rest) d one s = absurd (omega arith)
