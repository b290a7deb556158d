-- The hands of all ports come together.
use Rattle.std.proofs.Common.{◌≡◌, ℕ, List, [], ◌∷◌, ◌++◌, map, All, Contains, subst, sym}
use Rattle.std.proofs.lemmas.List.Elements.{All-cons, All-nil, All-weaker, All-contains, Contains-append_left, Contains-append_right}
use Rattle.jh_num.proofs.Public.{Contains_head, Contains_from_map}
use Rattle.jh_turn.specs.declared.turner.Turner.{Ghosts}
use Rattle.jh_turn.specs.declared.shared.Port.{Port}
use Rattle.jh_turn.specs.declared.rule.Hand.{Hand}
use Rattle.jh_turn.specs.Private.Rule.{hand}
use Rattle.jh_turn.specs.Ports.{port_caller, seen_by}
use Rattle.jh_turn.specs.Private.Closing.{HasCaller, HasHands}

module _ {T E A : Type 0} {G : Ghosts T E A} where
  abbrev pub Has : List (Hand E) → Port T E A G → Type 0
  Has hands p = Contains hands (hand (port_caller p) (seen_by p))

  -- one port more
  pub hands_joined : (hands more : List (Hand E)) (p : Port T E A G) (ports : List (Port T E A G)) → more ≡ hand (port_caller p) (seen_by p) ∷ [] → HasHands hands ports → HasHands (hands ++ more) (p ∷ ports)
  hands_joined hands more p ports is has = All-cons (Has (hands ++ more)) p ports
      (Contains-append_right hands more (hand (port_caller p) (seen_by p)) (subst (λ l. Contains l (hand (port_caller p) (seen_by p))) (sym is) (Contains_head (hand (port_caller p) (seen_by p)) [])))
      (All-weaker (Has hands) (Has (hands ++ more)) (λ q c. Contains-append_left hands more (hand (port_caller q) (seen_by q)) c) ports has)

  -- the first port
  pub one_joined : (hands : List (Hand E)) (p : Port T E A G) → hands ≡ hand (port_caller p) (seen_by p) ∷ [] → HasHands hands (p ∷ [])
  one_joined hands p is = All-cons (Has hands) p [] (subst (λ l. Contains l (hand (port_caller p) (seen_by p))) (sym is) (Contains_head (hand (port_caller p) (seen_by p)) [])) (All-nil (Has hands))

  -- where the ports have all callers, so have their hands
  pub callers_joined : (hands : List (Hand E)) (ports : List (Port T E A G)) (callers : List ℕ) → HasHands hands ports → All (Contains (map port_caller ports)) callers → All (HasCaller hands) callers
  callers_joined hands ports callers has all = All-weaker (Contains (map port_caller ports)) (HasCaller hands)
      (λ who c. let m = Contains_from_map port_caller ports who c in (hand (port_caller m.0) (seen_by m.0), All-contains (Has hands) ports m.0 has m.1, m.2)) callers all
