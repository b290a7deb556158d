-- Turns at several ports leave what ports they are.
use Rattle.std.proofs.Common.{◌≡◌, ℕ, List, get_or, set, All, Contains, map, sym, subst, ap, ◌∙◌}
use Rattle.std.proofs.lemmas.List.{map-set, set-get_or}
use Rattle.std.proofs.lemmas.List.Elements.{All-set}
use Rattle.jh_turn.specs.declared.turner.Turner.{Ghosts}
use Rattle.jh_turn.specs.declared.shared.Shared.{Shared}
use Rattle.jh_turn.specs.declared.shared.Port.{Port}
use Rattle.jh_turn.specs.Ports.{all_callers, port_caller, IsPortOf, AreAllPorts}
use Rattle.jh_turn.specs.PortSets.{IsSameSet}

module _ {T E A : Type 0} {G : Ghosts T E A} where
  -- after a turn at one of them
  pub same_set_at : (shared : Shared T E A) (first now : List (Port T E A G)) (i : ℕ) (p q : Port T E A G) → IsSameSet shared first now → IsPortOf shared q → port_caller q ≡ port_caller (get_or now i p)
      → IsSameSet shared first (set now i q)
  same_set_at shared first now i p q same own caller = record {
    own = All-set (IsPortOf shared) now i q own same.own;
    callers = map-set port_caller now i q ∙ (ap (set (map port_caller now) i) caller ∙ (sym (map-set port_caller now i (get_or now i p)) ∙ (ap (map port_caller) (set-get_or now i p) ∙ same.callers)));
  }

  -- all ports are all ports still
  pub all_still : (shared : Shared T E A) (before after : List (Port T E A G)) → AreAllPorts shared before → IsSameSet shared before after → AreAllPorts shared after
  all_still shared before after all same = (same.own, subst (λ callers. All (Contains callers) (all_callers shared)) (sym same.callers) all.1)
