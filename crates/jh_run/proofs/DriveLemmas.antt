-- Turns of ports, one after another.
use Rattle.std.proofs.Common.{◌≡◌, ℕ, zero, suc, List, [], ◌∷◌, ◌++◌, get_or, set, Result, Ok, Err, refl, sym, ap, subst, ◌∙◌, append_assoc}
use Rattle.std.specs.List.{flat_map}
use Rattle.std.proofs.lemmas.List.{append-nil, append_cancel_left}
use Rattle.std.proofs.lemmas.Grind.{flat_map-append}
use mathlib.Core.List.{IsPrefix}
use Rattle.jh_turn.specs.declared.turner.Turner.{Ghosts}
use Rattle.jh_turn.specs.declared.shared.Port.{Port}
use Rattle.jh_turn.specs.Histories.{entries_of, IsTurn}
use Rattle.jh_turn.specs.Ports.{port_caller, seen_by}
use Rattle.jh_history.specs.declared.entry.Entry.{Entry}
use Rattle.jh_board.specs.declared.turn.Turn.{Turn}
use Rattle.jh_board.specs.declared.turn.Turn.TheVariants.{Made, Edited, NotNow, Done}
use Rattle.jh_board.specs.declared.turn.TurnFault.{TurnFault}
use Rattle.jh_board.specs.declared.turn.TurnFault.TheVariants.{Full, NoMemory}
use Rattle.jh_run.specs.Origins.{Origin}
use Rattle.jh_run.specs.Running.{whose_entry, IsTurnAnswer}
use Rattle.jh_run.specs.Drives.{made_by, AreTurns, no_turn, one_more_turn, TookTurns, AllTookTurns}

-- ---- what a turn makes

-- what stands behind the entries just before the turn, where nothing does
none_made : (before after made : List Entry) → after ≡ before → after ≡ before ++ made → made ≡ []
none_made before after made same is = append_cancel_left before made [] (sym is ∙ same ∙ sym (append-nil before))

made_is : (origin : Origin) (caller : ℕ) (before after made : List Entry) (answer : Result Turn TurnFault) → IsTurnAnswer origin caller before after answer → after ≡ before ++ made → made ≡ made_by answer
made_is origin caller before after made (Ok (Made entry)) h is = append_cancel_left before made (entry ∷ []) (sym is ∙ h.2)
made_is origin caller before after made (Ok (Edited left)) h is = absurd h
made_is origin caller before after made (Ok (NotNow other)) h is = none_made before after made h.2 is
made_is origin caller before after made (Ok Done) h is = none_made before after made h.1 is
made_is origin caller before after made (Err Full) h is = none_made before after made h.1 is
made_is origin caller before after made (Err NoMemory) h is = none_made before after made h is

module _ (origin : Origin) (caller : ℕ) where
  abbrev own : List Entry → List Entry
  own entries = entries_of whose_entry caller entries

  abbrev IsTurnOf : List Entry → Result Turn TurnFault → List Entry → Type 0
  IsTurnOf seen answer now = IsTurn whose_entry (IsTurnAnswer origin) (record { caller = caller; seen = seen; answer = answer; now = now })

  one_own : (seen now : List Entry) (answer : Result Turn TurnFault) → IsTurnOf seen answer now → own now ≡ own seen ++ made_by answer
  one_own seen now answer turn = turn.own ∙ ap (λ made. own seen ++ made) (made_is origin caller (seen ++ turn.others) now turn.made answer turn.answered turn.after)

  front_behind : (first seen now : List Entry) (answer : Result Turn TurnFault) → IsPrefix first seen → IsTurnOf seen answer now → IsPrefix first now
  front_behind first seen now answer front turn =
      let rest = front.0 ++ (turn.others ++ turn.made) in
      let whole : first ++ rest ≡ now =
      sym (append_assoc first front.0 (turn.others ++ turn.made)) ∙ ap (λ xs. xs ++ (turn.others ++ turn.made)) front.1 ∙ sym (append_assoc seen turn.others turn.made) ∙ sym turn.after in
      (rest, whole)

  -- ---- turns one after another

  turns_front : (seen now : List Entry) (answers : List (Result Turn TurnFault)) → AreTurns origin caller seen answers now → IsPrefix seen now
  turns_front seen now answers (no_turn es) = ([], append-nil es)
  turns_front seen now answers (one_more_turn es between last more answer turns turn) = front_behind es between last answer (turns_front es between more turns) turn

  turns_own : (seen now : List Entry) (answers : List (Result Turn TurnFault)) → AreTurns origin caller seen answers now → own now ≡ own seen ++ flat_map made_by answers
  turns_own seen now answers (no_turn es) = sym (append-nil (own es))
  turns_own seen now answers (one_more_turn es between last more answer turns turn) =
      let made = flat_map made_by more in
      one_own between last answer turn ∙ ap (λ xs. xs ++ made_by answer) (turns_own es between more turns) ∙ append_assoc (own es) made (made_by answer)
      ∙ ap (λ xs. own es ++ (made ++ xs)) (sym (append-nil (made_by answer))) ∙ ap (λ xs. own es ++ xs) (sym (flat_map-append made_by more (answer ∷ [])))

  turns_both : (seen between now : List Entry) (first next : List (Result Turn TurnFault)) → AreTurns origin caller seen first between → AreTurns origin caller between next now → AreTurns origin caller seen (first ++ next) now
  turns_both seen between now first next turns (no_turn es) = subst (λ answers. AreTurns origin caller seen answers es) (sym (append-nil first)) turns
  turns_both seen between now first next turns (one_more_turn es mid last more answer rest turn) =
      subst (λ answers. AreTurns origin caller seen answers last) (append_assoc first more (answer ∷ []))
      (one_more_turn seen mid last (first ++ more) answer (turns_both seen es mid first more turns rest) turn)

-- ---- ports

module _ {T A : Type 0} {G : Ghosts T Entry A} (origin : Origin) where
  took : (before after : Port T Entry A G) (answers : List (Result Turn TurnFault)) → port_caller after ≡ port_caller before → AreTurns origin (port_caller before) (seen_by before) answers (seen_by after) → TookTurns origin before after
  took before after answers caller turns = record {
    caller = caller;
    answers = answers;
    turns = turns;
    front = turns_front origin (port_caller before) (seen_by before) (seen_by after) answers turns;
    own = turns_own origin (port_caller before) (seen_by before) (seen_by after) answers turns;
  }

  took_none : (port : Port T Entry A G) → TookTurns origin port port
  took_none port = took port port [] refl (no_turn (seen_by port))

  -- one turn
  pub took_one : (before after : Port T Entry A G) (answer : Result Turn TurnFault) → port_caller after ≡ port_caller before
      → IsTurn whose_entry (IsTurnAnswer origin) (record { caller = port_caller before; seen = seen_by before; answer = answer; now = seen_by after }) → TookTurns origin before after
  took_one before after answer caller turn =
      took before after (answer ∷ []) caller (one_more_turn (seen_by before) (seen_by before) (seen_by after) [] answer (no_turn (seen_by before)) turn)

  -- turns, and turns behind them
  took_both : (before between after : Port T Entry A G) → TookTurns origin before between → TookTurns origin between after → TookTurns origin before after
  took_both before between after first next =
      let turns = subst (λ caller. AreTurns origin caller (seen_by between) next.answers (seen_by after)) first.caller next.turns in
      took before after (first.answers ++ next.answers) (next.caller ∙ first.caller) (turns_both origin (port_caller before) (seen_by before) (seen_by between) (seen_by after) first.answers next.answers first.turns turns)

  -- no port has taken a turn yet
  pub all_took_none : (ports : List (Port T Entry A G)) → AllTookTurns origin ports ports
  all_took_none [] = tt
  all_took_none (port ∷ ports) = (took_none port, all_took_none ports)

  -- one of the ports took turns more
  pub all_took_more : (first now : List (Port T Entry A G)) (i : ℕ) (p q : Port T Entry A G) → AllTookTurns origin first now → TookTurns origin (get_or now i p) q → AllTookTurns origin first (set now i q)
  all_took_more [] [] i p q all more = tt
  all_took_more [] (n ∷ ns) i p q all more = absurd all
  all_took_more (f ∷ fs) [] i p q all more = absurd all
  all_took_more (f ∷ fs) (n ∷ ns) zero p q all more = (took_both f n q all.0 more, all.1)
  all_took_more (f ∷ fs) (n ∷ ns) (suc i) p q all more = (all.0, all_took_more fs ns i p q all.1 more)

  pub all_took_both : (first now last : List (Port T Entry A G)) → AllTookTurns origin first now → AllTookTurns origin now last → AllTookTurns origin first last
  all_took_both [] [] [] one next = tt
  all_took_both [] [] (t ∷ ts) one next = absurd next
  all_took_both [] (n ∷ ns) last one next = absurd one
  all_took_both (f ∷ fs) [] last one next = absurd one
  all_took_both (f ∷ fs) (n ∷ ns) [] one next = absurd next
  all_took_both (f ∷ fs) (n ∷ ns) (t ∷ ts) one next = (took_both f n t one.0 next.0, all_took_both fs ns ts one.1 next.1)
