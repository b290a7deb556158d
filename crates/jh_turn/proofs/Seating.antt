-- Making seats, and joining them, keep the lock's rule.
use Rattle.std.proofs.Common.{◌≡◌, ◌≢◌, ℕ, eqb, Bool, true, false, cond, List, [], ◌∷◌, length, set, take, drop, Contains, Some, Box, Global, refl, ap, sym, subst, ◌∙◌, inl, inr, ⊎_elim, true≢false, eq-eqb, ne_eqb}
use Rattle.std.proofs.lemmas.List.Elements.{Contains-append_cases}
use mathlib.Core.Option as maybe
use mathlib.Core.List.{IsPrefix}
use lib.ListN.{get_elem?}
use Rattle.jh_num.proofs.Public.{Contains_head, Contains_tail, Contains_from_map}
use Rattle.atomic_table.specs.Table.{State, opening, Splits, Joins, Final, Seen}
use Rattle.atomic_table.proofs.Lists.{set_else, at_longer}
use Rattle.jh_turn.specs.declared.rule.Hand.{Hand}
use Rattle.jh_turn.specs.declared.rule.View.{View}
use Rattle.jh_turn.specs.declared.rule.Opening.{Opening}
use Rattle.jh_turn.specs.Private.Closing.{HasCaller, IsLast}
use Rattle.jh_turn.specs.Histories.{entries_of}
use Rattle.jh_turn.specs.Private.Rule.{free, Slot, without_first, only_first, together, spent_view, opening_view, HandFits, Fits, HasOneHistory, hand}
use Rattle.jh_turn.proofs.Prefixes.{prefix_self}
use Rattle.jh_turn.proofs.Seats.{seats_stay, seats_and_one, only_seat, contains_one, contains_none}
use Rattle.jh_turn.proofs.Keeps.{hand_fits, not_holder}

module _ {T E O : Type 0} (whose : E → ℕ) (origin : T → O) (serves : O → ℕ → Type 0) (history : T → List E) (key : Opening T) where
  abbrev V : Type 0
  V = View T E

  abbrev St : Type 0
  St = State (Slot T) V

  abbrev Rule : St → Type 0
  Rule = HasOneHistory whose origin serves history key

  abbrev Fit : List E → (ℕ → ℕ) → ℕ → V → Type 0
  Fit = Fits whose key.value.value key.callers.items

  -- the first hand gets a seat of its own
  pub split_keeps : (id : ℕ) (v : V) (h : Hand E) (hs : List (Hand E)) → v.hands ≡ h ∷ hs → ((g : Hand E) → Contains hs g → g.caller ≢ h.caller) → v.holding ≡ false → Splits Rule id v (without_first v) (only_first v)
  split_keeps id v h hs is apart waits s r at =
      let left : V = without_first v in
      let right : V = only_first v in
      let n : ℕ = length (set s.views id left) in
      let owner : ℕ → ℕ = λ c. cond (eqb c h.caller) n (r.owner c) in
      let old = r.each_seat id v at in
      let given = old.each_hand h (subst (λ l. Contains l h) (sym is) (Contains_head h hs)) in
      let stays = λ (c : ℕ) (other : c ≢ h.caller). ap (λ (b : Bool). cond b n (r.owner c)) (ne_eqb c h.caller other) in
      let moves : owner h.caller ≡ n = ap (λ (b : Bool). cond b n (r.owner h.caller)) (eq-eqb h.caller h.caller refl) in
      let keeps_hand = λ (j : ℕ) (g : Hand E) (fits : HandFits whose key.callers.items r.log r.owner j g) (other : g.caller ≢ h.caller). let f : HandFits whose key.callers.items r.log owner j g = record { named = fits.named; one_seat = stays g.caller other ∙ fits.one_seat; seen = fits.seen; own = fits.own } in f in
      let new : HandFits whose key.callers.items r.log owner n h = record { named = given.named; one_seat = moves; seen = given.seen; own = given.own } in
      let left_fits : Fit r.log owner id left = record {
        same = old.same;
        each_hand = λ g c. let there : Contains hs g = subst (λ l. Contains l g) (ap (drop 1) is) c in
            keeps_hand id g (old.each_hand g (subst (λ l. Contains l g) (sym is) (Contains_tail h hs g there))) (apart g there);
      } in
      let right_fits : Fit r.log owner n right = record {
        same = old.same;
        each_hand = λ g c. subst (HandFits whose key.callers.items r.log owner n) (sym (contains_one h g (subst (λ l. Contains l g) (ap (take 1) is) c))) new;
      } in record {
        log = r.log;
        owner = owner;
        begins = r.begins;
        served = r.served;
        no_others = r.no_others;
        each_seat = seats_and_one (Fit r.log owner) s.views id left right left_fits
            (λ j w other e. record {
              same = (r.each_seat j w e).same;
              each_hand = λ g c. let fits = (r.each_seat j w e).each_hand g c in keeps_hand j g fits (λ same. other (sym fits.one_seat ∙ (ap r.owner same ∙ given.one_seat)));
            }) right_fits;
        lock = ⊎_elim
            (λ f. inl record {
              value = f.value;
              words = f.words;
              homes = f.homes;
              all_entries = f.all_entries;
              same_origin = f.same_origin;
              none_holds = seats_and_one (λ j (w : V). w.holding ≡ false) s.views id left right waits (λ j w _ e. f.none_holds j w e) refl;
            })
            (λ k. inr record {
              seat = k.seat;
              who = k.who;
              holder = k.holder;
              words = k.words;
              taken = k.taken;
              homes = k.homes;
              there = at_longer (set s.views id left) (right ∷ []) k.seat k.holder (set_else s.views id k.seat left (not_holder whose origin serves history key s r.log k id v at waits) ∙ k.there);
              whole = k.whole;
              holds_it = k.holds_it;
              one_holds = seats_and_one (λ j (w : V). w.holding ≡ true → j ≡ k.seat) s.views id left right (λ held. absurd (true≢false (sym held ∙ waits))) (λ j w _ e. k.one_holds j w e) (λ held. absurd (true≢false (sym held)));
            })
            r.lock;
      }

  -- one seat takes in the hands of another, which is spent
  pub join_keeps : (id other : ℕ) (v w : V) → v.holding ≡ false → w.holding ≡ false → Joins Rule id v other w (together v w) spent_view
  join_keeps id other v w waits waits' s r at apart at' =
      let both : V = together v w in
      let there : get_elem? s.views other ≡ maybe.some w = sym (set_else s.views id other both apart) ∙ at' in
      let owner : ℕ → ℕ = λ c. cond (eqb (r.owner c) other) id (r.owner c) in
      let stays = λ (c : ℕ) (not : r.owner c ≢ other). ap (λ (b : Bool). cond b id (r.owner c)) (ne_eqb (r.owner c) other not) in
      let moves = λ (c : ℕ) (was : r.owner c ≡ other). ap (λ (b : Bool). cond b id (r.owner c)) (eq-eqb (r.owner c) other was) in
      let first = r.each_seat id v at in
      let second = r.each_seat other w there in
      let keeps_hand = λ (j : ℕ) (g : Hand E) (fits : HandFits whose key.callers.items r.log r.owner j g) (not : j ≢ other).
      let f : HandFits whose key.callers.items r.log owner j g = record { named = fits.named; one_seat = stays g.caller (λ e. not (sym fits.one_seat ∙ e)) ∙ fits.one_seat; seen = fits.seen; own = fits.own } in f in
      let moves_hand = λ (g : Hand E) (fits : HandFits whose key.callers.items r.log r.owner other g).
      let f : HandFits whose key.callers.items r.log owner id g = record { named = fits.named; one_seat = moves g.caller fits.one_seat; seen = fits.seen; own = fits.own } in f in
      let both_fits : Fit r.log owner id both = record {
        same = first.same;
        each_hand = λ g c. ⊎_elim (λ l. keeps_hand id g (first.each_hand g l) (λ e. apart (sym e))) (λ l. moves_hand g (second.each_hand g l)) (Contains-append_cases v.hands w.hands g c);
      } in
      let spent_fits : Fit r.log owner other spent_view = record { same = λ x e. absurd (cc e); each_hand = λ g c. absurd (contains_none g c) } in
      let vs : List V = set s.views id both in record {
        log = r.log;
        owner = owner;
        begins = r.begins;
        served = r.served;
        no_others = r.no_others;
        each_seat = seats_stay (Fit r.log owner) vs other spent_view spent_fits
            (λ j u not e. seats_stay (λ (j : ℕ) (u : V). j ≢ other → Fit r.log owner j u) s.views id both (λ _. both_fits)
            (λ i u _ e not. record { same = (r.each_seat i u e).same; each_hand = λ g c. keeps_hand i g ((r.each_seat i u e).each_hand g c) not }) j u e not);
        lock = ⊎_elim
            (λ f. inl record {
              value = f.value;
              words = f.words;
              homes = f.homes;
              all_entries = f.all_entries;
              same_origin = f.same_origin;
              none_holds = seats_stay (λ j (u : V). u.holding ≡ false) vs other spent_view refl (λ j u _ e. seats_stay (λ j (u : V). u.holding ≡ false) s.views id both waits (λ j u _ e. f.none_holds j u e) j u e);
            })
            (λ k. inr record {
              seat = k.seat;
              who = k.who;
              holder = k.holder;
              words = k.words;
              taken = k.taken;
              homes = k.homes;
              there = set_else vs other k.seat spent_view (not_holder whose origin serves history key s r.log k other w there waits')
                  ∙ (set_else s.views id k.seat both (not_holder whose origin serves history key s r.log k id v at waits) ∙ k.there);
              whole = k.whole;
              holds_it = k.holds_it;
              one_holds = seats_stay (λ j (u : V). u.holding ≡ true → j ≡ k.seat) vs other spent_view (λ held. absurd (true≢false (sym held)))
                  (λ j u _ e. seats_stay (λ j (u : V). u.holding ≡ true → j ≡ k.seat) s.views id both (λ held. absurd (true≢false (sym held ∙ waits))) (λ j u _ e. k.one_holds j u e) j u e);
            })
            r.lock;
      }

  -- the table at the start
  pub opens : (count : ℕ) (value : Box T Global) → value.value ≡ key.value.value → count ≡ length (history key.value.value) → ((who : ℕ) → Contains key.callers.items who → serves (origin key.value.value) who)
      → Rule (opening (free ∷ count ∷ []) (Some value ∷ []) (opening_view history key))
  opens count value same long served =
      let log : List E = history key.value.value in
      let fits : Fit log (λ _. 0) 0 (opening_view history key) = record {
        same = λ x e. cc e;
        each_hand = λ g c. let m = Contains_from_map (λ who. hand who log) key.callers.items g c in
            let mine : HandFits whose key.callers.items log (λ _. 0) 0 (hand m.0 log) = record { named = m.1; one_seat = refl; seen = prefix_self log; own = refl } in subst (HandFits whose key.callers.items log (λ _. 0) 0) m.2 mine;
      } in record {
        log = log;
        owner = λ _. 0;
        begins = prefix_self log;
        served = served;
        no_others = λ _ _. refl;
        each_seat = only_seat (Fit log (λ _. 0)) (opening_view history key) fits;
        lock = inl record {
          value = value;
          words = ap (λ (z : ℕ). free ∷ z ∷ []) long;
          homes = refl;
          all_entries = ap history same;
          same_origin = ap origin same;
          none_holds = only_seat (λ j (v : V). v.holding ≡ false) (opening_view history key) refl;
        };
      }

  -- the table at the end, where one seat that waits has the hands of all callers
  pub closes : (ws : List ℕ) (xs : List (Slot T)) (id : ℕ) (v : V) → v.holding ≡ false → ((who : ℕ) → Contains key.callers.items who → HasCaller v.hands who) → Final (Seen Rule id v) ws xs
      → (value : Box T Global) × (get_elem? xs 0 ≡ maybe.some (Some value)) × IsLast whose origin history key.value.value key.callers.items v.hands value.value
  closes ws xs id v waits all last =
      let s : St = last.0 in
      let r : Rule s = last.1.0 in
      let at : get_elem? s.views id ≡ maybe.some v = last.1.1 in
      let fits = r.each_seat id v at in
      let log : List E = r.log in
      ⊎_elim
      (λ f. let same : history f.value.value ≡ log = f.all_entries in (
        f.value,
        last.4 0 (Some f.value) (ap (λ hs. get_elem? hs 0) f.homes),
        record {
          same_origin = f.same_origin;
          begins = subst (λ l. IsPrefix (history key.value.value) l) (sym same) r.begins;
          seen = λ h c. subst (λ l. IsPrefix h.seen l) (sym same) (fits.each_hand h c).seen;
          own = λ h c. ap (entries_of whose h.caller) same ∙ (fits.each_hand h c).own;
          no_others = λ who stranger. ap (entries_of whose who) same ∙ r.no_others who stranger;
        },
      ))
      (λ k. let theirs = hand_fits whose origin serves history key s r k.seat k.holder k.who log k.there k.whole in
      let mine = all k.who theirs.named in
      let one : k.seat ≡ id = sym theirs.one_seat ∙ (ap r.owner (sym mine.2) ∙ (fits.each_hand mine.0 mine.1).one_seat) in
      absurd (not_holder whose origin serves history key s log k id v at waits one))
      r.lock
