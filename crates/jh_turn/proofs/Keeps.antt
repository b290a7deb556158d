-- The steps of a turn keep the lock's rule.
use Rattle.std.proofs.Common.{◌≡◌, ◌≢◌, ℕ, ◌<◌, eqb, Bool, true, false, List, [], ◌∷◌, length, get_or, set, Contains, Option, Some, None, Box, Global, refl, ap, sym, subst, ◌∙◌, inl, inr, ⊎_elim, true≢false, arith, ne_eqb}
use Rattle.std.proofs.lemmas.Bool.{false_from_ne_true}
use mathlib.Core.Option as maybe
use mathlib.Core.List.{IsPrefix}
use lib.ListN.{get_elem?}
use lib.Seq.{set-get_or}
use prog.Atomic.{either}
use Rattle.jh_num.proofs.Public.{Contains_head}
use Rattle.atomic_table.specs.Table.{State, step, keeps, takes, gives, stepped, put_back, Allows}
use Rattle.atomic_table.proofs.Lists.{set_here, set_again}
use Rattle.jh_turn.specs.declared.rule.Hand.{Hand}
use Rattle.jh_turn.specs.declared.rule.View.{View}
use Rattle.jh_turn.specs.declared.rule.Opening.{Opening}
use Rattle.jh_turn.specs.Hands.{caller_of, seen_of}
use Rattle.jh_turn.specs.Histories.{entries_of, Grows}
use Rattle.jh_turn.specs.Private.Rule.{free, Slot, Seated, hand, view, HandFits, Fits, IsFree, IsHeld, HasOneHistory, Claims, Notes, Releases}
use Rattle.jh_turn.proofs.Prefixes.{prefix_self, prefix_trans, others_stay, grows_on}
use Rattle.jh_turn.proofs.Seats.{inside, seats_stay, one_there, contains_one}

-- what lies in the slot that was taken last
abbrev pub first_slot : {T : Type 0} → List (ℕ × Slot T) → Slot T
first_slot [] = None
first_slot (x ∷ xs) = x.1

module _ {T E O : Type 0} (whose : E → ℕ) (origin : T → O) (serves : O → ℕ → Type 0) (history : T → List E) where
  abbrev V : Type 0
  V = View T E

  abbrev St : Type 0
  St = State (Slot T) V

  abbrev M : Type 0
  M = Seated T E

  module _ (key : Opening T) where
    abbrev Rule : St → Type 0
    Rule = HasOneHistory whose origin serves history key

    abbrev Fit : List E → (ℕ → ℕ) → ℕ → V → Type 0
    Fit = Fits whose key.value.value key.callers.items

    -- what the rule says of the one hand of a seat
    pub hand_fits : (s : St) (r : Rule s) (id : ℕ) (v : V) (who : ℕ) (seen : List E) → get_elem? s.views id ≡ maybe.some v → v.hands ≡ hand who seen ∷ []
        → HandFits whose key.callers.items r.log r.owner id (hand who seen)
    hand_fits s r id v who seen at is = (r.each_seat id v at).each_hand (hand who seen) (subst (λ hs. Contains hs (hand who seen)) (sym is) (Contains_head (hand who seen) []))

    -- a seat with one hand fits where the hand does
    one_fits : (log : List E) (owner : ℕ → ℕ) (id : ℕ) (opened : Option T) (h : Hand E) (holding : Bool) → ((x : T) → opened ≡ Some x → x ≡ key.value.value)
        → HandFits whose key.callers.items log owner id h → Fit log owner id (view opened (h ∷ []) holding)
    one_fits log owner id opened h holding same fits = record { same = same; each_hand = λ g c. subst (HandFits whose key.callers.items log owner id) (sym (contains_one h g c)) fits }

    -- a claim that finds the value at home takes the turn
    takes_it : (s : St) (r : Rule s) (f : IsFree origin history key.value.value r.log s) (n id who : ℕ) (me : M) (seen : List E) → me.0.hands ≡ hand who seen ∷ [] → who < free → get_elem? s.views id ≡ maybe.some me.0
        → Rule (stepped s 0 (either (eqb (get_or s.words 0 0) free) who (get_or s.words 0 0)) id me.1 (view me.0.opened (hand who (history f.value.value) ∷ []) true) (takes 0 (Some f.value)))
    takes_it s r f n id who me seen is small at =
        let w : V = view me.0.opened (hand who (history f.value.value) ∷ []) true in
        let fits = hand_fits s r id me.0 who seen at is in
        let found : get_or s.words 0 0 ≡ free = ap (λ (ws : List ℕ). get_or ws 0 0) f.words in
        let mine : HandFits whose key.callers.items r.log r.owner id (hand who (history f.value.value)) = record {
          named = fits.named;
          one_seat = fits.one_seat;
          seen = subst (λ l. IsPrefix l r.log) (sym f.all_entries) (prefix_self r.log);
          own = ap (entries_of whose who) (sym f.all_entries);
        } in record {
          log = r.log;
          owner = r.owner;
          begins = r.begins;
          served = r.served;
          no_others = r.no_others;
          each_seat = seats_stay (Fit r.log r.owner) s.views id w (one_fits r.log r.owner id me.0.opened (hand who (history f.value.value)) true (r.each_seat id me.0 at).same mine) (λ j v _ e. r.each_seat j v e);
          lock = inr record {
            seat = id;
            who = who;
            holder = w;
            words = λ i. set (f.words i) 0 (either (eqb (found i) free) who (found i));
            taken = small;
            homes = ap (λ hs. set hs 0 maybe.none) f.homes;
            there = set_here s.views id w (inside s.views id me.0 at);
            whole = ap (λ l. hand who l ∷ []) f.all_entries;
            holds_it = refl;
            one_holds = seats_stay (λ j (v : V). v.holding ≡ true → j ≡ id) s.views id w (λ _. refl) (λ j v _ e holds. absurd (true≢false (sym holds ∙ f.none_holds j v e)));
          };
        }

    pub claim_keeps : (n id who : ℕ) (me : M) (seen : List E) → me.0.hands ≡ hand who seen ∷ [] → who < free
        → Allows Rule n id me 0 (λ x. either (eqb x free) who x) (Claims whose origin serves history (step n 0 free who maybe.none) me)
    claim_keeps n id who me seen is small s r wide at little = ⊎_elim
        (λ f. let fits = hand_fits s r id me.0 who seen at is in let found : get_or s.words 0 0 ≡ free = ap (λ (ws : List ℕ). get_or ws 0 0) f.words in let front : seen_of me.0.hands ≡ seen = ap seen_of is in (
          view me.0.opened (hand who (history f.value.value) ∷ []) true,
          takes 0 (Some f.value),
          ap (λ hs. get_elem? hs 0) f.homes,
          takes_it s r f n id who me seen is small at,
          (
            (λ _. record {
              value = f.value;
              has_slot = refl;
              knows = refl;
              seen = subst (λ (z : List E × List E). IsPrefix z.0 z.1) (λ i. (sym front i, sym f.all_entries i)) fits.seen;
              own = ap (entries_of whose who) f.all_entries ∙ (fits.own ∙ ap (entries_of whose who) (sym front));
              serves_it = subst (λ o. serves o who) (sym f.same_origin) (r.served who fits.named);
              same_origin = λ x e. f.same_origin ∙ ap origin (sym ((r.each_seat id me.0 at).same x e));
            }),
            λ missed. absurd (missed found),
          ),
        ))
        (λ h. let found : get_or s.words 0 0 ≡ h.who = ap (λ (ws : List ℕ). get_or ws 0 0) h.words in let taken : h.who < free = h.taken in let apart : get_or s.words 0 0 ≢ free = λ e. omega arith in (
          me.0,
          keeps,
          tt,
          subst (λ (z : List ℕ × List V). Rule record { words = z.0; homes = s.homes; views = z.1 })
              (λ i. (sym (ap (λ (b : Bool). set s.words 0 (either b who (get_or s.words 0 0))) (ne_eqb (get_or s.words 0 0) free apart) ∙ set-get_or s.words 0 0) i, sym (set_again s.views id me.0 at) i)) r,
          ((λ hit. absurd (apart hit)), λ _. refl),
        ))
        r.lock

    -- the holder of the turn is the seat that is told so
    holder_is : (s : St) (log : List E) (h : IsHeld log s) (id : ℕ) (v : V) → get_elem? s.views id ≡ maybe.some v → v.holding ≡ true → (h.seat ≡ id) × (h.holder ≡ v)
    holder_is s log h id v at holds = let here : id ≡ h.seat = h.one_holds id v at holds in
        (sym here, one_there s.views id h.holder v (subst (λ (z : ℕ). get_elem? s.views z ≡ maybe.some h.holder) (sym here) h.there) at)

    -- a view that does not hold the turn is not the holder's
    pub not_holder : (s : St) (log : List E) (h : IsHeld log s) (id : ℕ) (v : V) → get_elem? s.views id ≡ maybe.some v → v.holding ≡ false → h.seat ≢ id
    not_holder s log h id v at waits same = let one : h.holder ≡ v = one_there s.views id h.holder v (subst (λ (z : ℕ). get_elem? s.views z ≡ maybe.some h.holder) same h.there) at in
        true≢false (sym h.holds_it ∙ (ap (λ (w : V). w.holding) one ∙ waits))

    -- the length is noted after a turn, and what the holder has seen becomes the whole history
    noted : (s : St) (r : Rule s) (h : IsHeld r.log s) (id who k : ℕ) (me : M) (seen : List E) (value : Box T Global) → me.0.hands ≡ hand who seen ∷ [] → me.0.holding ≡ true → Grows whose who seen (history value.value)
        → k ≡ length (history value.value) → get_elem? s.views id ≡ maybe.some me.0 → Rule (stepped s 1 k id me.1 (view me.0.opened (hand who (history value.value) ∷ []) true) keeps)
    noted s r h id who k me seen value is holds grew long at =
        let here = holder_is s r.log h id me.0 at holds in
        let one : hand h.who r.log ∷ [] ≡ hand who seen ∷ [] = sym h.whole ∙ (ap (λ (v : V). v.hands) here.1 ∙ is) in
        let whole : seen ≡ r.log = sym (ap seen_of one) in
        let log : List E = history value.value in
        let grown : Grows whose who r.log log = subst (λ l. Grows whose who l log) whole grew in
        let on : IsPrefix r.log log = grows_on whose who r.log log grown in
        let fits = hand_fits s r id me.0 who seen at is in
        let w : V = view me.0.opened (hand who log ∷ []) true in
        let mine : HandFits whose key.callers.items log r.owner id (hand who log) = record { named = fits.named; one_seat = fits.one_seat; seen = prefix_self log; own = refl } in record {
          log = log;
          owner = r.owner;
          begins = prefix_trans (history key.value.value) r.log log r.begins on;
          served = r.served;
          no_others = λ c stranger. others_stay whose who c r.log log (λ same. stranger (subst (Contains key.callers.items) (sym same) fits.named)) grown ∙ r.no_others c stranger;
          each_seat = seats_stay (Fit log r.owner) s.views id w (one_fits log r.owner id me.0.opened (hand who log) true (r.each_seat id me.0 at).same mine)
              (λ j v other e. record {
                same = (r.each_seat j v e).same;
                each_hand = λ g c. let old = (r.each_seat j v e).each_hand g c in record {
                  named = old.named;
                  one_seat = old.one_seat;
                  seen = prefix_trans g.seen r.log log old.seen on;
                  own = others_stay whose who g.caller r.log log (λ same. other (sym old.one_seat ∙ (ap r.owner same ∙ fits.one_seat))) grown ∙ old.own;
                };
              });
          lock = inr record {
            seat = id;
            who = who;
            holder = w;
            words = λ i. set ((h.words ∙ ap (λ (z : ℕ). z ∷ length r.log ∷ []) (ap caller_of one)) i) 1 (long i);
            taken = subst (λ (z : ℕ). z < free) (ap caller_of one) h.taken;
            homes = h.homes;
            there = set_here s.views id w (inside s.views id me.0 at);
            whole = refl;
            holds_it = refl;
            one_holds = seats_stay (λ j (v : V). v.holding ≡ true → j ≡ id) s.views id w (λ _. refl) (λ j v _ e held. h.one_holds j v e held ∙ here.0);
          };
        }

    pub note_keeps : (n id who k : ℕ) (me : M) (seen : List E) (value : Box T Global) → me.0.hands ≡ hand who seen ∷ [] → me.0.holding ≡ true → me.1 ≡ (0, Some value) ∷ [] → Grows whose who seen (history value.value)
        → k ≡ length (history value.value) → Allows Rule n id me 1 (λ _. k) (λ _ m. Notes history me m)
    note_keeps n id who k me seen value is holds has_slot grew long s r wide at little = (
      view me.0.opened (hand who (history value.value) ∷ []) true,
      keeps,
      tt,
      ⊎_elim (λ f. absurd (true≢false (sym holds ∙ f.none_holds id me.0 at))) (λ h. noted s r h id who k me seen value is holds grew long at) r.lock,
      λ other same. let slot : Some value ≡ Some other = ap first_slot (sym has_slot ∙ same) in let one : value ≡ other = cc slot in
          (λ i. (view me.0.opened (hand (sym (ap caller_of is) i) (history (one i).value) ∷ []) true, me.1)),
    )

    pub release_keeps : (n id who : ℕ) (me : M) (value : Box T Global) (opened : T) → me.0.hands ≡ hand who (history value.value) ∷ [] → me.0.holding ≡ true → me.1 ≡ (0, Some value) ∷ [] → me.0.opened ≡ Some opened → origin value.value ≡ origin opened
        → Allows Rule n id me 0 (λ _. free) (λ _ m. Releases me m)
    release_keeps n id who me value opened is holds has_slot from same_origin s r wide at little =
        let w : V = view me.0.opened me.0.hands false in (
          w,
          gives,
          tt,
          ⊎_elim (λ f. absurd (true≢false (sym holds ∙ f.none_holds id me.0 at))) (λ h.
              let here = holder_is s r.log h id me.0 at holds in
              let whole : history value.value ≡ r.log = sym (ap seen_of (sym h.whole ∙ (ap (λ (v : V). v.hands) here.1 ∙ is))) in record {
                log = r.log;
                owner = r.owner;
                begins = r.begins;
                served = r.served;
                no_others = r.no_others;
                each_seat = seats_stay (Fit r.log r.owner) s.views id w (let old = r.each_seat id me.0 at in record { same = old.same; each_hand = old.each_hand }) (λ j v _ e. r.each_seat j v e);
                lock = inl record {
                  value = value;
                  words = ap (λ (ws : List ℕ). set ws 0 free) h.words;
                  homes = λ i. put_back (h.homes i) (has_slot i);
                  all_entries = whole;
                  same_origin = same_origin ∙ ap origin ((r.each_seat id me.0 at).same opened from);
                  none_holds = seats_stay (λ j (v : V). v.holding ≡ false) s.views id w refl (λ j v other e. false_from_ne_true v.holding (λ held. other (h.one_holds j v e held ∙ here.0)));
                };
              }) r.lock,
          refl,
        )
