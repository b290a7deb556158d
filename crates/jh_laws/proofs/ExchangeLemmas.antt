-- How cells are waited for, and how they met what they were asked and told.
use Rattle.std.proofs.Common.{◌≡◌, ◌≢◌, ℕ, ◌+◌, ◌-◌, ◌^◌, ◌≤◌, min, List, [], ◌∷◌, ℤ, Bool, true, false, cond, not, ◌||◌, eqb, Some, None, All, count_by, refl, sym, ap, ◌∙◌, inl, inr, ⊎_elim, arith}
use Rattle.std.specs.List.{fold}
use Rattle.std.proofs.lemmas.Bool.{eq-eqb, ne_eqb, cases_Bool, or_from, or_parts, or_left, or_right, not_from_true, not_from_false}
use Rattle.std.proofs.lemmas.List.Elements.{All-head, All-tail}
use Rattle.std.proofs.lemmas.List.Sums.{sum_by-cons}
use Rattle.std.proofs.lemmas.Option.{none-some, same_Some}
use Rattle.jh_cellcfg.specs.declared.config.CellConfig.{CellConfig}
use Rattle.jh_cellcfg.specs.Cells.{is_passive}
use Rattle.jh_comm.specs.declared.words.TheConstants.{REPLY_REQUEST_APPROVED, REPLY_RECEIVED}
use Rattle.jh_call.specs.declared.call.Call.{Call}
use Rattle.jh_script.specs.declared.image.Image.{Image}
use Rattle.jh_history.specs.declared.call.OpenCall.{OpenCall}
use Rattle.jh_history.specs.declared.call.Phase.{Phase}
use Rattle.jh_history.specs.declared.call.Phase.TheVariants.{ToSettle, ToNoted}
use Rattle.jh_history.specs.declared.entry.Entry.{Entry}
use Rattle.jh_history.specs.declared.entry.Settled.{Settled}
use Rattle.jh_history.specs.declared.entry.Settled.TheVariants.{Agreed, Denied, Timeout}
use Rattle.jh_history.specs.declared.entry.Heard.{Heard}
use Rattle.jh_history.specs.declared.entry.Heard.TheVariants.{Received, Down, Other, Timeout as Unheard}
use Rattle.jh_history.specs.Facts.{Facts}
use Rattle.jh_history.specs.Calls.{is_named, counted}
use Rattle.jh_num.specs.Numbers.{counted_up}
use Rattle.jh_history.specs.Phases.{is_down, is_over, settled_by, heard_by, state_word, reply_word}
use Rattle.jh_shape.specs.Lives.{configs_of}
use Rattle.jh_history.specs.History.{after}
use Rattle.jh_history.specs.Due.{is_idle_but, IsLegalFrom}
use Rattle.jh_history.specs.Sound.{AreSoundCells, IsSound}
use Rattle.jh_laws.specs.Exchanges.{IsSettledBy, IsHeardBy}
use Rattle.jh_laws.specs.Ready.{IsTimeOver}
use Rattle.jh_history.proofs.Public.{sound_after}
use Rattle.jh_laws.proofs.CallLemmas.{IsBeside, entry_of_call, call_counted}
use Rattle.jh_laws.proofs.DueCpusLemmas.{idle_nothing, over_parts}

-- ---- waiting

-- the phase with the entries counted
abbrev pub counted_over : Call → Phase → List Entry → Phase
counted_over call phase [] = phase
counted_over call phase (entry ∷ entries) = counted_over call (counted entry.cell call phase) entries

-- over entries of other CPUs a call stays open, and counts
pub waits_over : (image : Image) (caller : ℕ) (call : Call) (phase : Phase) (f : Facts) (entries : List Entry) → IsSound image f → f.call ≡ Some (record { caller = caller; call = call; phase = phase }) → IsLegalFrom image f entries → All (λ (e : Entry). e.cpu ≢ caller) entries
    → IsSound image (fold (after image) f entries) × ((fold (after image) f entries).call ≡ Some (record { caller = caller; call = call; phase = counted_over call phase entries }))
waits_over image caller call phase f [] sound is legal others = (sound, is)
waits_over image caller call phase f (entry ∷ entries) sound is legal others =
    let o : OpenCall = record { caller = caller; call = call; phase = phase } in
    let next : (after image f entry).call ≡ Some (record { caller = caller; call = call; phase = counted entry.cell call phase }) =
    ⊎_elim
    (λ made. absurd (All-head (λ (e : Entry). e.cpu ≢ caller) entry entries others (sym made.0)))
    (λ (beside : IsBeside image f o entry). call_counted image f o entry is beside.act)
    (entry_of_call image f o entry sound is legal.0) in
    waits_over image caller call (counted entry.cell call phase) (after image f entry) entries (sound_after image f entry sound legal.0) next legal.1 (All-tail (λ (e : Entry). e.cpu ≢ caller) entry entries others)

-- one more of those that pass
abbrev last_number : ℕ
last_number = 2 ^ 64 - 1

count_step : (b : Bool) (more n : ℕ) → n ≤ last_number → min (cond b (counted_up n) n + more) last_number ≡ min (n + (cond b 1 0 + more)) last_number
count_step true more n le = omega arith
count_step false more n le = omega arith

next_small : (b : Bool) (n : ℕ) → n ≤ last_number → cond b (counted_up n) n ≤ last_number
next_small true n le = omega arith
next_small false n le = le

-- a wait for the cell that the call is about
settle_next : (cell : ℕ) (call : Call) (n : ℕ) → counted cell call (ToSettle n) ≡ ToSettle (cond (is_named call cell) (counted_up n) n)
settle_next cell call n =
    let P : Bool → Type 0 = λ b. cond b (ToSettle (counted_up n)) (ToSettle n) ≡ ToSettle (cond b (counted_up n) n) in
    elim (is_named call cell) as P [ true ↦ refl | false ↦ refl ]

pub settle_counts : (call : Call) (n : ℕ) (entries : List Entry) → n ≤ last_number → counted_over call (ToSettle n) entries ≡ ToSettle (min (n + count_by (λ (e : Entry). is_named call e.cell) entries) last_number)
settle_counts call n [] le = let e : n ≡ min (n + 0) last_number = omega arith in ap ToSettle e
settle_counts call n (entry ∷ entries) le =
    let b : Bool = is_named call entry.cell in
    ap (λ (p : Phase). counted_over call p entries) (settle_next entry.cell call n)
    ∙ settle_counts call (cond b (counted_up n) n) entries (next_small b n le)
    ∙ ap ToSettle (count_step b (count_by (λ (e : Entry). is_named call e.cell) entries) n le)
    ∙ ap (λ (m : ℕ). ToSettle (min (n + m) last_number)) (sym (sum_by-cons (λ (e : Entry). cond (is_named call e.cell) 1 0) entry entries))

-- a wait for the cell that was told
noted_next : (cell : ℕ) (call : Call) (id about n : ℕ) (answer : ℤ) → counted cell call (ToNoted id about answer n) ≡ ToNoted id about answer (cond (eqb cell id) (counted_up n) n)
noted_next cell call id about n answer =
    let P : Bool → Type 0 = λ b. cond b (ToNoted id about answer (counted_up n)) (ToNoted id about answer n) ≡ ToNoted id about answer (cond b (counted_up n) n) in
    elim (eqb cell id) as P [ true ↦ refl | false ↦ refl ]

pub noted_counts : (call : Call) (id about n : ℕ) (answer : ℤ) (entries : List Entry) → n ≤ last_number → counted_over call (ToNoted id about answer n) entries ≡ ToNoted id about answer (min (n + count_by (λ (e : Entry). eqb e.cell id) entries) last_number)
noted_counts call id about n answer [] le = let e : n ≡ min (n + 0) last_number = omega arith in ap (ToNoted id about answer) e
noted_counts call id about n answer (entry ∷ entries) le =
    let b : Bool = eqb entry.cell id in
    ap (λ (p : Phase). counted_over call p entries) (noted_next entry.cell call id about n answer)
    ∙ noted_counts call id about (cond b (counted_up n) n) answer entries (next_small b n le)
    ∙ ap (ToNoted id about answer) (count_step b (count_by (λ (e : Entry). eqb e.cell id) entries) n le)
    ∙ ap (λ (m : ℕ). ToNoted id about answer (min (n + m) last_number)) (sym (sum_by-cons (λ (e : Entry). cond (eqb e.cell id) 1 0) entry entries))

-- ---- what was answered

settled_is : (passive : Bool) (state reply : ℕ) (over : Bool) (how : Settled) → settled_by passive state reply over ≡ Some how → (passive || is_down state) ≡ true → how ≡ Agreed
settled_is passive state reply over how h first =
    sym (same_Some Agreed how (sym (ap (λ (b : Bool). cond b (Some Agreed) (cond (eqb reply REPLY_REQUEST_APPROVED) (Some Agreed) (cond (not (eqb reply 0)) (Some Denied) (cond over (Some Timeout) None)))) first) ∙ h))

settled_rest : (passive : Bool) (state reply : ℕ) (over : Bool) (how : Settled) → settled_by passive state reply over ≡ Some how → passive ≡ false → is_down state ≡ false
    → cond (eqb reply REPLY_REQUEST_APPROVED) (Some Agreed) (cond (not (eqb reply 0)) (Some Denied) (cond over (Some Timeout) None)) ≡ Some how
settled_rest passive state reply over how h up down =
    sym (ap (λ (b : Bool). cond b (Some Agreed) (cond (eqb reply REPLY_REQUEST_APPROVED) (Some Agreed) (cond (not (eqb reply 0)) (Some Denied) (cond over (Some Timeout) None)))) (or_from passive (is_down state) up down)) ∙ h

approved_is : (reply : ℕ) (over : Bool) (how : Settled) → cond (eqb reply REPLY_REQUEST_APPROVED) (Some Agreed) (cond (not (eqb reply 0)) (Some Denied) (cond over (Some Timeout) None)) ≡ Some how → reply ≡ REPLY_REQUEST_APPROVED → how ≡ Agreed
approved_is reply over how h is =
    sym (same_Some Agreed how (sym (ap (λ (b : Bool). cond b (Some Agreed) (cond (not (eqb reply 0)) (Some Denied) (cond over (Some Timeout) None))) (eq-eqb reply REPLY_REQUEST_APPROVED is)) ∙ h))

other_reply : (reply : ℕ) (over : Bool) (how : Settled) → cond (eqb reply REPLY_REQUEST_APPROVED) (Some Agreed) (cond (not (eqb reply 0)) (Some Denied) (cond over (Some Timeout) None)) ≡ Some how → reply ≢ REPLY_REQUEST_APPROVED → cond (not (eqb reply 0)) (Some Denied) (cond over (Some Timeout) None) ≡ Some how
other_reply reply over how h other =
    sym (ap (λ (b : Bool). cond b (Some Agreed) (cond (not (eqb reply 0)) (Some Denied) (cond over (Some Timeout) None))) (ne_eqb reply REPLY_REQUEST_APPROVED other)) ∙ h

over_some : {X : Type 0} (over : Bool) (late how : X) → cond over (Some late) None ≡ Some how → (how ≡ late) × (over ≡ true)
over_some true late how h = (sym (same_Some late how h), refl)
over_some false late how h = absurd (none-some how h)

time_over : (image : Image) (f : Facts) (o : OpenCall) (config : CellConfig) (waited : ℕ) → AreSoundCells image.system (configs_of f.cells) → f.call ≡ Some o → is_over config.msg_reply_timeout waited (is_idle_but image f o.caller) ≡ true → IsTimeOver image f o.caller config waited
time_over image f o config waited sound is over =
    ⊎_elim (λ time. inl time) (λ idle. inr (idle_nothing image f o sound is idle)) (over_parts config.msg_reply_timeout waited (is_idle_but image f o.caller) over)

pub settled_as : (image : Image) (f : Facts) (o : OpenCall) (config : CellConfig) (waited : ℕ) (how : Settled) → AreSoundCells image.system (configs_of f.cells) → f.call ≡ Some o
    → settled_by (is_passive config) (state_word f config.id) (reply_word f config.id) (is_over config.msg_reply_timeout waited (is_idle_but image f o.caller)) ≡ Some how → IsSettledBy image f o.caller config waited how
settled_as image f o config waited how sound is h =
    let state : ℕ = state_word f config.id in
    let reply : ℕ = reply_word f config.id in
    let over : Bool = is_over config.msg_reply_timeout waited (is_idle_but image f o.caller) in
    let passive : Bool = is_passive config in
    record {
      passive = λ yes. settled_is passive state reply over how h (or_left passive (is_down state) yes);
      down = λ yes. settled_is passive state reply over how h (or_right passive (is_down state) yes);
      approved = λ yes.
          ⊎_elim
          (λ (first : (passive || is_down state) ≡ true). settled_is passive state reply over how h first)
          (λ (none : (passive || is_down state) ≡ false).
          let parts = or_parts passive (is_down state) none in approved_is reply over how (settled_rest passive state reply over how h parts.0 parts.1) yes)
          (cases_Bool (passive || is_down state));
      denied = λ up down other some.
          let rest = other_reply reply over how (settled_rest passive state reply over how h up down) other in
          sym (same_Some Denied how (sym (ap (λ (b : Bool). cond b (Some Denied) (cond over (Some Timeout) None)) (not_from_false (eqb reply 0) (ne_eqb reply 0 some))) ∙ rest));
      unanswered = λ up down none.
          let other : reply ≢ REPLY_REQUEST_APPROVED = λ e. (let zero_is : REPLY_REQUEST_APPROVED ≡ 0 = sym e ∙ none in omega arith) in
          let rest = other_reply reply over how (settled_rest passive state reply over how h up down) other in
          let last = over_some over Timeout how (sym (ap (λ (b : Bool). cond b (Some Denied) (cond over (Some Timeout) None)) (not_from_true (eqb reply 0) (eq-eqb reply 0 none))) ∙ rest) in
          (last.0, time_over image f o config waited sound is last.1);
    }

heard_rest : (state reply : ℕ) (over : Bool) (how : Heard) → heard_by state reply over ≡ Some how → is_down state ≡ false → cond (eqb reply REPLY_RECEIVED) (Some Received) (cond (not (eqb reply 0)) (Some Other) (cond over (Some Unheard) None)) ≡ Some how
heard_rest state reply over how h up =
    sym (ap (λ (b : Bool). cond b (Some Down) (cond (eqb reply REPLY_RECEIVED) (Some Received) (cond (not (eqb reply 0)) (Some Other) (cond over (Some Unheard) None)))) up) ∙ h

heard_other : (reply : ℕ) (over : Bool) (how : Heard) → cond (eqb reply REPLY_RECEIVED) (Some Received) (cond (not (eqb reply 0)) (Some Other) (cond over (Some Unheard) None)) ≡ Some how → reply ≢ REPLY_RECEIVED → cond (not (eqb reply 0)) (Some Other) (cond over (Some Unheard) None) ≡ Some how
heard_other reply over how h other = sym (ap (λ (b : Bool). cond b (Some Received) (cond (not (eqb reply 0)) (Some Other) (cond over (Some Unheard) None))) (ne_eqb reply REPLY_RECEIVED other)) ∙ h

pub heard_as : (image : Image) (f : Facts) (o : OpenCall) (config : CellConfig) (waited : ℕ) (how : Heard) → AreSoundCells image.system (configs_of f.cells) → f.call ≡ Some o
    → heard_by (state_word f config.id) (reply_word f config.id) (is_over config.msg_reply_timeout waited (is_idle_but image f o.caller)) ≡ Some how → IsHeardBy image f o.caller config waited how
heard_as image f o config waited how sound is h =
    let state : ℕ = state_word f config.id in
    let reply : ℕ = reply_word f config.id in
    let over : Bool = is_over config.msg_reply_timeout waited (is_idle_but image f o.caller) in
    record {
      down = λ yes. sym (same_Some Down how (sym (ap (λ (b : Bool). cond b (Some Down) (cond (eqb reply REPLY_RECEIVED) (Some Received) (cond (not (eqb reply 0)) (Some Other) (cond over (Some Unheard) None)))) yes) ∙ h));
      received = λ up yes.
          sym (same_Some Received how (sym (ap (λ (b : Bool). cond b (Some Received) (cond (not (eqb reply 0)) (Some Other) (cond over (Some Unheard) None))) (eq-eqb reply REPLY_RECEIVED yes)) ∙ heard_rest state reply over how h up));
      other = λ up no_reply some.
          let rest = heard_other reply over how (heard_rest state reply over how h up) no_reply in
          sym (same_Some Other how (sym (ap (λ (b : Bool). cond b (Some Other) (cond over (Some Unheard) None)) (not_from_false (eqb reply 0) (ne_eqb reply 0 some))) ∙ rest));
      unanswered = λ up none.
          let other : reply ≢ REPLY_RECEIVED = λ e. (let zero_is : REPLY_RECEIVED ≡ 0 = sym e ∙ none in omega arith) in
          let rest = heard_other reply over how (heard_rest state reply over how h up) other in
          let last = over_some over Unheard how (sym (ap (λ (b : Bool). cond b (Some Other) (cond over (Some Unheard) None)) (not_from_true (eqb reply 0) (eq-eqb reply 0 none))) ∙ rest) in
          (last.0, time_over image f o config waited sound is last.1);
    }
