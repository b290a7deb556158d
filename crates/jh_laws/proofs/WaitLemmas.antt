-- How many entries the open call has counted, while a cell is waited for.
use Rattle.std.proofs.Common.{◌≡◌, ℕ, ℤ, ◌+◌, ◌-◌, ◌^◌, min, List, ◌∷◌, Bool, eqb, Option, Some, None, count_by, refl, sym, ap, subst, ◌∙◌, arith}
use Rattle.std.proofs.lemmas.Bool.{eqb-true, eq-eqb}
use Rattle.jh_num.proofs.Public.{same_test}
use Rattle.jh_cellcfg.specs.declared.config.CellConfig.{CellConfig}
use Rattle.jh_call.specs.declared.call.Call.{Call}
use Rattle.jh_call.specs.declared.call.Call.TheVariants.{Start, Loadable, Destroy}
use Rattle.jh_history.specs.declared.call.OpenCall.{OpenCall}
use Rattle.jh_history.specs.declared.call.Phase.{Phase}
use Rattle.jh_history.specs.declared.call.Phase.TheVariants.{ToSettle, ToNoted}
use Rattle.jh_history.specs.declared.entry.Entry.{Entry}
use Rattle.jh_history.specs.declared.entry.Act.{Act}
use Rattle.jh_history.specs.declared.entry.Act.TheVariants.{Note}
use Rattle.jh_history.specs.Calls.{is_named, after_decide}
use Rattle.jh_history.specs.Due.{due_at, is_idle_but, IsLegalFrom}
use Rattle.jh_history.specs.Facts.{Facts}
use Rattle.jh_history.specs.History.{after, coming_by}
use Rattle.jh_history.specs.Sound.{IsSound}
use Rattle.jh_history.proofs.Public.{IsLegal_begin, legal_sound, sound_after}
use Rattle.jh_laws.specs.Exchanges.{made_by_named, made_by_cell, RestsBehind, IsAsked, HasCallIn}
use Rattle.jh_laws.specs.Moments.{AdmittedMoment, facts_before}
use Rattle.jh_laws.specs.Pages.{IsCallAbout}
use Rattle.jh_laws.specs.Ways.{is_phase}
use Rattle.jh_laws.proofs.AnswerLemmas.{note_phase, decided_call, noted_call}
use Rattle.jh_laws.proofs.CallLemmas.{Expects, phase_expects, phase_of_due, same_call}
use Rattle.jh_laws.proofs.ExchangeLemmas.{counted_over, waits_over, settle_counts, noted_counts}
use Rattle.jh_laws.proofs.FactsLemmas.{facts_append}
use Rattle.jh_laws.proofs.LegalLemmas.{IsLegal_rest}

-- ---- the cell that is asked

tested_by : (own id cell : ℕ) → own ≡ id → eqb own cell ≡ eqb cell id
tested_by own id cell is = same_test (eqb own cell) (eqb cell id) (λ h. eq-eqb cell id (sym (eqb-true own cell h) ∙ is)) (λ h. eq-eqb own cell (is ∙ sym (eqb-true cell id h)))

named_is : (call : Call) (id cell : ℕ) → IsCallAbout call id → is_named call cell ≡ eqb cell id
named_is (Start own) id cell is = tested_by own id cell is
named_is (Loadable own) id cell is = tested_by own id cell is
named_is (Destroy own) id cell is = tested_by own id cell is
named_is _ id cell is = absurd is

asked_phase : (call : Call) (id : ℕ) (coming : Option CellConfig) → IsCallAbout call id → after_decide call coming None ≡ ToSettle 0
asked_phase (Start own) id coming is = refl
asked_phase (Loadable own) id coming is = refl
asked_phase (Destroy own) id coming is = refl
asked_phase _ id coming is = absurd is

made_by_one : (call : Call) (id : ℕ) (entries : List Entry) → IsCallAbout call id → made_by_named call entries ≡ made_by_cell id entries
made_by_one call id entries is =
    ap (λ (test : Entry → Bool). min (count_by test entries) (2 ^ 64 - 1)) (λ i e. named_is call id e.cell is i)

-- ---- from the entry to the end of the journal

-- the entry, and the rest behind it
record IsFollowed (m : AdmittedMoment) : Type 0 where
  sound : IsSound m.image (facts_before m)
  due : due_at m.image (facts_before m) m.entry.cpu ≡ Some m.entry
  rest : IsLegalFrom m.image (after m.image (facts_before m) m.entry) m.rest

followed : (m : AdmittedMoment) → IsFollowed m
followed m =
    let from : IsLegalFrom m.image (facts_before m) (m.entry ∷ m.rest) = IsLegal_rest m.image m.form m.before (m.entry ∷ m.rest) m.legal in
    record { sound = legal_sound m.image m.form m.before m.admitted (IsLegal_begin m.image m.form m.before (m.entry ∷ m.rest) m.legal); due = from.0; rest = from.1 }

waits_to_end : (m : AdmittedMoment) (call : Call) (phase there : Phase) → RestsBehind m → (after m.image (facts_before m) m.entry).call ≡ Some (record { caller = m.entry.cpu; call = call; phase = phase }) → counted_over call phase m.rest ≡ there → HasCallIn m there
waits_to_end m call phase there rests is counts =
    let f0 : Facts = facts_before m in
    let f1 : Facts = after m.image f0 m.entry in
    let at = followed m in
    let waits = waits_over m.image m.entry.cpu call phase f1 m.rest (sound_after m.image f0 m.entry at.sound at.due) is at.rest rests in
    record {
      open_call = record { caller = m.entry.cpu; call = call; phase = counted_over call phase m.rest };
      is = ap (λ (f : Facts). f.call) (facts_append m.image m.form m.before (m.entry ∷ m.rest)) ∙ waits.1;
      caller = refl;
      there = counts;
    }

pub settle_waits : (m : AdmittedMoment) (id : ℕ) → IsAsked m id → RestsBehind m → HasCallIn m (ToSettle (made_by_cell id m.rest))
settle_waits m id asked rests =
    let f : Facts = facts_before m in
    let at = followed m in
    let of = phase_of_due m.image f m.entry at.sound at.due (ap is_phase asked.goes) in
    let call : Call = asked.call in
    let same : of.o.call ≡ call = same_call m.image m.form m.before of.o call of.opens asked.begun in
    let made = decided_call m.image f m.entry of.o call of.opens of.caller same asked.goes in
    let phase : after_decide call (coming_by m.image f call) None ≡ ToSettle 0 = asked_phase call id (coming_by m.image f call) asked.about in
    let n : ℕ = count_by (λ (e : Entry). is_named call e.cell) m.rest in
    let e : min (0 + n) (2 ^ 64 - 1) ≡ min n (2 ^ 64 - 1) = omega arith in
    waits_to_end m call (ToSettle 0) (ToSettle (made_by_cell id m.rest)) rests
    (made ∙ ap (λ (p : Phase). Some (record { caller = m.entry.cpu; call = call; phase = p })) phase)
    (settle_counts call 0 m.rest (omega arith) ∙ ap ToSettle e ∙ ap ToSettle (made_by_one call id m.rest asked.about))

pub note_waits : (m : AdmittedMoment) (id : ℕ) → m.entry.act ≡ Note id → RestsBehind m → (about : ℕ) × (answer : ℤ) × HasCallIn m (ToNoted id about answer (made_by_cell id m.rest))
note_waits m id act rests =
    let f : Facts = facts_before m in
    let at = followed m in
    let of = phase_of_due m.image f m.entry at.sound at.due (ap is_phase act) in
    let o : OpenCall = of.o in
    let E : Act → Type 0 = Expects o.phase in
    let told = note_phase o.phase id (subst E act (phase_expects m.image f (is_idle_but m.image f o.caller) o.caller o.call o.phase m.entry.act of.act)) in
    let about : ℕ = told.0 in
    let answer : ℤ = told.1 in
    let made = noted_call m.image f m.entry o id about answer of.opens of.caller told.2 act in
    let n : ℕ = count_by (λ (e : Entry). eqb e.cell id) m.rest in
    let e : min (0 + n) (2 ^ 64 - 1) ≡ min n (2 ^ 64 - 1) = omega arith in (
      about,
      answer,
      waits_to_end m o.call (ToNoted id about answer 0) (ToNoted id about answer (made_by_cell id m.rest)) rests made (noted_counts o.call id about 0 answer m.rest (omega arith) ∙ ap (ToNoted id about answer) e),
    )
