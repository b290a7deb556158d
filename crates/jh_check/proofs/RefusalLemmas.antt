-- Which CPUs a new cell names that it mustn't, and when it isn't refused.
use Rattle.std.proofs.Common.{◌≡◌, ℕ, ◌+◌, ◌-◌, ◌*◌, ◌/◌, ◌^◌, ◌<◌, ◌≤◌, Bool, true, false, ◌||◌, not, nat_lt, List, [], ◌∷◌, length, drop, get_or, zero, suc, Some, None, refl, sym, ap, subst, inl, inr, ◌∙◌, arith}
use Rattle.std.specs.Prelude.{if◌then◌else◌, Option, ℤ}
use Rattle.std.specs.List.{list_all}
use Rattle.std.proofs.lemmas.Bool.{false≢true, ltb-false, le-ltb, cases_lt, cases_Bool, and_parts, and_from, or_cases, or_from, or_left, or_right, not-true, not_from_false, true_from_ne_false}
use Rattle.std.proofs.lemmas.List.{get_or-drop}
use Rattle.jh_num.proofs.Public.{below_at, below_of, same_test}
use Rattle.jh_num.specs.Bits.{has_bit}
use Rattle.jh_num.specs.declared.error.TheConstants.{EBUSY, EEXIST, ENOMEM}
use Rattle.jh_cellcfg.specs.declared.config.CellConfig.{CellConfig}
use Rattle.jh_cellcfg.specs.declared.config.SystemConfig.{SystemConfig}
use Rattle.jh_cellcfg.specs.Cells.{is_cpu_set}
use Rattle.jh_check.specs.declared.verdict.NewCell.{NewCell}
use Rattle.jh_check.specs.declared.verdict.NewCell.TheVariants.{Clean, Invalid, Busy}
use Rattle.jh_cellcfg.specs.Limits.{is_zero}
use Rattle.jh_check.specs.Verdicts.{verdict_of}
use Rattle.jh_num.specs.Below.{any_below}
use Rattle.jh_check.specs.Refusals.{is_known, is_beyond, names_beyond, by_check, refusal_of, IsAccepted}
use Rattle.jh_check.proofs.DeviceLemmas.{some_byte, each_zero}
use Rattle.jh_check.proofs.GivenLemmas.{byte_names, zero_names}
use Rattle.jh_check.proofs.MaskLemmas.{high_bit}

-- ---- CPUs

past_zero : (set : List ℕ) (i : ℕ) → length set ≤ i → get_or set i 0 ≡ 0
past_zero [] i l = refl
past_zero (b ∷ set) zero l = absurd (omega arith)
past_zero (b ∷ set) (suc i) l = past_zero set i (omega arith)

-- a CPU that is named has its byte in the set
named_within : (set : List ℕ) (cpu : ℕ) → is_cpu_set set cpu ≡ true → cpu < 8 * length set
named_within set cpu t =
    elim (cases_lt (cpu / 8) (length set)) [
      | inl l ↦ omega arith
      | inr l ↦ absurd (false≢true (sym (zero_names set cpu (past_zero set (cpu / 8) l)) ∙ t))
    ]

pub beyond_named : (may : ℕ → Bool) (set : List ℕ) → names_beyond may set ≡ true → (cpu : ℕ) × (is_cpu_set set cpu ≡ true) × (may cpu ≡ false)
unfolding names_beyond
beyond_named may set t =
    let r = below_of (is_beyond may set) (8 * length set) t in
    let p = and_parts (is_cpu_set set r.0) (not (may r.0)) r.2 in
    (r.0, p.0, not-true (may r.0) p.1)

pub named_beyond : (may : ℕ → Bool) (set : List ℕ) (cpu : ℕ) → is_cpu_set set cpu ≡ true → may cpu ≡ false → names_beyond may set ≡ true
unfolding names_beyond
named_beyond may set cpu t f =
    below_at (is_beyond may set) (8 * length set) cpu (named_within set cpu t) (and_from (is_cpu_set set cpu) (not (may cpu)) t (not_from_false (may cpu) f))

-- a CPU from 16 on stands behind the second byte
high_named : (set : List ℕ) (cpu : ℕ) → 16 ≤ cpu → is_cpu_set set cpu ≡ true → not (list_all is_zero (drop 2 set)) ≡ true
high_named set cpu l t =
    not_from_false (list_all is_zero (drop 2 set)) (false_by (list_all is_zero (drop 2 set)) (λ e.
    let place : 2 + (cpu / 8 - 2) ≡ cpu / 8 = omega arith in
    let none : get_or set (cpu / 8) 0 ≡ 0 = subst (λ i. get_or set i 0 ≡ 0) place (sym (get_or-drop 2 set (cpu / 8 - 2) 0) ∙ each_zero (drop 2 set) e (cpu / 8 - 2)) in
    false≢true (sym (zero_names set cpu none) ∙ t)))
  where
    false_by : (b : Bool) → (b ≡ true → ⊥) → b ≡ false
    false_by true h = absurd (h refl)
    false_by false h = refl

pub beyond_by : (mask : ℕ) (set : List ℕ) → mask < 2 ^ 16 → ((i : ℕ) → get_or set i 0 < 256) → (any_below (is_beyond (has_bit mask) set) 16 || not (list_all is_zero (drop 2 set))) ≡ names_beyond (has_bit mask) set
beyond_by mask set small bytes =
    let m : ℕ → Bool = has_bit mask in
    let low = any_below (is_beyond m set) 16 in
    let high = not (list_all is_zero (drop 2 set)) in
    same_test (low || high) (names_beyond m set) (λ t.
    elim (or_cases low high t) [
      | inl u ↦
          let r = below_of (is_beyond m set) 16 u in
          let p = and_parts (is_cpu_set set r.0) (not (m r.0)) r.2 in
          named_beyond m set r.0 p.0 (not-true (m r.0) p.1)
      | inr u ↦
          let s = some_byte (drop 2 set) (not-true (list_all is_zero (drop 2 set)) u) in
          let e : get_or (drop 2 set) s.0 0 ≡ get_or set (2 + s.0) 0 = get_or-drop 2 set s.0 0 in
          let k = byte_names set (2 + s.0) (bytes (2 + s.0)) (λ z. s.1 (e ∙ z)) in
          named_beyond m set (8 * (2 + s.0) + k.0) k.1 (high_bit mask (8 * (2 + s.0) + k.0) small (omega arith))
    ]) (λ t.
    let r = beyond_named m set t in
    elim (cases_lt r.0 16) [
      | inl l ↦ or_left low high (below_at (is_beyond m set) 16 r.0 l (and_from (is_cpu_set set r.0) (not (m r.0)) r.1 (not_from_false (m r.0) r.2)))
      | inr l ↦ or_right low high (high_named set r.0 l r.1)
    ])

pub beyond_low : (mask : ℕ) (set : List ℕ) → any_below (is_beyond (has_bit mask) set) 16 ≡ true → true ≡ names_beyond (has_bit mask) set
beyond_low mask set t =
    let m : ℕ → Bool = has_bit mask in
    let r = below_of (is_beyond m set) 16 t in
    let p = and_parts (is_cpu_set set r.0) (not (m r.0)) r.2 in
    sym (named_beyond m set r.0 p.0 (not-true (m r.0) p.1))

pub beyond_high : (mask : ℕ) (set : List ℕ) → mask < 2 ^ 16 → ((i : ℕ) → get_or set i 0 < 256) → any_below (is_beyond (has_bit mask) set) 16 ≡ false → not (list_all is_zero (drop 2 set)) ≡ names_beyond (has_bit mask) set
beyond_high mask set small bytes f =
    sym (ap (λ b. b || not (list_all is_zero (drop 2 set))) f) ∙ beyond_by mask set small bytes

-- ---- refusals

refused : Bool → Bool → NewCell → Bool → Option ℤ
refused known beyond verdict full =
    if known then Some EEXIST else (if beyond then Some EBUSY else by_check verdict (if full then Some ENOMEM else None))

not_refused : (known beyond : Bool) (verdict : NewCell) (full : Bool) → refused known beyond verdict full ≡ None → (known ≡ false) × (beyond ≡ false) × (verdict ≡ Clean) × (full ≡ false)
unfolding refused
not_refused true beyond verdict full h = cc
not_refused false true verdict full h = cc
not_refused false false Invalid full h = cc
not_refused false false Busy full h = cc
not_refused false false Clean true h = cc
not_refused false false Clean false h = (refl, refl, refl, refl)

none_refused : (known beyond : Bool) (verdict : NewCell) (full : Bool) → known ≡ false → beyond ≡ false → verdict ≡ Clean → full ≡ false → refused known beyond verdict full ≡ None
unfolding refused
none_refused true beyond verdict full a b c d = absurd (false≢true (sym a))
none_refused false true verdict full a b c d = absurd (false≢true (sym b))
none_refused false false Invalid full a b c d = cc
none_refused false false Busy full a b c d = cc
none_refused false false Clean true a b c d = absurd (false≢true (sym d))
none_refused false false Clean false a b c d = refl

pub accepted_from : (system : SystemConfig) (live : List CellConfig) (new : CellConfig) (may : ℕ → Bool) (pages pool : ℕ) → refusal_of system live new may pages pool ≡ None → IsAccepted system live new may pages pool
unfolding refusal_of refused
accepted_from system live new may pages pool h =
    let p = not_refused (is_known (system.root ∷ live) new) (names_beyond may new.cpu_set) (verdict_of system live new) (nat_lt pool pages) h in
    record {
      unknown = p.0;
      cpus = λ cpu t. true_from_ne_false (may cpu) (λ f. false≢true (sym p.1 ∙ named_beyond may new.cpu_set cpu t f));
      clean = p.2;
      room = ltb-false pool pages p.3;
    }

pub accepted_to : (system : SystemConfig) (live : List CellConfig) (new : CellConfig) (may : ℕ → Bool) (pages pool : ℕ) → IsAccepted system live new may pages pool → refusal_of system live new may pages pool ≡ None
unfolding refusal_of refused
accepted_to system live new may pages pool a =
    let within : names_beyond may new.cpu_set ≡ false = elim (cases_Bool (names_beyond may new.cpu_set)) [
      | inl t ↦ let r = beyond_named may new.cpu_set t in absurd (false≢true (sym r.2 ∙ a.cpus r.0 r.1))
      | inr f ↦ f
    ] in
    none_refused (is_known (system.root ∷ live) new) (names_beyond may new.cpu_set) (verdict_of system live new) (nat_lt pool pages) a.unknown within a.clean (le-ltb pool pages a.room)
