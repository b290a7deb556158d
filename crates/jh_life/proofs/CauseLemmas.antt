-- The first cause that speaks against a create: by a test for each, and each test in the cause's own words.
use Rattle.std.proofs.Common.{◌≡◌, ℕ, zero, suc, ◌+◌, ◌<◌, ◌≤◌, Bool, true, false, not, ◌==◌, nat_lt, List, [], ◌∷◌, ◌++◌, length, Some, None, refl, sym, ap, inl, inr, ◌∙◌, arith}
use Rattle.std.specs.Prelude.{Option, ℤ, ◌↔◌, ◌⊎◌, nat_eq, if◌then◌else◌}
use Rattle.std.specs.List.{list_any}
use Rattle.std.specs.Cmp.Lexicographic.{pointwise, same_text, other_text}
use Rattle.std.proofs.lemmas.Bool.{false≢true, cases_lt, cases_Bool, eq-eqb, eqb-true, ltb-true, lt-ltb, and_parts, and_from, or_cases, or_left, or_right, not-true, not_from_false, false_from_ne_true}
use Rattle.std.proofs.lemmas.Option.{none-some, same_Some}
use Rattle.jh_num.specs.declared.error.TheConstants.{EBUSY, EEXIST, EINVAL, ENOMEM, EPERM}
use Rattle.jh_num.proofs.Public.{IsFound_from_list_any, list_any_from_Contains}
use Rattle.jh_cellcfg.specs.declared.config.CellConfig.{CellConfig}
use Rattle.jh_cellcfg.specs.Cells.{name_of}
use Rattle.jh_check.specs.declared.finding.Finding.{Finding}
use Rattle.jh_check.specs.Findings.{findings}
use Rattle.jh_check.specs.Refusals.{is_namesake, is_known, names_beyond, by_check, refusal_of}
use Rattle.jh_check.specs.Verdicts.{names, is_cells_overlap, makes_invalid, makes_busy, verdict_by, verdict_of}
use Rattle.jh_check.proofs.Public.{beyond_named, named_beyond, broken_from_listed, listed_from_broken}
use Rattle.jh_num.specs.Bits.{has_bit}
use Rattle.jh_life.specs.CellsView.{CellsView}
use Rattle.jh_life.specs.Lives.{numbered_cells}
use Rattle.jh_shape.specs.Lives.{configs_of}
use Rattle.jh_life.specs.Verdict.{may_have, pages_with}
use Rattle.jh_life.specs.Causes.{Create, verdict_on, Cause, Locked, Known, TakenCpu, BrokenRule, Overlap, FewPages, rank, number_for, IsKnownTo, NamesTakenCpu, BreaksRule, SpeaksAgainst, IsFirst}

-- ---- by tests

record IsFirstOf (test : Cause → Bool) (cause : Cause) : Type 0 where
  pub passes : test cause ≡ true
  pub none : (other : Cause) → rank other < rank cause → test other ≡ false

abbrev first_of : Bool → Bool → Bool → Bool → Bool → Bool → Option ℤ
first_of locked known taken broken overlap few =
    if locked then Some EPERM
    else (if known then Some EEXIST else (if taken then Some EBUSY else by_check (verdict_by broken overlap) (if few then Some ENOMEM else None)))

abbrev IsFirstCause : (Cause → Bool) → Option ℤ → Type 0
IsFirstCause test told = (cause : Cause) × IsFirstOf test cause × (told ≡ Some (number_for cause))

abbrev IsNoCause : (Cause → Bool) → Option ℤ → Type 0
IsNoCause test told = ((cause : Cause) → test cause ≡ false) × (told ≡ None)

-- what fails before a cause
before : (test : Cause → Bool) (n : ℕ) → n ≤ 5 → (0 < n → test Locked ≡ false) → (1 < n → test Known ≡ false) → (2 < n → test TakenCpu ≡ false) → (3 < n → test BrokenRule ≡ false) → (4 < n → test Overlap ≡ false) → (other : Cause) → rank other < n → test other ≡ false
before test n last a b c d e Locked l = a l
before test n last a b c d e Known l = b l
before test n last a b c d e TakenCpu l = c l
before test n last a b c d e BrokenRule l = d l
before test n last a b c d e Overlap l = e l
before test n last a b c d e FewPages l = absurd (omega arith)

all_fail : (test : Cause → Bool) → test Locked ≡ false → test Known ≡ false → test TakenCpu ≡ false → test BrokenRule ≡ false → test Overlap ≡ false → test FewPages ≡ false → (cause : Cause) → test cause ≡ false
all_fail test a b c d e f Locked = a
all_fail test a b c d e f Known = b
all_fail test a b c d e f TakenCpu = c
all_fail test a b c d e f BrokenRule = d
all_fail test a b c d e f Overlap = e
all_fail test a b c d e f FewPages = f

told_by : (test : Cause → Bool) (locked known taken broken overlap few : Bool) → test Locked ≡ locked → test Known ≡ known → test TakenCpu ≡ taken → test BrokenRule ≡ broken → test Overlap ≡ overlap → test FewPages ≡ few → IsFirstCause test (first_of locked known taken broken overlap few) ⊎ IsNoCause test (first_of locked known taken broken overlap few)
told_by test true known taken broken overlap few a b c d e f =
    inl (Locked, record { passes = a; none = λ other l. absurd (omega arith) }, refl)
told_by test false true taken broken overlap few a b c d e f =
    inl (Known, record { passes = b; none = before test 1 (omega arith) (λ l. a) (λ l. absurd (omega arith)) (λ l. absurd (omega arith)) (λ l. absurd (omega arith)) (λ l. absurd (omega arith)) }, refl)
told_by test false false true broken overlap few a b c d e f =
    inl (TakenCpu, record { passes = c; none = before test 2 (omega arith) (λ l. a) (λ l. b) (λ l. absurd (omega arith)) (λ l. absurd (omega arith)) (λ l. absurd (omega arith)) }, refl)
told_by test false false false true overlap few a b c d e f =
    inl (BrokenRule, record { passes = d; none = before test 3 (omega arith) (λ l. a) (λ l. b) (λ l. c) (λ l. absurd (omega arith)) (λ l. absurd (omega arith)) }, refl)
told_by test false false false false true few a b c d e f =
    inl (Overlap, record { passes = e; none = before test 4 (omega arith) (λ l. a) (λ l. b) (λ l. c) (λ l. d) (λ l. absurd (omega arith)) }, refl)
told_by test false false false false false true a b c d e f =
    inl (FewPages, record { passes = f; none = before test 5 (omega arith) (λ l. a) (λ l. b) (λ l. c) (λ l. d) (λ l. e) }, refl)
told_by test false false false false false false a b c d e f = inr (all_fail test a b c d e f, refl)

-- ---- there is one first cause

cause_at : ℕ → Cause
cause_at zero = Locked
cause_at (suc zero) = Known
cause_at (suc (suc zero)) = TakenCpu
cause_at (suc (suc (suc zero))) = BrokenRule
cause_at (suc (suc (suc (suc zero)))) = Overlap
cause_at (suc (suc (suc (suc (suc n))))) = FewPages

at_place : (cause : Cause) → cause_at (rank cause) ≡ cause
unfolding cause_at
at_place Locked = refl
at_place Known = refl
at_place TakenCpu = refl
at_place BrokenRule = refl
at_place Overlap = refl
at_place FewPages = refl

same_place : (one other : Cause) → rank one ≡ rank other → one ≡ other
same_place one other e = sym (at_place one) ∙ ap cause_at e ∙ at_place other

not_earlier : (test : Cause → Bool) (one other : Cause) → IsFirstOf test one → IsFirstOf test other → rank one < rank other → ⊥
not_earlier test one other first second l = false≢true (sym (second.none one l) ∙ first.passes)

one_first : (test : Cause → Bool) (one other : Cause) → IsFirstOf test one → IsFirstOf test other → one ≡ other
one_first test one other first second =
    elim (cases_lt (rank one) (rank other)) [
      | inl l ↦ absurd (not_earlier test one other first second l)
      | inr l ↦ elim (cases_lt (rank other) (rank one)) [
        | inl m ↦ absurd (not_earlier test other one second first m)
        | inr m ↦ same_place one other (omega arith)
      ]
    ]

-- ---- each test in words

abbrev test_of : CellsView → Create → Cause → Bool
test_of seen create Locked = create.locked
test_of seen create Known = is_known (numbered_cells seen) create.new
test_of seen create TakenCpu = names_beyond (may_have create.owned create.caller) create.new.cpu_set
test_of seen create BrokenRule = list_any (makes_invalid (length (configs_of seen.lives) + 1)) (findings seen.system (configs_of seen.lives ++ create.new ∷ []))
test_of seen create Overlap = list_any (makes_busy (length (configs_of seen.lives) + 1)) (findings seen.system (configs_of seen.lives ++ create.new ∷ []))
test_of seen create FewPages = nat_lt create.pool (pages_with seen create.new)

namesake_words : (new cell : CellConfig) → is_namesake new cell ≡ true → (cell.id ≡ new.id) ⊎ (name_of cell ≡ name_of new)
namesake_words new cell t =
    elim (or_cases (cell.id == new.id) (pointwise nat_eq (name_of cell) (name_of new)) t) [
      | inl same ↦ inl (eqb-true cell.id new.id same)
      | inr same ↦ inr (same_text (name_of cell) (name_of new) (sym same))
    ]

named_same : (xs ys : List ℕ) → xs ≡ ys → pointwise nat_eq xs ys ≡ true
named_same xs ys e =
    elim (cases_Bool (pointwise nat_eq xs ys)) [
      | inl same ↦ same
      | inr other ↦ absurd (other_text xs ys (sym other) e)
    ]

words_namesake : (new cell : CellConfig) → (cell.id ≡ new.id) ⊎ (name_of cell ≡ name_of new) → is_namesake new cell ≡ true
words_namesake new cell (inl same) = or_left (cell.id == new.id) (pointwise nat_eq (name_of cell) (name_of new)) (eq-eqb cell.id new.id same)
words_namesake new cell (inr same) = or_right (cell.id == new.id) (pointwise nat_eq (name_of cell) (name_of new)) (named_same (name_of cell) (name_of new) same)

known_words : (seen : CellsView) (new : CellConfig) → is_known (numbered_cells seen) new ≡ true → IsKnownTo seen new
known_words seen new t =
    let r = IsFound_from_list_any (is_namesake new) (numbered_cells seen) t in
    record { cell = r.0; lives = r.1.among; same = namesake_words new r.0 r.1.passes }

words_known : (seen : CellsView) (new : CellConfig) → IsKnownTo seen new → is_known (numbered_cells seen) new ≡ true
words_known seen new h = list_any_from_Contains (is_namesake new) (numbered_cells seen) h.cell h.lives (words_namesake new h.cell h.same)

taken_words : (owned caller cpu : ℕ) → may_have owned caller cpu ≡ false → (has_bit owned cpu ≡ false) ⊎ (cpu ≡ caller)
taken_words owned caller cpu f =
    elim (cases_Bool (has_bit owned cpu)) [
      | inl set ↦ elim (cases_Bool (cpu == caller)) [
        | inl same ↦ inr (eqb-true cpu caller same)
        | inr other ↦ absurd (false≢true (sym f ∙ and_from (has_bit owned cpu) (not (cpu == caller)) set (not_from_false (cpu == caller) other)))
      ]
      | inr unset ↦ inl unset
    ]

words_taken : (owned caller cpu : ℕ) → (has_bit owned cpu ≡ false) ⊎ (cpu ≡ caller) → may_have owned caller cpu ≡ false
words_taken owned caller cpu (inl unset) =
    false_from_ne_true (may_have owned caller cpu) (λ t. false≢true (sym unset ∙ (and_parts (has_bit owned cpu) (not (cpu == caller)) t).0))
words_taken owned caller cpu (inr same) =
    false_from_ne_true (may_have owned caller cpu) (λ t. false≢true (sym (not-true (cpu == caller) (and_parts (has_bit owned cpu) (not (cpu == caller)) t).1) ∙ eq-eqb cpu caller same))

cpu_words : (seen : CellsView) (create : Create) → test_of seen create TakenCpu ≡ true → NamesTakenCpu create
cpu_words seen create t =
    let r = beyond_named (may_have create.owned create.caller) create.new.cpu_set t in
    record { cpu = r.0; named = r.1; taken = taken_words create.owned create.caller r.0 r.2 }

words_cpu : (seen : CellsView) (create : Create) → NamesTakenCpu create → test_of seen create TakenCpu ≡ true
words_cpu seen create h =
    named_beyond (may_have create.owned create.caller) create.new.cpu_set h.cpu h.named (words_taken create.owned create.caller h.cpu h.taken)

abbrev IsNamed : ℕ → Finding → Type 0
IsNamed n finding = (finding.cell ≡ n) ⊎ (finding.other_cell ≡ n)

names_words : (n : ℕ) (finding : Finding) → names n finding ≡ true → IsNamed n finding
names_words n finding t =
    elim (or_cases (finding.cell == n) (finding.other_cell == n) t) [
      | inl same ↦ inl (eqb-true finding.cell n same)
      | inr same ↦ inr (eqb-true finding.other_cell n same)
    ]

words_names : (n : ℕ) (finding : Finding) → IsNamed n finding → names n finding ≡ true
words_names n finding (inl same) = or_left (finding.cell == n) (finding.other_cell == n) (eq-eqb finding.cell n same)
words_names n finding (inr same) = or_right (finding.cell == n) (finding.other_cell == n) (eq-eqb finding.other_cell n same)

-- what is found of the new cell, and tells of two cells or doesn't
abbrev TestsKind : (Finding → Bool) → ℕ → Bool → Type 0
TestsKind test n overlaps = (finding : Finding) → (test finding ≡ true) ↔ ((names n finding ≡ true) × (is_cells_overlap finding ≡ overlaps))

invalid_kind : (n : ℕ) → TestsKind (makes_invalid n) n false
invalid_kind n = λ finding. (
  λ t. (let p = and_parts (names n finding) (not (is_cells_overlap finding)) t in (p.0, not-true (is_cells_overlap finding) p.1)),
  λ p. and_from (names n finding) (not (is_cells_overlap finding)) p.0 (not_from_false (is_cells_overlap finding) p.1),
)

busy_kind : (n : ℕ) → TestsKind (makes_busy n) n true
busy_kind n = λ finding.
    (λ t. and_parts (names n finding) (is_cells_overlap finding) t, λ p. and_from (names n finding) (is_cells_overlap finding) p.0 p.1)

found_words : (seen : CellsView) (new : CellConfig) (overlaps : Bool) (test : Finding → Bool) → TestsKind test (length (configs_of seen.lives) + 1) overlaps → list_any test (findings seen.system (configs_of seen.lives ++ new ∷ [])) ≡ true → BreaksRule seen new overlaps
found_words seen new overlaps test kind t =
    let cells = configs_of seen.lives ++ new ∷ [] in
    let r = IsFound_from_list_any test (findings seen.system cells) t in
    let p = (kind r.0).0 r.1.passes in
    record {
      finding = r.0;
      broken = broken_from_listed seen.system cells r.0 r.1.among;
      named = names_words (length (configs_of seen.lives) + 1) r.0 p.0;
      kind = p.1;
    }

words_found : (seen : CellsView) (new : CellConfig) (overlaps : Bool) (test : Finding → Bool) → TestsKind test (length (configs_of seen.lives) + 1) overlaps → BreaksRule seen new overlaps → list_any test (findings seen.system (configs_of seen.lives ++ new ∷ [])) ≡ true
words_found seen new overlaps test kind h =
    let cells = configs_of seen.lives ++ new ∷ [] in
    list_any_from_Contains test (findings seen.system cells) h.finding (listed_from_broken seen.system cells h.finding h.broken)
    ((kind h.finding).1 (words_names (length (configs_of seen.lives) + 1) h.finding h.named, h.kind))

holds_from : (seen : CellsView) (create : Create) (cause : Cause) → test_of seen create cause ≡ true → SpeaksAgainst seen create cause
holds_from seen create Locked t = t
holds_from seen create Known t = known_words seen create.new t
holds_from seen create TakenCpu t = cpu_words seen create t
holds_from seen create BrokenRule t = found_words seen create.new false (makes_invalid (length (configs_of seen.lives) + 1)) (invalid_kind (length (configs_of seen.lives) + 1)) t
holds_from seen create Overlap t = found_words seen create.new true (makes_busy (length (configs_of seen.lives) + 1)) (busy_kind (length (configs_of seen.lives) + 1)) t
holds_from seen create FewPages t = ltb-true create.pool (pages_with seen create.new) t

holds_to : (seen : CellsView) (create : Create) (cause : Cause) → SpeaksAgainst seen create cause → test_of seen create cause ≡ true
holds_to seen create Locked h = h
holds_to seen create Known h = words_known seen create.new h
holds_to seen create TakenCpu h = words_cpu seen create h
holds_to seen create BrokenRule h = words_found seen create.new false (makes_invalid (length (configs_of seen.lives) + 1)) (invalid_kind (length (configs_of seen.lives) + 1)) h
holds_to seen create Overlap h = words_found seen create.new true (makes_busy (length (configs_of seen.lives) + 1)) (busy_kind (length (configs_of seen.lives) + 1)) h
holds_to seen create FewPages h = lt-ltb create.pool (pages_with seen create.new) h

first_words : (seen : CellsView) (create : Create) (cause : Cause) → IsFirstOf (test_of seen create) cause → IsFirst seen create cause
first_words seen create cause first = record {
  holds = holds_from seen create cause first.passes;
  none = λ other l h. false≢true (sym (first.none other l) ∙ holds_to seen create other h);
}

words_first : (seen : CellsView) (create : Create) (cause : Cause) → IsFirst seen create cause → IsFirstOf (test_of seen create) cause
words_first seen create cause first = record {
  passes = holds_to seen create cause first.holds;
  none = λ other l. false_from_ne_true (test_of seen create other) (λ t. first.none other l (holds_from seen create other t));
}

-- ---- what is told

told : (seen : CellsView) (create : Create) → IsFirstCause (test_of seen create) (verdict_on seen create) ⊎ IsNoCause (test_of seen create) (verdict_on seen create)
unfolding refusal_of verdict_of
told seen create =
    let test = test_of seen create in
    told_by test (test Locked) (test Known) (test TakenCpu) (test BrokenRule) (test Overlap) (test FewPages) refl refl refl refl refl refl

pub cause_from : (seen : CellsView) (create : Create) (number : ℤ) → verdict_on seen create ≡ Some number → (cause : Cause) × IsFirst seen create cause × (number ≡ number_for cause)
cause_from seen create number e =
    elim (told seen create) [
      | inl s ↦ (s.0, first_words seen create s.0 s.1, same_Some number (number_for s.0) (sym e ∙ s.2))
      | inr n ↦ absurd (none-some number (sym n.1 ∙ e))
    ]

pub cause_to : (seen : CellsView) (create : Create) (cause : Cause) → IsFirst seen create cause → verdict_on seen create ≡ Some (number_for cause)
cause_to seen create cause first =
    let is = words_first seen create cause first in
    elim (told seen create) [
      | inl s ↦ s.2 ∙ ap (λ c. Some (number_for c)) (one_first (test_of seen create) s.0 cause s.1 is)
      | inr n ↦ absurd (false≢true (sym (n.0 cause) ∙ is.passes))
    ]

pub none_from : (seen : CellsView) (create : Create) → verdict_on seen create ≡ None → (cause : Cause) → SpeaksAgainst seen create cause → ⊥
none_from seen create e cause h =
    elim (told seen create) [
      | inl s ↦ none-some (number_for s.0) (sym e ∙ s.2)
      | inr n ↦ false≢true (sym (n.0 cause) ∙ holds_to seen create cause h)
    ]

pub none_to : (seen : CellsView) (create : Create) → ((cause : Cause) → SpeaksAgainst seen create cause → ⊥) → verdict_on seen create ≡ None
none_to seen create h =
    elim (told seen create) [
      | inl s ↦ absurd (h s.0 (holds_from seen create s.0 s.1.passes))
      | inr n ↦ n.1
    ]

-- ---- each number

pub first_locked : (seen : CellsView) (create : Create) → create.locked ≡ true → IsFirst seen create Locked
first_locked seen create h = record { holds = h; none = λ other l. absurd (omega arith) }

pub permission_cause : (cause : Cause) → EPERM ≡ number_for cause → cause ≡ Locked
permission_cause Locked e = refl
permission_cause Known e = cc
permission_cause TakenCpu e = cc
permission_cause BrokenRule e = cc
permission_cause Overlap e = cc
permission_cause FewPages e = cc

pub known_cause : (cause : Cause) → EEXIST ≡ number_for cause → cause ≡ Known
known_cause Locked e = cc
known_cause Known e = refl
known_cause TakenCpu e = cc
known_cause BrokenRule e = cc
known_cause Overlap e = cc
known_cause FewPages e = cc

tells_busy : Cause → Bool
tells_busy Locked = false
tells_busy Known = false
tells_busy TakenCpu = true
tells_busy BrokenRule = false
tells_busy Overlap = true
tells_busy FewPages = false

number_busy : (cause : Cause) → EBUSY ≡ number_for cause → tells_busy cause ≡ true
unfolding tells_busy
number_busy Locked e = cc
number_busy Known e = cc
number_busy TakenCpu e = refl
number_busy BrokenRule e = cc
number_busy Overlap e = refl
number_busy FewPages e = cc

two_busy : (cause : Cause) → tells_busy cause ≡ true → (cause ≡ TakenCpu) ⊎ (cause ≡ Overlap)
unfolding tells_busy
two_busy Locked t = absurd (false≢true t)
two_busy Known t = absurd (false≢true t)
two_busy TakenCpu t = inl refl
two_busy BrokenRule t = absurd (false≢true t)
two_busy Overlap t = inr refl
two_busy FewPages t = absurd (false≢true t)

pub busy_cause : (cause : Cause) → EBUSY ≡ number_for cause → (cause ≡ TakenCpu) ⊎ (cause ≡ Overlap)
busy_cause cause e = two_busy cause (number_busy cause e)

pub invalid_cause : (cause : Cause) → EINVAL ≡ number_for cause → cause ≡ BrokenRule
invalid_cause Locked e = cc
invalid_cause Known e = cc
invalid_cause TakenCpu e = cc
invalid_cause BrokenRule e = refl
invalid_cause Overlap e = cc
invalid_cause FewPages e = cc

pub pages_cause : (cause : Cause) → ENOMEM ≡ number_for cause → cause ≡ FewPages
pages_cause Locked e = cc
pages_cause Known e = cc
pages_cause TakenCpu e = cc
pages_cause BrokenRule e = cc
pages_cause Overlap e = cc
pages_cause FewPages e = refl
