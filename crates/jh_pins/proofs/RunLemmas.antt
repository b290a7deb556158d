-- The runs of a set of pins, chip by chip.
use Rattle.std.proofs.Common.{◌≡◌, ℕ, ◌+◌, ◌-◌, ◌<◌, ◌≤◌, Bool, true, false, cond, eqb, leb, ltb, not, ◌&&◌, ◌||◌, List, [], ◌∷◌, ◌++◌, length, get_or, map, take, Option, Some, None, refl, sym, ap, subst, ◌∙◌, append_assoc, ⊎_elim, ◌⊎◌, inl, inr, arith}
use Rattle.std.specs.Prelude.{All}
use Rattle.std.specs.List.{list_any}
use Rattle.std.proofs.lemmas.Bool.{and_from, and_left, and_parts, and_right, both_ways, cases_Bool, eq-eqb, eqb-true, false_from_ne_true, false≢true, le-leb, leb-false, leb-true, lt-leb, ltb-false, ltb-true, ne_eqb, or_cases, or_from, or_left, or_right}
use Rattle.std.proofs.lemmas.List.{append-nil, take_more}
use Rattle.std.proofs.lemmas.List.Elements.{All-nil, All-push, All-weaker, Contains-append_left, Contains-append_right}
use Rattle.std.proofs.lemmas.List.Quantifiers.{all_pairs_push}
use Rattle.std.proofs.Math.Bool.{or-false}
use Rattle.jh_num.specs.declared.range.Range.{Range}
use Rattle.jh_num.specs.Bytes.{in_range, has_byte, AreApart, AreApartFrom}
use Rattle.jh_num.proofs.Public.{above_range, within_range, IsFound_from_list_any, Contains_head}
use Rattle.jh_cellcfg.specs.declared.config.Irqchip.{Irqchip}
use Rattle.jh_pins.specs.declared.pin.Pin.{Pin}
use Rattle.jh_pins.specs.declared.pin.PinRun.{PinRun}
use Rattle.jh_pins.specs.Pins.{is_set, is_given_by}
use Rattle.jh_pins.specs.Runs.{pin_of, IsRunOf, IsInRun, StandsBefore, AreRuns}
use Rattle.jh_pins.specs.Private.Given.{is_before, is_done, nearer, is_given, run_on, IsNextChip}

-- ---- sets of pins

-- two tests that agree have the same runs
pub same_runs : (has other : Pin → Bool) (runs : List PinRun) → ((pin : Pin) → has pin ≡ other pin) → AreRuns has runs → AreRuns other runs
same_runs has other runs same are =
    let P : (Pin → Bool) → Type 0 = λ f. AreRuns f runs in
    let e : has ≡ other = λ i pin. same pin i in
    subst P e are

-- the runs of no pins
pub no_runs : (has : Pin → Bool) → ((pin : Pin) → has pin ≡ false) → AreRuns has []
no_runs has none = record {
  own = All-nil (IsRunOf has);
  whole = λ pin is. absurd (both_ways (has pin) (none pin) is);
  order = λ i j d lt jl. absurd (omega arith);
}

-- ---- one row of numbers more

-- the pin is of the chip, and has a number of the row
abbrev is_in_row : ℕ → Range → Pin → Bool
is_in_row chip row pin = eqb pin.chip chip && in_range row pin.number

in_row : (chip : ℕ) (row : Range) (pin : Pin) → is_in_row chip row pin ≡ true → (pin.chip ≡ chip) × (row.start ≤ pin.number) × (pin.number < row.end)
in_row chip row pin is =
    let own = and_parts (eqb pin.chip chip) (in_range row pin.number) is in
    let ends = and_parts (leb row.start pin.number) (ltb pin.number row.end) own.1 in
    (eqb-true pin.chip chip own.0, leb-true row.start pin.number ends.0, ltb-true pin.number row.end ends.1)

-- the pin is of the chip, and has a number of one of the rows
abbrev is_in_rows : ℕ → List Range → Pin → Bool
is_in_rows chip rows pin = eqb pin.chip chip && has_byte rows pin.number

-- the pin is of an earlier chip, or of this one and not touched by a row from `low` on
abbrev IsBelow : ℕ → ℕ → Pin → Type 0
IsBelow chip low pin = (pin.chip < chip) ⊎ ((pin.chip ≡ chip) × (pin.number + 1 < low))

-- so is each pin of the set
abbrev AreBelow : ℕ → ℕ → (Pin → Bool) → Type 0
AreBelow chip low has = (pin : Pin) → has pin ≡ true → IsBelow chip low pin

below_more : (chip low high : ℕ) (pin : Pin) → low ≤ high → IsBelow chip low pin → IsBelow chip high pin
below_more chip low high pin le (inl earlier) = inl earlier
below_more chip low high pin le (inr same) = let lt = same.1 in inr (same.0, omega arith)

-- the set has no pin of the chip that the row has or touches
none_touched : (has : Pin → Bool) (chip low n : ℕ) → AreBelow chip low has → low ≤ n + 1 → has (pin_of chip n) ≡ false
none_touched has chip low n below le = false_from_ne_true (has (pin_of chip n)) (λ is.
    ⊎_elim (λ earlier. absurd (omega arith)) (λ same. let lt = same.1 in absurd (omega arith)) (below (pin_of chip n) is))

last_in : (has : Pin → Bool) (run : PinRun) → IsRunOf has run → has (pin_of run.chip run.last) ≡ true
last_in has run of = let some = of.some in of.each run.last some (omega arith)

-- the row has no pin of a run's chip up to the one behind the run
row_past : (chip : ℕ) (row : Range) (run : PinRun) (n : ℕ) → IsBelow chip row.start (pin_of run.chip run.last) → n ≤ run.last + 1 → is_in_row chip row (pin_of run.chip n) ≡ false
row_past chip row run n below le = false_from_ne_true (is_in_row chip row (pin_of run.chip n)) (λ is.
    let parts = in_row chip row (pin_of run.chip n) is in
    let same = parts.0 in
    let low = parts.1 in
    ⊎_elim (λ earlier. absurd (omega arith)) (λ here. let lt = here.1 in absurd (omega arith)) below)

-- a run of the set is one still
kept_run : (has : Pin → Bool) (chip : ℕ) (row : Range) (run : PinRun) → AreBelow chip row.start has → IsRunOf has run → IsRunOf (λ pin. has pin || is_in_row chip row pin) run
kept_run has chip row run below of =
    let some = of.some in
    let last = below (pin_of run.chip run.last) (last_in has run of) in
    record {
      some = some;
      each = λ n low high. or_left (has (pin_of run.chip n)) (is_in_row chip row (pin_of run.chip n)) (of.each n low high);
      before = λ n e. or_from (has (pin_of run.chip n)) (is_in_row chip row (pin_of run.chip n)) (of.before n e) (row_past chip row run n last (omega arith));
      behind = or_from (has (pin_of run.chip (run.last + 1))) (is_in_row chip row (pin_of run.chip (run.last + 1))) of.behind (row_past chip row run (run.last + 1) last (omega arith));
    }

-- and the row is one more
new_run : (has : Pin → Bool) (chip : ℕ) (row : Range) → row.start < row.end → AreBelow chip row.start has → IsRunOf (λ pin. has pin || is_in_row chip row pin) (run_on chip row)
new_run has chip row some below = record {
  some = omega arith;
  each = λ n low high. or_right (has (pin_of chip n)) (is_in_row chip row (pin_of chip n)) (and_from (eqb chip chip) (in_range row n) (eq-eqb chip chip refl) (within_range row n low (omega arith)));
  before = λ n e. or_from (has (pin_of chip n)) (is_in_row chip row (pin_of chip n)) (none_touched has chip row.start n below (omega arith))
      (false_from_ne_true (is_in_row chip row (pin_of chip n)) (λ is. let parts = in_row chip row (pin_of chip n) is in let low = parts.1 in absurd (omega arith)));
  behind = or_from (has (pin_of chip ((row.end - 1) + 1))) (is_in_row chip row (pin_of chip ((row.end - 1) + 1))) (none_touched has chip row.start ((row.end - 1) + 1) below (omega arith))
      (and_right (eqb chip chip) (in_range row ((row.end - 1) + 1)) (above_range row ((row.end - 1) + 1) (omega arith)));
}

told : (has : Pin → Bool) (chip : ℕ) (row : Range) (runs : List PinRun) (pin : Pin) → AreRuns has runs → (has pin || is_in_row chip row pin) ≡ true → IsInRun (runs ++ run_on chip row ∷ []) pin
told has chip row runs pin are is =
    ⊎_elim
    (λ (old : has pin ≡ true).
    let at = are.whole pin old in
    record { run = at.run; among = Contains-append_left runs (run_on chip row ∷ []) at.run at.among; has = at.has })
    (λ (new : is_in_row chip row pin ≡ true).
    let parts = in_row chip row pin new in
    let high = parts.2 in
    record { run = run_on chip row; among = Contains-append_right runs (run_on chip row ∷ []) (run_on chip row) (Contains_head (run_on chip row) []); has = record { chip = parts.0; first = parts.1; last = omega arith } })
    (or_cases (has pin) (is_in_row chip row pin) is)

row_more : (has : Pin → Bool) (chip : ℕ) (row : Range) (runs : List PinRun) → row.start < row.end → AreBelow chip row.start has → AreRuns has runs → AreRuns (λ pin. has pin || is_in_row chip row pin) (runs ++ run_on chip row ∷ [])
row_more has chip row runs some below are = record {
  own = All-push (IsRunOf more) runs (run_on chip row) (All-weaker (IsRunOf has) (IsRunOf more) (λ run of. kept_run has chip row run below of) runs are.own) (new_run has chip row some below);
  whole = λ pin is. told has chip row runs pin are is;
  order = all_pairs_push StandsBefore runs (run_on chip row) are.order (λ k d kl. behind (get_or runs k d) (are.own k d kl));
}
  where
    more : Pin → Bool
    more pin = has pin || is_in_row chip row pin

    behind : (run : PinRun) → IsRunOf has run → StandsBefore run (run_on chip row)
    behind run of = ⊎_elim (λ earlier. inl earlier) (λ same. let lt = same.1 in inr (same.0, omega arith)) (below (pin_of run.chip run.last) (last_in has run of))

-- so one row after another
rows_more : (has : Pin → Bool) (chip low : ℕ) (rows : List Range) (runs : List PinRun) → AreApartFrom low rows → AreBelow chip low has → AreRuns has runs → AreRuns (λ pin. has pin || is_in_rows chip rows pin) (runs ++ map (run_on chip) rows)
rows_more has chip low [] runs apart below are =
    subst (AreRuns (λ pin. has pin || is_in_rows chip [] pin)) (sym (append-nil runs))
    (same_runs has (λ pin. has pin || is_in_rows chip [] pin) runs (λ pin. sym (ap (λ b. has pin || b) (and_right (eqb pin.chip chip) false refl) ∙ or-false (has pin))) are)
rows_more has chip low (row ∷ rows) runs apart below are =
    let first = apart.0 in
    let some = apart.1 in
    let all = rows_more more chip (row.end + 1) rows (runs ++ run_on chip row ∷ []) apart.2 (λ pin is. past pin first some (or_cases (has pin) (is_in_row chip row pin) is))
    (row_more has chip row runs some (λ pin is. below_more chip low row.start pin first (below pin is)) are) in
    subst (AreRuns (λ pin. has pin || is_in_rows chip (row ∷ rows) pin)) (append_assoc runs (run_on chip row ∷ []) (map (run_on chip) rows))
    (same_runs (λ pin. more pin || is_in_rows chip rows pin) (λ pin. has pin || is_in_rows chip (row ∷ rows) pin) ((runs ++ run_on chip row ∷ []) ++ map (run_on chip) rows) (λ pin. spread (has pin) (eqb pin.chip chip) (in_range row pin.number) (has_byte rows pin.number)) all)
  where
    more : Pin → Bool
    more pin = has pin || is_in_row chip row pin

    past : (pin : Pin) → low ≤ row.start → row.start < row.end → (has pin ≡ true) ⊎ (is_in_row chip row pin ≡ true) → IsBelow chip (row.end + 1) pin
    past pin first some (inl old) = below_more chip low (row.end + 1) pin (omega arith) (below pin old)
    past pin first some (inr new) =
        let parts = in_row chip row pin new in
        let high = parts.2 in
        inr (parts.0, omega arith)

    spread : (has chip one others : Bool) → ((has || (chip && one)) || (chip && others)) ≡ (has || (chip && (one || others)))
    spread true chip one others = refl
    spread false true one others = refl
    spread false false one others = refl

-- ---- chip after chip

-- the pin is of a chip that is done with, and in the set
abbrev pub is_upto : Option ℕ → (Pin → Bool) → Pin → Bool
is_upto last has pin = is_done last pin.chip && has pin

-- the least chip that isn't done with, of those that the set's pins are of
abbrev IsNextOf : (Pin → Bool) → Option ℕ → ℕ → Type 0
IsNextOf has last chip = (is_done last chip ≡ false) × ((pin : Pin) → has pin ≡ true → is_done last pin.chip ≡ false → chip ≤ pin.chip)

-- the numbers are those of the chip's pins in the set
abbrev pub AreNumbers : ℕ → (Pin → Bool) → List Range → Type 0
AreNumbers chip has rows = (n : ℕ) → has_byte rows n ≡ has (pin_of chip n)

on_chip : (chip : ℕ) (has : Pin → Bool) (rows : List Range) (pin : Pin) → AreNumbers chip has rows → is_in_rows chip rows pin ≡ (eqb pin.chip chip && has pin)
on_chip chip has rows pin are =
    ⊎_elim
    (λ (own : eqb pin.chip chip ≡ true). ap (λ b. eqb pin.chip chip && b) (are pin.number ∙ ap (λ c. has (pin_of c pin.number)) (sym (eqb-true pin.chip chip own))))
    (λ (other : eqb pin.chip chip ≡ false). and_left (eqb pin.chip chip) (has_byte rows pin.number) other ∙ sym (and_left (eqb pin.chip chip) (has pin) other))
    (cases_Bool (eqb pin.chip chip))

done_below : (last : Option ℕ) (chip other : ℕ) → is_done last chip ≡ false → is_done last other ≡ true → other < chip
done_below None chip other not_done is = absurd (false≢true is)
done_below (Some last) chip other not_done is =
    let past = leb-false chip last not_done in
    let upto = leb-true other last is in
    omega arith

step_by : (has : Bool) (last : Option ℕ) (chip other : ℕ) → is_done last chip ≡ false → (has ≡ true → is_done last other ≡ false → chip ≤ other) → ((is_done last other && has) || (eqb other chip && has)) ≡ (leb other chip && has)
step_by false last chip other past least =
    or_from (is_done last other && false) (eqb other chip && false) (and_right (is_done last other) false refl) (and_right (eqb other chip) false refl) ∙ sym (and_right (leb other chip) false refl)
step_by true last chip other past least =
    ⊎_elim
    (λ (done : is_done last other ≡ true).
    let lt = done_below last chip other past done in
    or_left (is_done last other && true) (eqb other chip && true) (and_from (is_done last other) true done refl) ∙ sym (and_from (leb other chip) true (le-leb other chip (omega arith)) refl))
    (λ (undone : is_done last other ≡ false).
    let le = least refl undone in
    ⊎_elim
    (λ (same : other ≡ chip).
    or_right (is_done last other && true) (eqb other chip && true) (and_from (eqb other chip) true (eq-eqb other chip same) refl) ∙ sym (and_from (leb other chip) true (le-leb other chip (omega arith)) refl))
    (λ (ne : other ≡ chip → ⊥).
    or_from (is_done last other && true) (eqb other chip && true) (and_left (is_done last other) true undone) (and_left (eqb other chip) true (ne_eqb other chip ne)) ∙ sym (and_left (leb other chip) true (lt-leb other chip (omega arith))))
    (cases_same other chip))
    (cases_Bool (is_done last other))
  where
    cases_same : (m n : ℕ) → (m ≡ n) ⊎ (m ≡ n → ⊥)
    cases_same m n = ⊎_elim (λ (e : eqb m n ≡ true). inl (eqb-true m n e)) (λ (e : eqb m n ≡ false). inr (λ same. both_ways (eqb m n) e (eq-eqb m n same))) (cases_Bool (eqb m n))

next_by : (has : Pin → Bool) (last : Option ℕ) (chip : ℕ) (rows : List Range) (runs : List PinRun) → IsNextOf has last chip → AreApart rows → AreNumbers chip has rows → AreRuns (is_upto last has) runs → AreRuns (is_upto (Some chip) has) (runs ++ map (run_on chip) rows)
next_by has last chip rows runs next apart are so_far =
    same_runs (λ pin. is_upto last has pin || is_in_rows chip rows pin) (is_upto (Some chip) has) (runs ++ map (run_on chip) rows)
    (λ pin. ap (λ b. is_upto last has pin || b) (on_chip chip has rows pin are) ∙ step_by (has pin) last chip pin.chip next.0 (next.1 pin))
    (rows_more (is_upto last has) chip 0 rows runs apart
    (λ pin is. inl (done_below last chip pin.chip next.0 (and_parts (is_done last pin.chip) (has pin) is).0))
    so_far)

-- ---- the pins of irqchips

-- a pin that is given is of its irqchip's chip
given_chip : (pin : Pin) (irqchips : List Irqchip) (P : ℕ → Type 0) → All (λ (irqchip : Irqchip). P irqchip.address) irqchips → is_given irqchips pin ≡ true → P pin.chip
given_chip pin irqchips P each given =
    let found = IsFound_from_list_any (is_given_by pin) irqchips given in
    let irqchip : Irqchip = found.0 in
    let place = found.1.among in
    let Q : Irqchip → Type 0 = λ x. P x.address in
    let at : P irqchip.address = subst Q place.2 (each place.0 irqchip place.1) in
    let same : irqchip.address ≡ pin.chip = eqb-true irqchip.address pin.chip (and_parts (eqb irqchip.address pin.chip) (leb irqchip.pin_base pin.number && is_set irqchip.pin_bitmap (pin.number - irqchip.pin_base)) found.1.passes).0 in
    subst P same at

pub next_chip : (irqchips : List Irqchip) (last : Option ℕ) (chip : ℕ) (rows : List Range) (runs : List PinRun) → IsNextChip irqchips last (Some chip) → AreApart rows → AreNumbers chip (is_given irqchips) rows
    → AreRuns (is_upto last (is_given irqchips)) runs → AreRuns (is_upto (Some chip) (is_given irqchips)) (runs ++ map (run_on chip) rows)
next_chip irqchips last chip rows runs next apart are so_far =
    next_by (is_given irqchips) last chip rows runs
    (next.0, λ pin is undone. given_chip pin irqchips (λ c. is_done last c ≡ false → chip ≤ c) next.1 is undone)
    apart are so_far

pub all_done : (irqchips : List Irqchip) (last : Option ℕ) (runs : List PinRun) → IsNextChip irqchips last None → AreRuns (is_upto last (is_given irqchips)) runs → AreRuns (is_given irqchips) runs
all_done irqchips last runs none so_far =
    same_runs (is_upto last (is_given irqchips)) (is_given irqchips) runs
    (λ pin. by_given pin (is_given irqchips pin) refl)
    so_far
  where
    done_with : (d m : Bool) → d ≡ true → (d && m) ≡ m
    done_with true m e = refl
    done_with false m e = absurd (false≢true e)

    by_given : (pin : Pin) (given : Bool) → is_given irqchips pin ≡ given → is_upto last (is_given irqchips) pin ≡ is_given irqchips pin
    by_given pin true is = done_with (is_done last pin.chip) (is_given irqchips pin) (given_chip pin irqchips (λ c. is_done last c ≡ true) none is)
    by_given pin false is = and_right (is_done last pin.chip) (is_given irqchips pin) is ∙ sym is

-- ---- the least address

-- the chip isn't past the irqchip's, if that isn't done with
abbrev IsLeastAt : Option ℕ → ℕ → Irqchip → Type 0
IsLeastAt last chip irqchip = is_done last irqchip.address ≡ false → chip ≤ irqchip.address

-- the irqchip's chip is done with
abbrev IsDoneWith : Option ℕ → Irqchip → Type 0
IsDoneWith last irqchip = is_done last irqchip.address ≡ true

less_far : (last : Option ℕ) (n m : ℕ) (irqchip : Irqchip) → m ≤ n → IsLeastAt last n irqchip → IsLeastAt last m irqchip
less_far last n m irqchip le far undone = let at = far undone in omega arith

by_before : (last : Option ℕ) (xs : List Irqchip) (x : Irqchip) (n : ℕ) (b : Bool) → ltb x.address n ≡ b → is_done last x.address ≡ false → (is_done last n ≡ false) × All (IsLeastAt last n) xs → IsNextChip (xs ++ x ∷ []) last (cond b (Some x.address) (Some n))
by_before last xs x n true lt undone are =
    let less = ltb-true x.address n lt in
    (undone, All-push (IsLeastAt last x.address) xs x (All-weaker (IsLeastAt last n) (IsLeastAt last x.address) (λ irqchip far. less_far last n x.address irqchip (omega arith) far) xs are.1) (λ is. omega arith))
by_before last xs x n false ge undone are =
    let more = ltb-false x.address n ge in
    (are.0, All-push (IsLeastAt last n) xs x are.1 (λ is. more))

by_done : (last : Option ℕ) (xs : List Irqchip) (x : Irqchip) (d : Bool) → is_done last x.address ≡ d → (o : Option ℕ) → IsNextChip xs last o → IsNextChip (xs ++ x ∷ []) last (cond (not d && is_before x.address o) (Some x.address) o)
by_done last xs x true is None are = All-push (IsDoneWith last) xs x are is
by_done last xs x true is (Some n) are = (are.0, All-push (IsLeastAt last n) xs x are.1 (λ undone. absurd (both_ways (is_done last x.address) undone is)))
by_done last xs x false is None are =
    (is, All-push (IsLeastAt last x.address) xs x (All-weaker (IsDoneWith last) (IsLeastAt last x.address) (λ irqchip done undone. absurd (both_ways (is_done last irqchip.address) undone done)) xs are) (λ undone. omega arith))
by_done last xs x false is (Some n) are = by_before last xs x n (ltb x.address n) refl is are

one_nearer : (last next : Option ℕ) (xs : List Irqchip) (x : Irqchip) → IsNextChip xs last next → IsNextChip (xs ++ x ∷ []) last (nearer last next x.address)
one_nearer last next xs x so_far = by_done last xs x (is_done last x.address) refl next so_far

pub nearer_more : (last next : Option ℕ) (xs : List Irqchip) (i : ℕ) (d : Irqchip) → i < length xs → IsNextChip (take i xs) last next → IsNextChip (take (i + 1) xs) last (nearer last next (get_or xs i d).address)
nearer_more last next xs i d lt so_far =
    let P : List Irqchip → Type 0 = λ l. IsNextChip l last (nearer last next (get_or xs i d).address) in
    subst P (sym (take_more xs i d lt)) (one_nearer last next (take i xs) (get_or xs i d) so_far)
