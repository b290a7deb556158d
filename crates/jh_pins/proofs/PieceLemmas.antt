-- Runs that two sets have in common, and those that one leaves of another, piece after piece.
use Rattle.std.proofs.Common.{◌≡◌, ℕ, suc, ◌+◌, ◌-◌, ◌<◌, ◌≤◌, Bool, true, false, not, ◌&&◌, max, min, List, [], ◌∷◌, ◌++◌, length, get_or, Option, Some, None, refl, sym, ap, subst, ◌∙◌, ⊎_elim, ◌⊎◌, inl, inr, arith}
use Rattle.std.specs.Prelude.{All, AllPairs, Contains}
use Rattle.std.specs.List.{slice_get}
use Rattle.std.proofs.lemmas.Bool.{and_from, and_left, and_parts, and_right, both_ways, cases_lt, cases_order, false_from_ne_true}
use Rattle.std.proofs.Math.Bool.{and_comm}
use Rattle.std.proofs.lemmas.List.{append-nil, get_or_default}
use Rattle.std.proofs.lemmas.List.Elements.{All-nil, All-push, All-weaker, Contains-append_left, Contains-push, Contains-push_cases}
use Rattle.std.proofs.lemmas.List.Quantifiers.{all_pairs_push}
use Rattle.std.proofs.lemmas.Option.{get_or_from_slice_get, none-some, slice_get-get_or, slice_get_within}
use Rattle.jh_pins.specs.declared.pin.Pin.{Pin}
use Rattle.jh_pins.specs.declared.pin.PinRun.{PinRun}
use Rattle.jh_pins.specs.Runs.{pin_of, IsIn, IsRunOf, IsInRun, StandsBefore, AreRuns}
use Rattle.jh_pins.specs.Private.Pieces.{is_common, is_without, pieces, EndsBefore, BeginsBehind, EndsBy, IsPast, IsUpTo, IsReached, FollowsIt, IsFollowedByIt, IsPieceOf, IsBetween, IsMeeting}

-- ---- a run and a pin

-- the pin is behind the run, in it, or before it
pub place_of : (run : PinRun) (pin : Pin) → EndsBefore run pin ⊎ (IsIn run pin ⊎ BeginsBehind run pin)
place_of run pin =
    ⊎_elim
    (λ (same : run.chip ≡ pin.chip).
    ⊎_elim
    (λ (lt : run.last < pin.number). inl (inr (same, lt)))
    (λ (le : pin.number ≤ run.last).
    ⊎_elim
    (λ (gt : pin.number < run.first). inr (inr (inr (sym same, gt))))
    (λ (ge : run.first ≤ pin.number). inr (inl (record { chip = sym same; first = ge; last = le })))
    (cases_lt pin.number run.first))
    (cases_lt run.last pin.number))
    (λ o. ⊎_elim (λ (lt : run.chip < pin.chip). inl (inl lt)) (λ (gt : pin.chip < run.chip). inr (inr (inl gt))) o)
    (cases_order run.chip pin.chip)

not_in : (run : PinRun) (pin : Pin) → EndsBefore run pin → IsIn run pin → ⊥
not_in run pin (inl lt) is = let e = is.chip in omega arith
not_in run pin (inr same) is = let lt = same.1 in let le = is.last in omega arith

not_both : (run : PinRun) (pin : Pin) → run.first ≤ run.last → EndsBefore run pin → BeginsBehind run pin → ⊥
not_both run pin some (inl lt) (inl gt) = omega arith
not_both run pin some (inl lt) (inr gt) = let e = gt.0 in omega arith
not_both run pin some (inr lt) (inl gt) = let e = lt.0 in omega arith
not_both run pin some (inr lt) (inr gt) = let a = lt.1 in let b = gt.1 in omega arith

not_ahead : (run : PinRun) (pin : Pin) → IsIn run pin → BeginsBehind run pin → ⊥
not_ahead run pin is (inl lt) = let e = is.chip in omega arith
not_ahead run pin is (inr same) = let lt = same.1 in let le = is.first in omega arith

-- what is behind the last pin of a run that stands before another's first is behind the former
behind_both : (one other : PinRun) (pin : Pin) → other.first ≤ other.last → StandsBefore one other → EndsBefore other pin → EndsBefore one pin
behind_both one other pin some (inl lt) (inl gt) = inl (omega arith)
behind_both one other pin some (inl lt) (inr gt) = let e = gt.0 in inl (omega arith)
behind_both one other pin some (inr lt) (inl gt) = let e = lt.0 in inl (omega arith)
behind_both one other pin some (inr lt) (inr gt) = let a = lt.1 in let b = gt.1 in inr (lt.0 ∙ gt.0, omega arith)

-- a pin in a run behind another is behind that one
in_later : (one other : PinRun) (pin : Pin) → StandsBefore one other → IsIn other pin → EndsBefore one pin
in_later one other pin (inl lt) is = let e = is.chip in inl (omega arith)
in_later one other pin (inr lt) is = let b = lt.1 in let c = is.first in inr (lt.0 ∙ sym is.chip, omega arith)

-- a pin of the run isn't behind one that ends no earlier
not_past : (one other : PinRun) (pin : Pin) → EndsBy one other → IsIn one pin → EndsBefore other pin → ⊥
not_past one other pin (inl lt) is (inl gt) = let e = is.chip in omega arith
not_past one other pin (inl lt) is (inr gt) = let e = is.chip in let d = gt.0 in omega arith
not_past one other pin (inr le) is (inl gt) = let e = is.chip in let d = le.0 in omega arith
not_past one other pin (inr le) is (inr gt) = let a = le.1 in let b = is.last in let c = gt.1 in omega arith

-- a pin that is before a run which begins no later than another ends isn't behind that one
not_early : (two run : PinRun) (pin : Pin) → IsReached (Some two) run → BeginsBehind two pin → EndsBefore run pin → ⊥
not_early two run pin (inl lt) (inl gt) (inl le) = omega arith
not_early two run pin (inl lt) (inl gt) (inr le) = let e = le.0 in omega arith
not_early two run pin (inl lt) (inr gt) (inl le) = let e = gt.0 in omega arith
not_early two run pin (inl lt) (inr gt) (inr le) = let e = gt.0 in let f = le.0 in omega arith
not_early two run pin (inr lt) (inl gt) (inl le) = let e = lt.0 in omega arith
not_early two run pin (inr lt) (inl gt) (inr le) = let e = lt.0 in let f = le.0 in omega arith
not_early two run pin (inr lt) (inr gt) (inl le) = let e = lt.0 in let f = gt.0 in omega arith
not_early two run pin (inr lt) (inr gt) (inr le) = let a = lt.1 in let b = gt.1 in let c = le.1 in omega arith

-- a pin behind a run is behind one whose last pin that run begins behind
beyond : (part two : PinRun) (pin : Pin) → two.first ≤ two.last → BeginsBehind two (pin_of part.chip part.last) → EndsBefore two pin → EndsBefore part pin
beyond part two pin some (inl lt) (inl gt) = inl (omega arith)
beyond part two pin some (inl lt) (inr gt) = let e = gt.0 in inl (omega arith)
beyond part two pin some (inr lt) (inl gt) = let e = lt.0 in inl (omega arith)
beyond part two pin some (inr lt) (inr gt) = let a = lt.1 in let b = gt.1 in inr (lt.0 ∙ gt.0, omega arith)

-- a pin behind a run is behind each part of it
shorter : (run part : PinRun) (pin : Pin) → part.chip ≡ run.chip → part.last ≤ run.last → EndsBefore run pin → EndsBefore part pin
shorter run part pin chip le (inl lt) = inl (omega arith)
shorter run part pin chip le (inr same) = let lt = same.1 in inr (chip ∙ same.0, omega arith)

past_up : (past : Option PinRun) (chip low high : ℕ) → low ≤ high → IsPast past (pin_of chip low) → IsPast past (pin_of chip high)
past_up None chip low high le is = tt
past_up (Some run) chip low high le (inl lt) = inl lt
past_up (Some run) chip low high le (inr same) = let lt = same.1 in inr (same.0, omega arith)

upto_down : (next : Option PinRun) (chip low high : ℕ) → low ≤ high → IsUpTo next (pin_of chip high) → IsUpTo next (pin_of chip low)
upto_down None chip low high le is = tt
upto_down (Some run) chip low high le (inl lt) = inl lt
upto_down (Some run) chip low high le (inr same) = let lt = same.1 in inr (same.0, omega arith)

-- ---- the runs from an index on

-- the pin is in one of the runs from the index on
pub record IsFrom (runs : List PinRun) (i : ℕ) (pin : Pin) : Type 0 where
  pub at : ℕ
  pub from : i ≤ at
  pub within : at < length runs
  pub has : (d : PinRun) → IsIn (get_or runs at d) pin

from_whole : (runs : List PinRun) (pin : Pin) → IsInRun runs pin → IsFrom runs 0 pin
from_whole runs pin is =
    let among = is.among in
    let P : PinRun → Type 0 = λ run. IsIn run pin in
    record { at = among.0; from = omega arith; within = among.1; has = λ d. subst P (sym among.2 ∙ get_or_default runs among.0 is.run d among.1) is.has }

at_index : (runs : List PinRun) (i : ℕ) (run : PinRun) (pin : Pin) → i < length runs → run ≡ get_or runs i run → IsIn run pin → IsFrom runs i pin
at_index runs i run pin lt is has =
    let P : PinRun → Type 0 = λ x. IsIn x pin in
    record { at = i; from = omega arith; within = lt; has = λ d. subst P (is ∙ get_or_default runs i run d lt) has }

-- it is in the first of them, or in a later one
head_or_later : (runs : List PinRun) (i : ℕ) (run : PinRun) (pin : Pin) → run ≡ get_or runs i run → IsFrom runs i pin → IsIn run pin ⊎ IsFrom runs (i + 1) pin
head_or_later runs i run pin is from =
    let le = from.from in
    ⊎_elim
    (λ (lt : i < from.at). inr (record { at = from.at; from = omega arith; within = from.within; has = from.has }))
    (λ (ge : from.at ≤ i).
    let here : from.at ≡ i = omega arith in
    let P : ℕ → Type 0 = λ n. IsIn (get_or runs n run) pin in
    let Q : PinRun → Type 0 = λ x. IsIn x pin in
    inl (subst Q (sym is) (subst P here (from.has run))))
    (cases_lt i from.at)

later_behind : (runs : List PinRun) (i : ℕ) (run : PinRun) (pin : Pin) → AllPairs StandsBefore runs → run ≡ get_or runs i run → IsFrom runs (i + 1) pin → EndsBefore run pin
later_behind runs i run pin order is from =
    let le = from.from in
    let P : PinRun → Type 0 = λ x. StandsBefore x (get_or runs from.at run) in
    in_later run (get_or runs from.at run) pin (subst P (sym is) (order i from.at run (omega arith) from.within)) (from.has run)

own_run : (has : Pin → Bool) (runs : List PinRun) (i : ℕ) (run : PinRun) → AreRuns has runs → i < length runs → run ≡ get_or runs i run → IsRunOf has run
own_run has runs i run are lt is = let P : PinRun → Type 0 = λ x. IsRunOf has x in subst P (sym is) (are.own i run lt)

in_has : (has : Pin → Bool) (run : PinRun) (pin : Pin) → IsRunOf has run → IsIn run pin → has pin ≡ true
in_has has run pin of is =
    let P : ℕ → Type 0 = λ chip. has (pin_of chip pin.number) ≡ true in
    subst P (sym is.chip) (of.each pin.number is.first is.last)

-- ---- one piece after another

-- the runs so far are some of the set's, in order, and every other pin of it is still to come, behind them
pub record Comes (has : Pin → Bool) (Still : Pin → Type 0) (runs : List PinRun) : Type 0 where
  pub own : All (IsRunOf has) runs
  pub whole : (pin : Pin) → has pin ≡ true → IsInRun runs pin ⊎ Still pin
  pub order : AllPairs StandsBefore runs
  pub past : All (λ (run : PinRun). (pin : Pin) → Still pin → EndsBefore run pin) runs

none_yet : (has : Pin → Bool) (Still : Pin → Type 0) → ((pin : Pin) → has pin ≡ true → Still pin) → Comes has Still []
none_yet has Still all = record {
  own = All-nil (IsRunOf has);
  whole = λ pin is. inr (all pin is);
  order = λ i j d lt jl. absurd (omega arith);
  past = All-nil (λ (run : PinRun). (pin : Pin) → Still pin → EndsBefore run pin);
}

pub all_came : (has : Pin → Bool) (Still : Pin → Type 0) (runs : List PinRun) → Comes has Still runs → ((pin : Pin) → Still pin → ⊥) → AreRuns has runs
all_came has Still runs comes none = record {
  own = comes.own;
  whole = λ pin is. ⊎_elim (λ (told : IsInRun runs pin). told) (λ (still : Still pin). absurd (none pin still)) (comes.whole pin is);
  order = comes.order;
}

-- the piece is the set's next run, and what comes behind it
pub record IsNext (has : Pin → Bool) (Still Next : Pin → Type 0) (run : PinRun) : Type 0 where
  pub of : IsRunOf has run
  pub first : Still (pin_of run.chip run.first)
  pub told : (pin : Pin) → has pin ≡ true → Still pin → IsIn run pin ⊎ Next pin
  pub past : (pin : Pin) → Next pin → EndsBefore run pin

-- so it is, if there is a piece; else as much comes as before
abbrev pub IsStep : (Pin → Bool) → (Pin → Type 0) → (Pin → Type 0) → Option PinRun → Type 0
IsStep has Still Next None = (pin : Pin) → has pin ≡ true → Still pin → Next pin
IsStep has Still Next (Some run) = IsNext has Still Next run

pub step : (has : Pin → Bool) (Still Next : Pin → Type 0) (runs : List PinRun) (piece : Option PinRun) → Comes has Still runs → ((pin : Pin) → Next pin → Still pin) → IsStep has Still Next piece → Comes has Next (runs ++ pieces piece)
step has Still Next runs None comes back is =
    let P : List PinRun → Type 0 = λ l. Comes has Next l in
    subst P (sym (append-nil runs)) (record {
      own = comes.own;
      whole = λ pin in_set. ⊎_elim (λ (told : IsInRun runs pin). inl told) (λ (still : Still pin). inr (is pin in_set still)) (comes.whole pin in_set);
      order = comes.order;
      past = All-weaker (λ (run : PinRun). (pin : Pin) → Still pin → EndsBefore run pin) (λ (run : PinRun). (pin : Pin) → Next pin → EndsBefore run pin) (λ run behind pin next. behind pin (back pin next)) runs comes.past;
    })
step has Still Next runs (Some piece) comes back is = record {
  own = All-push (IsRunOf has) runs piece comes.own is.of;
  whole = λ pin in_set. ⊎_elim (λ (told : IsInRun runs pin). inl (old pin told)) (λ (still : Still pin). ⊎_elim (λ (now : IsIn piece pin). inl (new pin now)) (λ (next : Next pin). inr next) (is.told pin in_set still)) (comes.whole pin in_set);
  order = all_pairs_push StandsBefore runs piece comes.order (λ k d lt. comes.past k d lt (pin_of piece.chip piece.first) is.first);
  past = All-push (λ (run : PinRun). (pin : Pin) → Next pin → EndsBefore run pin) runs piece (All-weaker (λ (run : PinRun). (pin : Pin) → Still pin → EndsBefore run pin) (λ (run : PinRun). (pin : Pin) → Next pin → EndsBefore run pin) (λ run behind pin next. behind pin (back pin next)) runs comes.past) is.past;
}
  where
    old : (pin : Pin) → IsInRun runs pin → IsInRun (runs ++ piece ∷ []) pin
    old pin told = record { run = told.run; among = Contains-append_left runs (piece ∷ []) told.run told.among; has = told.has }

    new : (pin : Pin) → IsIn piece pin → IsInRun (runs ++ piece ∷ []) pin
    new pin now = record { run = piece; among = Contains-push runs piece; has = now }

-- ---- what two have in common

-- the pin is in a run of each, from these indices on
abbrev pub InBoth : List PinRun → List PinRun → ℕ → ℕ → Pin → Type 0
InBoth runs others i j pin = IsFrom runs i pin × IsFrom others j pin

meeting_run : (has other : Pin → Bool) (one two met : PinRun) → IsRunOf has one → IsRunOf other two → IsMeeting one two (Some met) → IsRunOf (is_common has other) met
meeting_run has other one two met of two_of (some, chip, two_chip, first, last) = record {
  some = some;
  each = λ n low high. and_from (has (pin_of met.chip n)) (other (pin_of met.chip n)) (on_one true n (of.each n (omega arith) (omega arith))) (on_two true n (two_of.each n (omega arith) (omega arith)));
  before = λ n e. ⊎_elim
      (λ (lt : one.first < two.first). and_right (has (pin_of met.chip n)) (other (pin_of met.chip n)) (on_two false n (two_of.before n (omega arith))))
      (λ (le : two.first ≤ one.first). and_left (has (pin_of met.chip n)) (other (pin_of met.chip n)) (on_one false n (of.before n (omega arith))))
      (cases_lt one.first two.first);
  behind = ⊎_elim
      (λ (lt : one.last < two.last).
      let at : met.last ≡ one.last = omega arith in
      let P : ℕ → Type 0 = λ n. has (pin_of one.chip (n + 1)) ≡ false in
      and_left (has (pin_of met.chip (met.last + 1))) (other (pin_of met.chip (met.last + 1))) (on_one false (met.last + 1) (subst P (sym at) of.behind)))
      (λ (le : two.last ≤ one.last).
      let at : met.last ≡ two.last = omega arith in
      let P : ℕ → Type 0 = λ n. other (pin_of two.chip (n + 1)) ≡ false in
      and_right (has (pin_of met.chip (met.last + 1))) (other (pin_of met.chip (met.last + 1))) (on_two false (met.last + 1) (subst P (sym at) two_of.behind)))
      (cases_lt one.last two.last);
}
  where
    on_one : (b : Bool) (n : ℕ) → has (pin_of one.chip n) ≡ b → has (pin_of met.chip n) ≡ b
    on_one b n is = let P : ℕ → Type 0 = λ c. has (pin_of c n) ≡ b in subst P (sym chip) is

    on_two : (b : Bool) (n : ℕ) → other (pin_of two.chip n) ≡ b → other (pin_of met.chip n) ≡ b
    on_two b n is = let P : ℕ → Type 0 = λ c. other (pin_of c n) ≡ b in subst P (sym two_chip) is

-- a pin of the run that ends first, and of the other list, is in that list's first run
in_other : (others : List PinRun) (j : ℕ) (run two : PinRun) (pin : Pin) → AllPairs StandsBefore others → two ≡ get_or others j two → EndsBy run two → IsIn run pin → IsFrom others j pin → IsIn two pin
in_other others j run two pin order two_is ends is from =
    ⊎_elim
    (λ (now : IsIn two pin). now)
    (λ (later : IsFrom others (j + 1) pin). absurd (not_past run two pin ends is (later_behind others j two pin order two_is later)))
    (head_or_later others j two pin two_is from)

in_meeting : (one two met : PinRun) (pin : Pin) → IsMeeting one two (Some met) → IsIn one pin → IsIn two pin → IsIn met pin
in_meeting one two met pin (some, chip, two_chip, first, last) is two_is =
    let a = is.first in
    let b = is.last in
    let c = two_is.first in
    let d = two_is.last in
    record { chip = is.chip ∙ sym chip; first = omega arith; last = omega arith }

meeting_behind : (one two met : PinRun) (pin : Pin) → IsMeeting one two (Some met) → EndsBefore one pin → EndsBefore met pin
meeting_behind one two met pin (some, chip, two_chip, first, last) (inl lt) = inl (omega arith)
meeting_behind one two met pin (some, chip, two_chip, first, last) (inr same) = let lt = same.1 in inr (chip ∙ same.0, omega arith)

pub common_step : (has other : Pin → Bool) (runs others : List PinRun) (i j : ℕ) (one two : PinRun) (piece : Option PinRun) → AreRuns has runs → AreRuns other others → i < length runs → j < length others → one ≡ get_or runs i one → two ≡ get_or others j two
    → EndsBy one two → IsMeeting one two piece → IsStep (is_common has other) (InBoth runs others i j) (InBoth runs others (i + 1) j) piece
common_step has other runs others i j one two None are two_are lt jlt is two_is ends none =
    λ pin in_set still. ⊎_elim
    (λ (now : IsIn one pin). absurd (none pin now (in_other others j one two pin two_are.order two_is ends now still.1)))
    (λ (later : IsFrom runs (i + 1) pin). (later, still.1))
    (head_or_later runs i one pin is still.0)
common_step has other runs others i j one two (Some met) are two_are lt jlt is two_is ends meets = record {
  of = meeting_run has other one two met (own_run has runs i one are lt is) (own_run other others j two two_are jlt two_is) meets;
  first = first meets;
  told = λ pin in_set still. ⊎_elim
      (λ (now : IsIn one pin). inl (in_meeting one two met pin meets now (in_other others j one two pin two_are.order two_is ends now still.1)))
      (λ (later : IsFrom runs (i + 1) pin). inr (later, still.1))
      (head_or_later runs i one pin is still.0);
  past = λ pin next. meeting_behind one two met pin meets (later_behind runs i one pin are.order is next.0);
}
  where
    first : IsMeeting one two (Some met) → InBoth runs others i j (pin_of met.chip met.first)
    first (some, chip, two_chip, low, high) = (
      at_index runs i one (pin_of met.chip met.first) lt is (record { chip = chip; first = omega arith; last = omega arith }),
      at_index others j two (pin_of met.chip met.first) jlt two_is (record { chip = two_chip; first = omega arith; last = omega arith }),
    )

from_earlier : (runs : List PinRun) (i : ℕ) (pin : Pin) → IsFrom runs (i + 1) pin → IsFrom runs i pin
from_earlier runs i pin from = let le = from.from in record { at = from.at; from = omega arith; within = from.within; has = from.has }

pub none_common : (has other : Pin → Bool) (runs others : List PinRun) → AreRuns has runs → AreRuns other others → Comes (is_common has other) (InBoth runs others 0 0) []
none_common has other runs others are others_are =
    none_yet (is_common has other) (InBoth runs others 0 0)
    (λ pin is. let parts = and_parts (has pin) (other pin) is in (from_whole runs pin (are.whole pin parts.0), from_whole others pin (others_are.whole pin parts.1)))

pub common_next : (has other : Pin → Bool) (runs others : List PinRun) (i j : ℕ) (d : PinRun) (piece : Option PinRun) (met new : List PinRun) → AreRuns has runs → AreRuns other others → i < length runs → j < length others
    → EndsBy (get_or runs i d) (get_or others j d) → IsMeeting (get_or runs i d) (get_or others j d) piece → new ≡ met ++ pieces piece
    → Comes (is_common has other) (InBoth runs others i j) met → Comes (is_common has other) (InBoth runs others (i + 1) j) new
common_next has other runs others i j d piece met new are two_are lt jlt ends meets is so_far =
    let P : List PinRun → Type 0 = λ l. Comes (is_common has other) (InBoth runs others (i + 1) j) l in
    subst P (sym is) (step (is_common has other) (InBoth runs others i j) (InBoth runs others (i + 1) j) met piece so_far (λ pin next. (from_earlier runs i pin next.0, next.1))
    (common_step has other runs others i j (get_or runs i d) (get_or others j d) piece are two_are lt jlt (get_or_default runs i d (get_or runs i d) lt) (get_or_default others j d (get_or others j d) jlt) ends meets))

pub meeting_swapped : (one two : PinRun) (piece : Option PinRun) → IsMeeting one two piece → IsMeeting two one piece
meeting_swapped one two None none = λ pin is two_is. none pin two_is is
meeting_swapped one two (Some met) (some, chip, two_chip, first, last) = (some, two_chip, chip, omega arith, omega arith)

pub common_swapped : (has other : Pin → Bool) (runs others : List PinRun) (i j : ℕ) (met : List PinRun) → Comes (is_common has other) (InBoth runs others i j) met → Comes (is_common other has) (InBoth others runs j i) met
common_swapped has other runs others i j met comes =
    let e : is_common has other ≡ is_common other has = λ k pin. and_comm (has pin) (other pin) k in
    let P : (Pin → Bool) → Type 0 = λ f. Comes f (InBoth runs others i j) met in
    let same = subst P e comes in
    record {
      own = same.own;
      whole = λ pin is. ⊎_elim (λ (told : IsInRun met pin). inl told) (λ (still : InBoth runs others i j pin). inr (still.1, still.0)) (same.whole pin is);
      order = same.order;
      past = All-weaker (λ (run : PinRun). (pin : Pin) → InBoth runs others i j pin → EndsBefore run pin) (λ (run : PinRun). (pin : Pin) → InBoth others runs j i pin → EndsBefore run pin) (λ run behind pin still. behind pin (still.1, still.0)) met same.past;
    }

-- ---- what is left

-- the run, if there is one, is one of the set's
abbrev IsOwn : (Pin → Bool) → Option PinRun → Type 0
IsOwn other None = Unit {0}
IsOwn other (Some run) = IsRunOf other run

-- the run, if there is one, stands before the other
abbrev IsAhead : Option PinRun → PinRun → Type 0
IsAhead None other = Unit {0}
IsAhead (Some run) other = StandsBefore run other

-- what is done with of the other set: its pins past that are in its runs from the index on
pub record IsDoneWith (other : Pin → Bool) (others : List PinRun) (j : ℕ) (past : Option PinRun) : Type 0 where
  pub rest : (pin : Pin) → other pin ≡ true → IsPast past pin → IsFrom others j pin
  pub own : IsOwn other past
  pub order : (k : ℕ) (d : PinRun) → j ≤ k → k < length others → IsAhead past (get_or others k d)

none_done : (other : Pin → Bool) (others : List PinRun) → AreRuns other others → IsDoneWith other others 0 None
none_done other others are = record { rest = λ pin is past. from_whole others pin (are.whole pin is); own = tt; order = λ k d le lt. tt }

-- what is past a later run is past
past_earlier : (past : Option PinRun) (run : PinRun) (pin : Pin) → run.first ≤ run.last → IsAhead past run → EndsBefore run pin → IsPast past pin
past_earlier None run pin some ahead behind = tt
past_earlier (Some one) run pin some ahead behind = behind_both one run pin some ahead behind

-- the next of the other set's runs, as one of the list
next_run : (other : Pin → Bool) (others : List PinRun) (j : ℕ) (two : PinRun) → AreRuns other others → slice_get others j ≡ Some two → (j < length others) × (two ≡ get_or others j two) × IsRunOf other two
next_run other others j two are is =
    let lt = slice_get_within others j two is in
    let at = sym (get_or_from_slice_get others j two two is) in
    (lt, at, own_run other others j two are lt at)

pub one_more_done : (other : Pin → Bool) (others : List PinRun) (j : ℕ) (past : Option PinRun) (two : PinRun) → AreRuns other others → slice_get others j ≡ Some two → IsDoneWith other others j past → IsDoneWith other others (j + 1) (Some two)
one_more_done other others j past two are is done =
    let at = next_run other others j two are is in
    let P : PinRun → Type 0 = λ x. IsAhead past x in
    let ahead : IsAhead past two = subst P (sym at.1) (done.order j two (omega arith) at.0) in
    record {
      rest = λ pin in_set behind. ⊎_elim
          (λ (now : IsIn two pin). absurd (not_in two pin behind now))
          (λ (later : IsFrom others (j + 1) pin). later)
          (head_or_later others j two pin at.1 (done.rest pin in_set (past_earlier past two pin at.2.some ahead behind)));
      own = at.2;
      order = λ k d le lt. let R : PinRun → Type 0 = λ x. StandsBefore x (get_or others k d) in subst R (get_or_default others j d two at.0 ∙ sym at.1) (are.order j k d (omega arith) lt);
    }

-- a pin of the run in between is in the piece, and none is where there is no piece
abbrev IsInPiece : Option PinRun → Pin → Type 0
IsInPiece None pin = ⊥
IsInPiece (Some piece) pin = IsIn piece pin

in_piece : (run : PinRun) (past next piece : Option PinRun) (pin : Pin) → IsBetween run past next piece → IsIn run pin → IsPast past pin → IsUpTo next pin → IsInPiece piece pin
in_piece run past next None pin none is behind before = none pin is behind before
in_piece run past next (Some piece) pin is_piece is behind before = record { chip = is.chip ∙ sym is_piece.chip; first = low is_piece.begin; last = high is_piece.end }
  where
    follows : (o : Option PinRun) → FollowsIt o (pin_of piece.chip piece.first) → IsPast o pin → piece.first ≤ pin.number
    follows None none past_it = absurd none
    follows (Some one) (same, at) (inl lt) = let e = is.chip in let f = is_piece.chip in omega arith
    follows (Some one) (same, at) (inr later) = let lt = later.1 in omega arith

    low : (piece.first ≡ run.first) ⊎ FollowsIt past (pin_of piece.chip piece.first) → piece.first ≤ pin.number
    low (inl e) = let le = is.first in omega arith
    low (inr it) = follows past it behind

    followed : (o : Option PinRun) → IsFollowedByIt o (pin_of piece.chip piece.last) → IsUpTo o pin → pin.number ≤ piece.last
    followed None none up = absurd none
    followed (Some two) (same, at) (inl lt) = let e = is.chip in let f = is_piece.chip in omega arith
    followed (Some two) (same, at) (inr earlier) = let lt = earlier.1 in omega arith

    high : (piece.last ≡ run.last) ⊎ IsFollowedByIt next (pin_of piece.chip piece.last) → pin.number ≤ piece.last
    high (inl e) = let le = is.last in omega arith
    high (inr it) = followed next it before

-- the pin is in a run from the index on, and past what is done with
abbrev pub IsLeft : List PinRun → ℕ → Option PinRun → Pin → Type 0
IsLeft runs i past pin = IsFrom runs i pin × IsPast past pin

-- no pin of the other set is in the piece
none_of_other : (other : Pin → Bool) (others : List PinRun) (j : ℕ) (past next : Option PinRun) (run piece : PinRun) → AreRuns other others → IsDoneWith other others j past → slice_get others j ≡ next → IsPieceOf run past next piece
    → (n : ℕ) → piece.first ≤ n → n ≤ piece.last → other (pin_of piece.chip n) ≡ false
none_of_other other others j past None run piece are done is is_piece n low high = false_from_ne_true (other (pin_of piece.chip n)) (λ in_set.
    let from = done.rest (pin_of piece.chip n) in_set (past_up past piece.chip piece.first n low is_piece.behind) in
    let le = from.from in
    let within = from.within in
    let some : slice_get others j ≡ Some (get_or others j run) = slice_get-get_or others j run (omega arith) in
    none-some (get_or others j run) (sym is ∙ some))
none_of_other other others j past (Some two) run piece are done is is_piece n low high = false_from_ne_true (other (pin_of piece.chip n)) (λ in_set.
    let at = next_run other others j two are is in
    let pin = pin_of piece.chip n in
    let before : BeginsBehind two pin = upto_down (Some two) piece.chip n piece.last high is_piece.before in
    ⊎_elim
    (λ (now : IsIn two pin). not_ahead two pin now before)
    (λ (later : IsFrom others (j + 1) pin). not_both two pin at.2.some (later_behind others j two pin are.order at.1 later) before)
    (head_or_later others j two pin at.1 (done.rest pin in_set (past_up past piece.chip piece.first n low is_piece.behind))))

-- the pin that ends what is done with is of the other set
follows_other : (other : Pin → Bool) (past : Option PinRun) (chip first n : ℕ) → IsOwn other past → FollowsIt past (pin_of chip first) → n + 1 ≡ first → other (pin_of chip n) ≡ true
follows_other other None chip first n own none e = absurd none
follows_other other (Some one) chip first n own (same, at) e =
    let some = own.some in
    let P : ℕ → Type 0 = λ c. other (pin_of c n) ≡ true in
    subst P same (own.each n (omega arith) (omega arith))

-- and so is the one with which its next run begins
followed_by_other : (other : Pin → Bool) (others : List PinRun) (j : ℕ) (next : Option PinRun) (chip last : ℕ) → AreRuns other others → slice_get others j ≡ next → IsFollowedByIt next (pin_of chip last) → other (pin_of chip (last + 1)) ≡ true
followed_by_other other others j None chip last are is none = absurd none
followed_by_other other others j (Some two) chip last are is (same, at) =
    let of = (next_run other others j two are is).2 in
    let some = of.some in
    let P : ℕ → Type 0 = λ c. other (pin_of c (last + 1)) ≡ true in
    subst P (sym same) (of.each (last + 1) (omega arith) (omega arith))

piece_run : (has other : Pin → Bool) (others : List PinRun) (j : ℕ) (past next : Option PinRun) (run piece : PinRun) → IsRunOf has run → AreRuns other others → IsDoneWith other others j past → slice_get others j ≡ next → IsPieceOf run past next piece → IsRunOf (is_without has other) piece
piece_run has other others j past next run piece of are done is is_piece = record {
  some = is_piece.some of.some;
  each = λ n low high. and_from (has (pin_of piece.chip n)) (not (other (pin_of piece.chip n))) (on_run true n (let a = is_piece.low in let b = is_piece.high in of.each n (omega arith) (omega arith))) (ap not (none_of_other other others j past next run piece are done is is_piece n low high));
  before = λ n e. ⊎_elim
      (λ (same : piece.first ≡ run.first). and_left (has (pin_of piece.chip n)) (not (other (pin_of piece.chip n))) (on_run false n (of.before n (e ∙ same))))
      (λ (it : FollowsIt past (pin_of piece.chip piece.first)). and_right (has (pin_of piece.chip n)) (not (other (pin_of piece.chip n))) (ap not (follows_other other past piece.chip piece.first n done.own it e)))
      is_piece.begin;
  behind = ⊎_elim
      (λ (same : piece.last ≡ run.last).
      let P : ℕ → Type 0 = λ n. has (pin_of run.chip (n + 1)) ≡ false in
      and_left (has (pin_of piece.chip (piece.last + 1))) (not (other (pin_of piece.chip (piece.last + 1)))) (on_run false (piece.last + 1) (subst P (sym same) of.behind)))
      (λ (it : IsFollowedByIt next (pin_of piece.chip piece.last)).
      and_right (has (pin_of piece.chip (piece.last + 1))) (not (other (pin_of piece.chip (piece.last + 1)))) (ap not (followed_by_other other others j next piece.chip piece.last are is it)))
      is_piece.end;
}
  where
    on_run : (b : Bool) (n : ℕ) → has (pin_of run.chip n) ≡ b → has (pin_of piece.chip n) ≡ b
    on_run b n at = let P : ℕ → Type 0 = λ c. has (pin_of c n) ≡ b in subst P (sym is_piece.chip) at

-- what comes next, if the pins of the run that were to come are in the piece or still to come, behind it
piece_step : (has other : Pin → Bool) (runs others : List PinRun) (i j : ℕ) (past next piece : Option PinRun) (run : PinRun) (Next : Pin → Type 0) → AreRuns has runs → AreRuns other others → i < length runs → run ≡ get_or runs i run → IsDoneWith other others j past → slice_get others j ≡ next
    → IsBetween run past next piece → ((pin : Pin) → is_without has other pin ≡ true → IsLeft runs i past pin → (IsIn run pin × IsUpTo next pin) ⊎ Next pin) → ((pin : Pin) (part : PinRun) → IsPieceOf run past next part → Next pin → EndsBefore part pin)
    → IsStep (is_without has other) (IsLeft runs i past) Next piece
piece_step has other runs others i j past next None run Next are others_are lt at done is none told behind = λ pin in_set still.
    ⊎_elim (λ (now : IsIn run pin × IsUpTo next pin). absurd (none pin now.0 still.1 now.1)) (λ (later : Next pin). later) (told pin in_set still)
piece_step has other runs others i j past next (Some part) run Next are others_are lt at done is is_piece told behind = record {
  of = piece_run has other others j past next run part (own_run has runs i run are lt at) others_are done is is_piece;
  first = (first, is_piece.behind);
  told = λ pin in_set still. ⊎_elim (λ (now : IsIn run pin × IsUpTo next pin). inl (in_piece run past next (Some part) pin is_piece now.0 still.1 now.1)) (λ (later : Next pin). inr later) (told pin in_set still);
  past = λ pin later. behind pin part is_piece later;
}
  where
    first : IsFrom runs i (pin_of part.chip part.first)
    first =
        let some = is_piece.some (own_run has runs i run are lt at).some in
        let low = is_piece.low in
        let high = is_piece.high in
        at_index runs i run (pin_of part.chip part.first) lt at (record { chip = is_piece.chip; first = omega arith; last = omega arith })

-- the other set's next run begins no later than the run ends: it is done with
pub other_done : (has other : Pin → Bool) (runs others : List PinRun) (i j : ℕ) (d : PinRun) (past piece : Option PinRun) (two : PinRun) (left new : List PinRun) → AreRuns has runs → AreRuns other others → i < length runs → IsDoneWith other others j past → slice_get others j ≡ Some two
    → IsReached (Some two) (get_or runs i d) → IsBetween (get_or runs i d) past (Some two) piece → new ≡ left ++ pieces piece → Comes (is_without has other) (IsLeft runs i past) left → Comes (is_without has other) (IsLeft runs i (Some two)) new
other_done has other runs others i j d past piece two left new are others_are lt done is reached between e so_far =
    let P : List PinRun → Type 0 = λ l. Comes (is_without has other) (IsLeft runs i (Some two)) l in
    subst P (sym e) (step (is_without has other) (IsLeft runs i past) (IsLeft runs i (Some two)) left piece so_far (λ pin next. (next.0, past_earlier past two pin of.some ahead next.1))
    (piece_step has other runs others i j past (Some two) piece (get_or runs i d) (IsLeft runs i (Some two)) are others_are lt (get_or_default runs i d (get_or runs i d) lt) done is between told behind))
  where
    of : IsRunOf other two
    of = (next_run other others j two others_are is).2

    ahead : IsAhead past two
    ahead =
        let at = next_run other others j two others_are is in
        let P : PinRun → Type 0 = λ x. IsAhead past x in
        subst P (sym at.1) (done.order j two (omega arith) at.0)

    told : (pin : Pin) → is_without has other pin ≡ true → IsLeft runs i past pin → (IsIn (get_or runs i d) pin × IsUpTo (Some two) pin) ⊎ IsLeft runs i (Some two) pin
    told pin in_set still =
        ⊎_elim
        (λ (later : EndsBefore two pin). inr (still.0, later))
        (λ o. ⊎_elim
        (λ (now : IsIn two pin). absurd (both_ways (not (other pin)) (ap not (in_has other two pin of now)) (and_parts (has pin) (not (other pin)) in_set).1))
        (λ (early : BeginsBehind two pin). inl (
          ⊎_elim
              (λ (own : IsIn (get_or runs i d) pin). own)
              (λ (later : IsFrom runs (i + 1) pin). absurd (not_early two (get_or runs i d) pin reached early (later_behind runs i (get_or runs i d) pin are.order (get_or_default runs i d (get_or runs i d) lt) later)))
              (head_or_later runs i (get_or runs i d) pin (get_or_default runs i d (get_or runs i d) lt) still.0),
          early,
        ))
        o)
        (place_of two pin)

    behind : (pin : Pin) (part : PinRun) → IsPieceOf (get_or runs i d) past (Some two) part → IsLeft runs i (Some two) pin → EndsBefore part pin
    behind pin part is_piece next = beyond part two pin of.some is_piece.before next.1

-- the run ends before the other set's next begins: it is done with
pub run_done : (has other : Pin → Bool) (runs others : List PinRun) (i j : ℕ) (d : PinRun) (past next piece : Option PinRun) (left new : List PinRun) → AreRuns has runs → AreRuns other others → i < length runs → IsDoneWith other others j past → slice_get others j ≡ next
    → IsUpTo next (pin_of (get_or runs i d).chip (get_or runs i d).last) → IsBetween (get_or runs i d) past next piece → new ≡ left ++ pieces piece → Comes (is_without has other) (IsLeft runs i past) left → Comes (is_without has other) (IsLeft runs (i + 1) past) new
run_done has other runs others i j d past next piece left new are others_are lt done is up between e so_far =
    let P : List PinRun → Type 0 = λ l. Comes (is_without has other) (IsLeft runs (i + 1) past) l in
    subst P (sym e) (step (is_without has other) (IsLeft runs i past) (IsLeft runs (i + 1) past) left piece so_far (λ pin later. (from_earlier runs i pin later.0, later.1))
    (piece_step has other runs others i j past next piece (get_or runs i d) (IsLeft runs (i + 1) past) are others_are lt own done is between told behind))
  where
    own : get_or runs i d ≡ get_or runs i (get_or runs i d)
    own = get_or_default runs i d (get_or runs i d) lt

    told : (pin : Pin) → is_without has other pin ≡ true → IsLeft runs i past pin → (IsIn (get_or runs i d) pin × IsUpTo next pin) ⊎ IsLeft runs (i + 1) past pin
    told pin in_set still =
        ⊎_elim
        (λ (now : IsIn (get_or runs i d) pin).
        let P : ℕ → Type 0 = λ c. IsUpTo next (pin_of c pin.number) in
        inl (now, subst P (sym now.chip) (upto_down next (get_or runs i d).chip pin.number (get_or runs i d).last now.last up)))
        (λ (later : IsFrom runs (i + 1) pin). inr (later, still.1))
        (head_or_later runs i (get_or runs i d) pin own still.0)

    behind : (pin : Pin) (part : PinRun) → IsPieceOf (get_or runs i d) past next part → IsLeft runs (i + 1) past pin → EndsBefore part pin
    behind pin part is_piece later = shorter (get_or runs i d) part pin is_piece.chip is_piece.high (later_behind runs i (get_or runs i d) pin are.order own later.0)

pub reached_within : (others : List PinRun) (j : ℕ) (next : Option PinRun) (run : PinRun) → slice_get others j ≡ next → IsReached next run → j < length others
reached_within others j None run is none = absurd none
reached_within others j (Some two) run is reached = slice_get_within others j two is

-- what is done with, and the runs that are left so far
abbrev pub LeavesSoFar : (Pin → Bool) → (Pin → Bool) → List PinRun → List PinRun → ℕ → ℕ → Option PinRun → List PinRun → Type 0
LeavesSoFar has other runs others i j past left = IsDoneWith other others j past × Comes (is_without has other) (IsLeft runs i past) left

pub none_left : (has other : Pin → Bool) (runs others : List PinRun) → AreRuns has runs → AreRuns other others → LeavesSoFar has other runs others 0 0 None []
none_left has other runs others are others_are = (
  none_done other others others_are,
  none_yet (is_without has other) (IsLeft runs 0 None) (λ pin is. (from_whole runs pin (are.whole pin (and_parts (has pin) (not (other pin)) is).0), tt)),
)

pub other_next : (has other : Pin → Bool) (runs others : List PinRun) (i j : ℕ) (d : PinRun) (past next piece : Option PinRun) (left new : List PinRun) → AreRuns has runs → AreRuns other others → i < length runs → slice_get others j ≡ next
    → IsReached next (get_or runs i d) → IsBetween (get_or runs i d) past next piece → new ≡ left ++ pieces piece → LeavesSoFar has other runs others i j past left → LeavesSoFar has other runs others i (j + 1) next new
other_next has other runs others i j d past None piece left new are others_are lt is none between e so_far = absurd none
other_next has other runs others i j d past (Some two) piece left new are others_are lt is reached between e so_far =
    (one_more_done other others j past two others_are is so_far.0, other_done has other runs others i j d past piece two left new are others_are lt so_far.0 is reached between e so_far.1)
