-- The line of each entry leads to the entry.
use Rattle.std.proofs.Common.{◌≡◌, ℕ, ◌-◌, ◌^◌, ◌<◌, ◌≤◌, ℤ, Bool, List, [], ◌∷◌, ◌++◌, Option, Some, None, refl, ap, ◌∙◌, arith, append_assoc, IsTrue, FitsSigned, w64, codes}
use Rattle.std.specs.Option.{IfSome}
use Rattle.std.specs.List.{join_with_byte}
use Rattle.std.specs.Fmt.{decimal, signed_decimal}
use Rattle.jh_history.specs.declared.entry.Entry.{Entry}
use Rattle.jh_history.specs.declared.entry.Act.{Act}
use Rattle.jh_history.specs.declared.entry.Act.TheVariants.{Read, Write, Fetch, Await, Irq, Hvc, Begin, Stop, Decide, Settle, Commit, Note, Noted, Finish}
use Rattle.jh_history.specs.declared.entry.Heard.{Heard}
use Rattle.jh_text.specs.Ranges.{is_width, IsReadableAct, IsReadable}
use Rattle.jh_text.specs.Text.{hexadecimal, got_text, ok_text, heard_text, act_words, attempt_words, line}
use Rattle.jh_text.specs.Private.Reading.{max_u64, front_read, front_attempt, front_write, front_await, front_fetch, front_irq, front_outcome, front_call, front_noted, front_act_of_call, front_act, front_entry}
use Rattle.jh_text.proofs.Spellings.{decimal_again, hexadecimal_again, answer_again, answer_is_not, width_again, widest, got_again, ok_again, decision_again, settled_again, heard_again}

-- what stands behind a word and a space
behind_word : (word text rest : List ℕ) → (word ++ 32 ∷ text) ++ rest ≡ word ++ 32 ∷ (text ++ rest)
behind_word word text rest = append_assoc word (32 ∷ text) rest

-- the largest value of a width is below 2 ^ 64
room : (width : ℕ) → IsTrue (is_width width) → 256 ^ width - 1 < 2 ^ 64
room width h = omega (arith, widest width h)

got_below : (width : ℕ) (got : Option ℕ) → IfSome got (λ value. value < 256 ^ width) → IfSome got (λ value. value ≤ 256 ^ width - 1)
got_below width None fits = tt
got_below width (Some value) fits = omega arith

instruction_below : (got : Option ℕ) → IfSome got (λ value. value < 2 ^ 32) → IfSome got (λ value. value ≤ 2 ^ 32 - 1)
instruction_below None fits = tt
instruction_below (Some value) fits = omega arith

read_again : (width at : ℕ) (got : Option ℕ) (rest : List ℕ) → IsTrue (is_width width) → at < 2 ^ 64 → IfSome got (λ value. value < 256 ^ width)
    → front_read (join_with_byte 32 (decimal width ∷ hexadecimal at ∷ codes "=" ∷ got_text got ∷ []) ++ 10 ∷ rest) ≡ Some (Read width at got, rest)
unfolding front_read
read_again width at got rest h small fits =
    rw (
      behind_word (decimal width) (hexadecimal at ++ 32 ∷ 61 ∷ 32 ∷ got_text got) (10 ∷ rest),
      behind_word (hexadecimal at) (61 ∷ 32 ∷ got_text got) (10 ∷ rest),
      width_again width (hexadecimal at ++ 32 ∷ 61 ∷ 32 ∷ (got_text got ++ 10 ∷ rest)) h,
      hexadecimal_again 32 max_u64 at (61 ∷ 32 ∷ (got_text got ++ 10 ∷ rest)) refl small (omega arith),
      got_again (256 ^ width - 1) got rest (room width h) (got_below width got fits),
    ) refl

attempt_again : (width at value : ℕ) (ok : Bool) (rest : List ℕ) → IsTrue (is_width width) → at < 2 ^ 64 → value < 256 ^ width
    → front_attempt (join_with_byte 32 (attempt_words width at value ok) ++ 10 ∷ rest) ≡ Some ((width, at, value, ok), rest)
unfolding front_attempt
attempt_again width at value ok rest h small fits =
    let below : value < 2 ^ 64 = omega (arith, widest width h) in
    rw (
      behind_word (decimal width) (hexadecimal at ++ 32 ∷ (hexadecimal value ++ 32 ∷ 61 ∷ 32 ∷ ok_text ok)) (10 ∷ rest),
      behind_word (hexadecimal at) (hexadecimal value ++ 32 ∷ 61 ∷ 32 ∷ ok_text ok) (10 ∷ rest),
      behind_word (hexadecimal value) (61 ∷ 32 ∷ ok_text ok) (10 ∷ rest),
      width_again width (hexadecimal at ++ 32 ∷ (hexadecimal value ++ 32 ∷ 61 ∷ 32 ∷ (ok_text ok ++ 10 ∷ rest))) h,
      hexadecimal_again 32 max_u64 at (hexadecimal value ++ 32 ∷ 61 ∷ 32 ∷ (ok_text ok ++ 10 ∷ rest)) refl small (omega arith),
      hexadecimal_again 32 (256 ^ width - 1) value (61 ∷ 32 ∷ (ok_text ok ++ 10 ∷ rest)) refl below (omega arith),
      ok_again ok rest,
    ) refl

write_again : (width at value : ℕ) (ok : Bool) (rest : List ℕ) → IsTrue (is_width width) → at < 2 ^ 64 → value < 256 ^ width
    → front_write (join_with_byte 32 (attempt_words width at value ok) ++ 10 ∷ rest) ≡ Some (Write width at value ok, rest)
unfolding front_write
write_again width at value ok rest h small fits = rw (attempt_again width at value ok rest h small fits) refl

await_again : (width at value : ℕ) (ok : Bool) (rest : List ℕ) → IsTrue (is_width width) → at < 2 ^ 64 → value < 256 ^ width
    → front_await (join_with_byte 32 (attempt_words width at value ok) ++ 10 ∷ rest) ≡ Some (Await width at value ok, rest)
unfolding front_await
await_again width at value ok rest h small fits = rw (attempt_again width at value ok rest h small fits) refl

fetch_again : (at : ℕ) (got : Option ℕ) (rest : List ℕ) → at < 2 ^ 64 → IfSome got (λ value. value < 2 ^ 32)
    → front_fetch (join_with_byte 32 (hexadecimal at ∷ codes "=" ∷ got_text got ∷ []) ++ 10 ∷ rest) ≡ Some (Fetch at got, rest)
unfolding front_fetch
fetch_again at got rest small fits =
    rw (
      behind_word (hexadecimal at) (61 ∷ 32 ∷ got_text got) (10 ∷ rest),
      hexadecimal_again 32 max_u64 at (61 ∷ 32 ∷ (got_text got ++ 10 ∷ rest)) refl small (omega arith),
      got_again (2 ^ 32 - 1) got rest (omega arith) (instruction_below got fits),
    ) refl

irq_again : (device vector : ℕ) (rest : List ℕ) → device < 2 ^ 32 → vector < 256 → front_irq (join_with_byte 32 (decimal device ∷ decimal vector ∷ []) ++ 10 ∷ rest) ≡ Some (Irq device vector, rest)
unfolding front_irq
irq_again device vector rest d v =
    rw (
      behind_word (decimal device) (decimal vector) (10 ∷ rest),
      decimal_again 32 (2 ^ 32 - 1) device (decimal vector ++ 10 ∷ rest) refl (omega arith) (omega arith),
      decimal_again 10 255 vector rest refl (omega arith) (omega arith),
    ) refl

-- a call with its code and its two arguments, and what comes of it
call_by : (code a b : ℕ) (word rest : List ℕ) (act : Act) → code < 2 ^ 64 → a < 2 ^ 64 → b < 2 ^ 64 → front_outcome code a b (word ++ 10 ∷ rest) ≡ Some (act, rest)
    → front_call (join_with_byte 32 (decimal code ∷ hexadecimal a ∷ hexadecimal b ∷ codes "=" ∷ word ∷ []) ++ 10 ∷ rest) ≡ Some (act, rest)
unfolding front_call
call_by code a b word rest act c x y outcome =
    rw (
      behind_word (decimal code) (hexadecimal a ++ 32 ∷ (hexadecimal b ++ 32 ∷ 61 ∷ 32 ∷ word)) (10 ∷ rest),
      behind_word (hexadecimal a) (hexadecimal b ++ 32 ∷ 61 ∷ 32 ∷ word) (10 ∷ rest),
      behind_word (hexadecimal b) (61 ∷ 32 ∷ word) (10 ∷ rest),
      decimal_again 32 max_u64 code (hexadecimal a ++ 32 ∷ (hexadecimal b ++ 32 ∷ 61 ∷ 32 ∷ (word ++ 10 ∷ rest))) refl c (omega arith),
      hexadecimal_again 32 max_u64 a (hexadecimal b ++ 32 ∷ 61 ∷ 32 ∷ (word ++ 10 ∷ rest)) refl x (omega arith),
      hexadecimal_again 32 max_u64 b (61 ∷ 32 ∷ (word ++ 10 ∷ rest)) refl y (omega arith),
      outcome,
    ) refl

pub begin_again : (code a b : ℕ) (rest : List ℕ) → front_outcome code a b (codes "begin" ++ 10 ∷ rest) ≡ Some (Begin code a b, rest)
unfolding front_outcome
begin_again code a b rest = refl

pub hvc_again : (code a b : ℕ) (answer : ℤ) (rest : List ℕ) → FitsSigned w64 answer → front_outcome code a b (signed_decimal answer ++ 10 ∷ rest) ≡ Some (Hvc code a b answer, rest)
unfolding front_outcome
hvc_again code a b answer rest z =
    rw (answer_is_not answer rest 98 (101 ∷ 103 ∷ 105 ∷ 110 ∷ 10 ∷ []) z (omega arith) (omega arith) (omega arith), answer_again answer rest z) refl

noted_again : (id : ℕ) (how : Heard) (rest : List ℕ) → id < 2 ^ 32 → front_noted (join_with_byte 32 (decimal id ∷ codes "=" ∷ heard_text how ∷ []) ++ 10 ∷ rest) ≡ Some (Noted id how, rest)
unfolding front_noted
noted_again id how rest small =
    rw (
      behind_word (decimal id) (61 ∷ 32 ∷ heard_text how) (10 ∷ rest),
      decimal_again 32 (2 ^ 32 - 1) id (61 ∷ 32 ∷ (heard_text how ++ 10 ∷ rest)) refl (omega arith) (omega arith),
      heard_again how rest,
    ) refl

-- the words of each act lead to the act
pub act_again : (act : Act) (rest : List ℕ) → IsReadableAct act → front_act (join_with_byte 32 (act_words act) ++ 10 ∷ rest) ≡ Some (act, rest)
unfolding front_act front_act_of_call
act_again (Read width at got) rest (h, small, fits) = read_again width at got rest h small fits
act_again (Write width at value ok) rest (h, small, fits) = write_again width at value ok rest h small fits
act_again (Fetch at got) rest (small, fits) = fetch_again at got rest small fits
act_again (Await width at value ok) rest (h, small, fits) = await_again width at value ok rest h small fits
act_again (Irq device vector) rest (d, v) = irq_again device vector rest d v
act_again (Hvc code a b answer) rest (c, x, y, z) = call_by code a b (signed_decimal answer) rest (Hvc code a b answer) c x y (hvc_again code a b answer rest z)
act_again (Begin code a b) rest (c, x, y) = call_by code a b (codes "begin") rest (Begin code a b) c x y (begin_again code a b rest)
act_again Stop rest h = refl
act_again (Decide refused) rest fits = rw (decision_again refused rest fits) refl
act_again (Settle how) rest h = rw (settled_again how rest) refl
act_again Commit rest h = refl
act_again (Note id) rest small = rw (decimal_again 10 (2 ^ 32 - 1) id rest refl (omega arith) (omega arith)) refl
act_again (Noted id how) rest small = noted_again id how rest small
act_again (Finish answer) rest z = rw (answer_again answer rest z) refl

-- after the CPU and the cell comes the act
text_parts : (cpu cell : List ℕ) (act : Act) → join_with_byte 32 (cpu ∷ cell ∷ act_words act) ≡ cpu ++ 32 ∷ (cell ++ 32 ∷ join_with_byte 32 (act_words act))
text_parts cpu cell (Read width at got) = refl
text_parts cpu cell (Write width at value ok) = refl
text_parts cpu cell (Fetch at got) = refl
text_parts cpu cell (Await width at value ok) = refl
text_parts cpu cell (Irq device vector) = refl
text_parts cpu cell (Hvc code a b answer) = refl
text_parts cpu cell (Begin code a b) = refl
text_parts cpu cell Stop = refl
text_parts cpu cell (Decide refused) = refl
text_parts cpu cell (Settle how) = refl
text_parts cpu cell Commit = refl
text_parts cpu cell (Note id) = refl
text_parts cpu cell (Noted id how) = refl
text_parts cpu cell (Finish answer) = refl

line_parts : (cpu cell act rest : List ℕ) → ((cpu ++ 32 ∷ (cell ++ 32 ∷ act)) ++ 10 ∷ []) ++ rest ≡ cpu ++ 32 ∷ (cell ++ 32 ∷ (act ++ 10 ∷ rest))
line_parts cpu cell act rest =
    append_assoc (cpu ++ 32 ∷ (cell ++ 32 ∷ act)) (10 ∷ []) rest
    ∙ behind_word cpu (cell ++ 32 ∷ act) (10 ∷ rest)
    ∙ ap (λ t. cpu ++ 32 ∷ t) (behind_word cell act (10 ∷ rest))

parts_again : (cpu cell : ℕ) (act : Act) (rest : List ℕ) → cpu < 16 → cell < 2 ^ 32 → IsReadableAct act
    → front_entry (decimal cpu ++ 32 ∷ (decimal cell ++ 32 ∷ (join_with_byte 32 (act_words act) ++ 10 ∷ rest))) ≡ Some (record { cpu = cpu; cell = cell; act = act }, rest)
unfolding front_entry
parts_again cpu cell act rest c i h =
    rw (
      decimal_again 32 15 cpu (decimal cell ++ 32 ∷ (join_with_byte 32 (act_words act) ++ 10 ∷ rest)) refl (omega arith) (omega arith),
      decimal_again 32 (2 ^ 32 - 1) cell (join_with_byte 32 (act_words act) ++ 10 ∷ rest) refl (omega arith) (omega arith),
      act_again act rest h,
    ) refl

-- the line of an entry leads to the entry, and to what stands behind it
pub entry_again : (entry : Entry) (rest : List ℕ) → IsReadable entry → front_entry (line entry ++ rest) ≡ Some (entry, rest)
entry_again entry rest h =
    ap (λ t. front_entry ((t ++ 10 ∷ []) ++ rest)) (text_parts (decimal entry.cpu) (decimal entry.cell) entry.act)
    ∙ ap front_entry (line_parts (decimal entry.cpu) (decimal entry.cell) (join_with_byte 32 (act_words entry.act)) rest)
    ∙ parts_again entry.cpu entry.cell entry.act rest h.cpu h.cell h.act
