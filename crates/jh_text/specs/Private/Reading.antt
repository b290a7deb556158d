-- How the reader finds the one entry with whose line a text begins, as functions on lists: a reader gives what it
-- reads, and what stands behind it.
use Rattle.std.specs.Prelude.{◌≡◌, ℕ, ◌+◌, ◌-◌, ◌*◌, ◌^◌, ◌&&◌, ℤ, pos, ◌-ℤ◌, Bool, true, false, ◌==◌, nat_le, nat_lt, if◌then◌else◌, not, Option, Some, None, option_map, List, [], ◌∷◌, ◌++◌, length, take, drop, codes}
use Rattle.std.specs.Char.{is_ascii_uppercase, is_digit, digit_value}
use Rattle.std.specs.Str.{bytes_eq}
use Rattle.jh_script.specs.Operations.{◌>>=◌}
use Rattle.jh_text.specs.Ranges.{is_width}
use Rattle.jh_history.specs.declared.entry.Entry.{Entry}
use Rattle.jh_history.specs.declared.entry.Act.{Act}
use Rattle.jh_history.specs.declared.entry.Act.TheVariants.{Read, Write, Fetch, Await, Irq, Hvc, Begin, Stop, Decide, Settle, Commit, Note, Noted, Finish}
use Rattle.jh_history.specs.declared.entry.Settled.{Settled}
use Rattle.jh_history.specs.declared.entry.Settled.TheVariants as settled
use Rattle.jh_history.specs.declared.entry.Heard.{Heard}
use Rattle.jh_history.specs.declared.entry.Heard.TheVariants as heard

-- what a function found, seen by view, is what the function on lists finds
abbrev pub Finds : {X Y : Type 0} → (X → Y) → Option X → Option Y → Type 0
Finds view (Some x) found = found ≡ Some (view x)
Finds view None found = found ≡ None

-- what a function read, and what it left of the text, are what the function on lists gives
abbrev pub Reads : {A : Type 0} → Option A → List ℕ → Option (A × List ℕ) → Type 0
Reads (Some a) left read = read ≡ Some (a, left)
Reads None left read = read ≡ None

-- what is read, changed by the function
abbrev pub mapped : {A B : Type 0} → (A → B) → Option (A × List ℕ) → Option (B × List ℕ)
mapped f read = option_map (λ x. (f x.0, x.1)) read

-- ---- words

-- the text begins with the word
abbrev pub begins : List ℕ → List ℕ → Bool
begins word text = bytes_eq (take (length word) text) word

-- what stands behind the word with which the text begins
abbrev pub behind : List ℕ → List ℕ → List ℕ
behind word text = drop (length word) text

-- the word, where it is the last of its line
abbrev pub last : List ℕ → List ℕ
last word = word ++ 10 ∷ []

-- what the function reads behind an equals sign and a space
abbrev pub behind_equals : {A : Type 0} → (List ℕ → Option (A × List ℕ)) → List ℕ → Option (A × List ℕ)
behind_equals reads text = if begins (codes "= ") text then reads (behind (codes "= ") text) else None

-- ---- numbers

-- the byte is no letter in upper case
abbrev pub is_no_capital : ℕ → Bool
is_no_capital c = not (is_ascii_uppercase c)

-- the digit that the byte is, in lower case
abbrev pub lower_digit : ℕ → ℕ → Option ℕ
lower_digit radix c = if is_no_capital c && is_digit c radix then Some (digit_value c) else None

-- the number with one more digit
abbrev pub with_digit : ℕ → ℕ → ℕ → Option ℕ
with_digit radix n digit = if nat_lt (n * radix + digit) (2 ^ 64) then Some (n * radix + digit) else None

-- the number with one more digit, which the byte is
abbrev pub with_written_digit : ℕ → ℕ → ℕ → Option ℕ
with_written_digit radix n c = lower_digit radix c >>= with_digit radix n

-- the number that the digits before the end write behind those of n
unfoldable pub digits_until : ℕ → ℕ → ℕ → List ℕ → Option (ℕ × List ℕ)
digits_until radix end n [] = None
digits_until radix end n (c ∷ text) =
    if c == end then Some (n, text)
    else (lower_digit radix c >>= λ digit. with_digit radix n digit >>= λ m. digits_until radix end m text)

-- a word stands before the end, and doesn't begin with a 0 that isn't all of it
abbrev pub begins_canonical : ℕ → List ℕ → Bool
begins_canonical end [] = false
begins_canonical end (c ∷ []) = not (c == end)
begins_canonical end (c ∷ d ∷ text) = if c == 48 then d == end else not (c == end)

-- the number that the word before the end is, where it is at most `most`
unfoldable pub number_until : ℕ → ℕ → ℕ → List ℕ → Option (ℕ × List ℕ)
number_until radix end most text =
    if begins_canonical end text then (digits_until radix end 0 text >>= λ x. if nat_le x.0 most then Some x else None) else None

-- the largest number of 64 bits
abbrev pub max_u64 : ℕ
max_u64 = 2 ^ 64 - 1

-- the number whose digits stand behind `0x` in the word before the end, where it is at most `most`
unfoldable pub hexadecimal_until : ℕ → ℕ → List ℕ → Option (ℕ × List ℕ)
hexadecimal_until end most (a ∷ x ∷ text) = if a == 48 then (if x == 120 then number_until 16 end most text else None) else None
hexadecimal_until end most (a ∷ []) = None
hexadecimal_until end most [] = None

-- the number as far below 0 as n is above, where n isn't 0 and it is one of 64 bits
abbrev pub negative : ℕ → Option ℤ
negative n = if n == 0 then None else (if nat_le n (2 ^ 63) then Some (pos 0 -ℤ pos n) else None)

-- the number of 64 bits with a sign that is the last word of its line
unfoldable pub front_answer : List ℕ → Option (ℤ × List ℕ)
front_answer [] = None
front_answer (c ∷ text) =
    if c == 45 then (number_until 10 10 max_u64 text >>= λ x. option_map (λ z. (z, x.1)) (negative x.0))
    else mapped pos (number_until 10 10 (2 ^ 63 - 1) (c ∷ text))

-- the width that the digit writes
abbrev pub width_digit : ℕ → Option ℕ
width_digit c = if is_width (c - 48) then Some (c - 48) else None

-- a width has one digit, behind which a space stands
unfoldable pub front_width : List ℕ → Option (ℕ × List ℕ)
front_width [] = None
front_width (c ∷ []) = None
front_width (c ∷ d ∷ text) = if d == 32 then option_map (λ width. (width, text)) (width_digit c) else None

-- ---- the last word of a line

-- what a read or a fetch gave, at most `most`; no value where it was a violation
unfoldable pub front_got : ℕ → List ℕ → Option (Option ℕ × List ℕ)
front_got most text =
    if begins (codes "0") text then mapped Some (hexadecimal_until 10 most text)
    else (if begins (last (codes "violation")) text then Some (None, behind (last (codes "violation")) text) else None)

-- whether a write or a wait was granted
unfoldable pub front_ok : List ℕ → Option (Bool × List ℕ)
front_ok text =
    if begins (last (codes "ok")) text then Some (true, behind (last (codes "ok")) text)
    else (if begins (last (codes "violation")) text then Some (false, behind (last (codes "violation")) text) else None)

-- the number with which a call is refused; none where it goes on
unfoldable pub front_decision : List ℕ → Option (Option ℤ × List ℕ)
front_decision text =
    if begins (last (codes "go")) text then Some (None, behind (last (codes "go")) text) else mapped Some (front_answer text)

-- how a cell met the request to shut down
unfoldable pub front_settled : List ℕ → Option (Settled × List ℕ)
front_settled text =
    if begins (last (codes "agreed")) text then Some (settled.Agreed, behind (last (codes "agreed")) text)
    else (if begins (last (codes "denied")) text then Some (settled.Denied, behind (last (codes "denied")) text)
    else (if begins (last (codes "timeout")) text then Some (settled.Timeout, behind (last (codes "timeout")) text) else None))

-- how a cell met the note of a change
unfoldable pub front_heard : List ℕ → Option (Heard × List ℕ)
front_heard text =
    if begins (last (codes "received")) text then Some (heard.Received, behind (last (codes "received")) text)
    else (if begins (last (codes "down")) text then Some (heard.Down, behind (last (codes "down")) text)
    else (if begins (last (codes "other")) text then Some (heard.Other, behind (last (codes "other")) text)
    else (if begins (last (codes "timeout")) text then Some (heard.Timeout, behind (last (codes "timeout")) text) else None)))

-- ---- what stands behind the name of an act

-- a read, behind its name
unfoldable pub front_read : List ℕ → Option (Act × List ℕ)
front_read text = do
  width ← front_width text
  at ← hexadecimal_until 32 max_u64 width.1
  got ← behind_equals (front_got (256 ^ width.0 - 1)) at.1
  Some (Read width.0 at.0 got.0, got.1)

-- the width, the address and the value of a write or a wait, and whether it was granted
unfoldable pub front_attempt : List ℕ → Option ((ℕ × ℕ × ℕ × Bool) × List ℕ)
front_attempt text = do
  width ← front_width text
  at ← hexadecimal_until 32 max_u64 width.1
  value ← hexadecimal_until 32 (256 ^ width.0 - 1) at.1
  ok ← behind_equals front_ok value.1
  Some ((width.0, at.0, value.0, ok.0), ok.1)

-- a write, behind its name
unfoldable pub front_write : List ℕ → Option (Act × List ℕ)
front_write text = mapped (λ x. Write x.0 x.1 x.2 x.3) (front_attempt text)

-- a wait for a value, behind its name
unfoldable pub front_await : List ℕ → Option (Act × List ℕ)
front_await text = mapped (λ x. Await x.0 x.1 x.2 x.3) (front_attempt text)

-- a fetch, behind its name
unfoldable pub front_fetch : List ℕ → Option (Act × List ℕ)
front_fetch text = do
  at ← hexadecimal_until 32 max_u64 text
  got ← behind_equals (front_got (2 ^ 32 - 1)) at.1
  Some (Fetch at.0 got.0, got.1)

-- an interrupt, behind its name and the equals sign
unfoldable pub front_irq : List ℕ → Option (Act × List ℕ)
front_irq text = do
  device ← number_until 10 32 (2 ^ 32 - 1) text
  vector ← number_until 10 10 255 device.1
  Some (Irq device.0 vector.0, vector.1)

-- what comes of a call with its code and its arguments
unfoldable pub front_outcome : ℕ → ℕ → ℕ → List ℕ → Option (Act × List ℕ)
front_outcome code a b text =
    if begins (last (codes "begin")) text then Some (Begin code a b, behind (last (codes "begin")) text)
    else mapped (Hvc code a b) (front_answer text)

-- a hypercall, behind its name
unfoldable pub front_call : List ℕ → Option (Act × List ℕ)
front_call text = do
  code ← number_until 10 32 max_u64 text
  a ← hexadecimal_until 32 max_u64 code.1
  b ← hexadecimal_until 32 max_u64 a.1
  behind_equals (front_outcome code.0 a.0 b.0) b.1

-- how a cell met the note of a change, behind the name
unfoldable pub front_noted : List ℕ → Option (Act × List ℕ)
front_noted text = do
  id ← number_until 10 32 (2 ^ 32 - 1) text
  how ← behind_equals front_heard id.1
  Some (Noted id.0 how.0, how.1)

-- a hypercall, an act of a call that is open, or a stop
unfoldable pub front_act_of_call : List ℕ → Option (Act × List ℕ)
front_act_of_call text =
    if begins (codes "hvc ") text then front_call (behind (codes "hvc ") text)
    else (if begins (codes "decide = ") text then mapped Decide (front_decision (behind (codes "decide = ") text))
    else (if begins (codes "settle = ") text then mapped Settle (front_settled (behind (codes "settle = ") text))
    else (if begins (codes "note ") text then mapped Note (number_until 10 10 (2 ^ 32 - 1) (behind (codes "note ") text))
    else (if begins (codes "noted ") text then front_noted (behind (codes "noted ") text)
    else (if begins (codes "finish = ") text then mapped Finish (front_answer (behind (codes "finish = ") text))
    else (if begins (last (codes "stop")) text then Some (Stop, behind (last (codes "stop")) text)
    else (if begins (last (codes "commit")) text then Some (Commit, behind (last (codes "commit")) text)
    else None)))))))

-- an act: an access, an interrupt, or one of a call
unfoldable pub front_act : List ℕ → Option (Act × List ℕ)
front_act text =
    if begins (codes "read ") text then front_read (behind (codes "read ") text)
    else (if begins (codes "write ") text then front_write (behind (codes "write ") text)
    else (if begins (codes "fetch ") text then front_fetch (behind (codes "fetch ") text)
    else (if begins (codes "await ") text then front_await (behind (codes "await ") text)
    else (if begins (codes "irq = ") text then front_irq (behind (codes "irq = ") text)
    else front_act_of_call text))))

-- the entry with whose line the text begins
unfoldable pub front_entry : List ℕ → Option (Entry × List ℕ)
front_entry text = do
  cpu ← number_until 10 32 15 text
  cell ← number_until 10 32 (2 ^ 32 - 1) cpu.1
  act ← front_act cell.1
  Some (record { cpu = cpu.0; cell = cell.0; act = act.0 }, act.1)
