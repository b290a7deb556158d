-- The text of an entry and of a journal.
use Rattle.std.specs.Prelude.{ℕ, Bool, true, false, Option, Some, None, ℤ, List, [], ◌∷◌, ◌++◌, length, take, drop, codes}
use Rattle.std.specs.List.{join_with_byte, flat_map}
use Rattle.std.specs.Str.{bytes_eq}
use Rattle.std.specs.Fmt.{decimal, signed_decimal, digits}
use Rattle.jh_history.specs.declared.entry.Entry.{Entry}
use Rattle.jh_history.specs.declared.form.Form.{Form}
use Rattle.jh_history.specs.declared.form.Form.TheVariants.{One, Two}
use Rattle.jh_history.specs.declared.entry.Act.{Act}
use Rattle.jh_history.specs.declared.entry.Act.TheVariants.{Read, Write, Fetch, Await, Irq, Hvc, Begin, Stop, Decide, Settle, Commit, Note, Noted, Finish}
use Rattle.jh_history.specs.declared.entry.Settled.{Settled}
use Rattle.jh_history.specs.declared.entry.Settled.TheVariants as settled
use Rattle.jh_history.specs.declared.entry.Heard.{Heard}
use Rattle.jh_history.specs.declared.entry.Heard.TheVariants as heard

-- `0x`, and the digits of the number in base 16, in lower case and without leading zeros
abbrev pub hexadecimal : ℕ → List ℕ
hexadecimal n = codes "0x" ++ digits 16 false n

-- what a read or a fetch gave
abbrev pub got_text : Option ℕ → List ℕ
got_text (Some value) = hexadecimal value
got_text None = codes "violation"

-- whether a write or a wait was granted
abbrev pub ok_text : Bool → List ℕ
ok_text true = codes "ok"
ok_text false = codes "violation"

-- whether a call goes on, or the number with which it is refused
abbrev pub decision_text : Option ℤ → List ℕ
decision_text None = codes "go"
decision_text (Some number) = signed_decimal number

-- how a cell met the request to shut down
abbrev pub settled_text : Settled → List ℕ
settled_text settled.Agreed = codes "agreed"
settled_text settled.Denied = codes "denied"
settled_text settled.Timeout = codes "timeout"

-- how a cell met the note of a change
abbrev pub heard_text : Heard → List ℕ
heard_text heard.Received = codes "received"
heard_text heard.Down = codes "down"
heard_text heard.Other = codes "other"
heard_text heard.Timeout = codes "timeout"

-- the words of a write or a wait behind its name
abbrev pub attempt_words : ℕ → ℕ → ℕ → Bool → List (List ℕ)
attempt_words width at value ok = decimal width ∷ hexadecimal at ∷ hexadecimal value ∷ codes "=" ∷ ok_text ok ∷ []

-- the words of an act
abbrev pub act_words : Act → List (List ℕ)
act_words (Read width at got) = codes "read" ∷ decimal width ∷ hexadecimal at ∷ codes "=" ∷ got_text got ∷ []
act_words (Write width at value ok) = codes "write" ∷ attempt_words width at value ok
act_words (Fetch at got) = codes "fetch" ∷ hexadecimal at ∷ codes "=" ∷ got_text got ∷ []
act_words (Await width at value ok) = codes "await" ∷ attempt_words width at value ok
act_words (Irq device vector) = codes "irq" ∷ codes "=" ∷ decimal device ∷ decimal vector ∷ []
act_words (Hvc code a b answer) = codes "hvc" ∷ decimal code ∷ hexadecimal a ∷ hexadecimal b ∷ codes "=" ∷ signed_decimal answer ∷ []
act_words (Begin code a b) = codes "hvc" ∷ decimal code ∷ hexadecimal a ∷ hexadecimal b ∷ codes "=" ∷ codes "begin" ∷ []
act_words Stop = codes "stop" ∷ []
act_words (Decide refused) = codes "decide" ∷ codes "=" ∷ decision_text refused ∷ []
act_words (Settle how) = codes "settle" ∷ codes "=" ∷ settled_text how ∷ []
act_words Commit = codes "commit" ∷ []
act_words (Note id) = codes "note" ∷ decimal id ∷ []
act_words (Noted id how) = codes "noted" ∷ decimal id ∷ codes "=" ∷ heard_text how ∷ []
act_words (Finish answer) = codes "finish" ∷ codes "=" ∷ signed_decimal answer ∷ []

-- the text of an act: its words, with one space between each two
abbrev pub act_text : Act → List ℕ
act_text act = join_with_byte 32 (act_words act)

-- the words of an entry: the CPU, the cell that it belonged to, and what it did
abbrev pub entry_words : Entry → List (List ℕ)
entry_words entry = decimal entry.cpu ∷ decimal entry.cell ∷ act_words entry.act

-- the text of an entry: its words, with one space between each two
abbrev pub entry_text : Entry → List ℕ
entry_text entry = join_with_byte 32 (entry_words entry)

-- the words with one space between each two, ended by a line feed
abbrev pub words_line : List (List ℕ) → List ℕ
words_line words = join_with_byte 32 words ++ 10 ∷ []

-- the line of an entry: that of its words
abbrev pub line : Entry → List ℕ
line entry = words_line (entry_words entry)

-- the lines of entries, in order
abbrev pub lines_text : List Entry → List ℕ
lines_text = flat_map line

-- the first line of a journal of form Two; one of form One has none
abbrev pub header : Form → List ℕ
header One = []
header Two = codes "jailhouse journal 2" ++ 10 ∷ []

-- how many lines the header has
abbrev pub header_lines : Form → ℕ
header_lines One = 0
header_lines Two = 1

-- the text of a journal: its header, and one line for each entry, in order
abbrev pub journal_text : Form → List Entry → List ℕ
journal_text form entries = header form ++ lines_text entries

-- the text begins with the header of form Two
abbrev pub has_header : List ℕ → Bool
has_header text = bytes_eq (take (length (header Two)) text) (header Two)

-- the form of the texts that begin with a header, or don't
abbrev pub form_by : Bool → Form
form_by true = Two
form_by false = One

-- the form of a text, which the text alone tells
abbrev pub form_of : List ℕ → Form
form_of text = form_by (has_header text)

-- what stands behind a text's header
abbrev pub body_of : List ℕ → List ℕ
body_of text = drop (length (header (form_of text))) text
