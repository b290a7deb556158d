-- What the text of messages tells.
use Rattle.std.specs.Prelude.{◌-◌, ℕ, ◌==◌, nat_eq, if◌then◌else◌, Option, Some, None, Result, List, [], ◌∷◌, map, codes}
use Rattle.std.specs.Option.{option_map}
use Rattle.std.specs.Str.{bytes_eq}
use Rattle.std.specs.Str.Lines.{lines}
use Rattle.std.specs.List.{starts_with}
use Rattle.jh_script.specs.Operations.{is_ascii, one_of}
use Rattle.jh_script.specs.Programs.{line_number, unless}
use Rattle.jh_script.specs.Words.{words, line_gaps}
use Rattle.jh_talk.specs.declared.messages.Messages.{Messages}
use Rattle.jh_talk.specs.declared.line.Line.{Line}
use Rattle.jh_talk.specs.declared.line.Line.TheVariants.{Blank, Send, Reply, Syntax}
use Rattle.jh_talk.specs.declared.fault.MessagesFault.{MessagesFault}
use Rattle.jh_talk.specs.declared.fault.MessagesFault.TheVariants as faults
use Rattle.jh_talk.specs.Limits.{most_messages}

-- the message of the side with this name, whose number the words behind it are
unfoldable pub message_of : List ℕ → List (List ℕ) → Option Line
message_of side behind =
    if bytes_eq side (codes "send") then option_map Send (one_of behind)
    else (if bytes_eq side (codes "reply") then option_map Reply (one_of behind) else None)

-- what a line tells that is of this message, or of none
unfoldable pub line_of_message : Option Line → Line
line_of_message None = Syntax
line_of_message (Some line) = line

-- what a line of these words tells; a first word that begins with `#` begins a comment
unfoldable pub line_of_words : List (List ℕ) → Line
line_of_words [] = Blank
line_of_words (first ∷ behind) = if starts_with nat_eq first (codes "#") then Blank else line_of_message (message_of first behind)

-- what a line of these bytes tells: a byte of 128 or more is a fault, in a comment too
unfoldable pub line_of : List ℕ → Line
line_of line = if is_ascii line then line_of_words (words line_gaps line) else Syntax

-- what each line of the text tells, in order
unfoldable pub lines_of : List ℕ → List Line
lines_of text = map line_of (lines text)

-- the first fault of lines that stand behind others, where so many sends and so many replies more are allowed
unfoldable pub first_fault : ℕ → ℕ → ℕ → List Line → Option MessagesFault
first_fault before sends replies [] = None
first_fault before sends replies (Blank ∷ more) = first_fault (line_number before) sends replies more
first_fault before sends replies (Send number ∷ more) =
    if sends == 0 then Some faults.TooLong else first_fault (line_number before) (sends - 1) replies more
first_fault before sends replies (Reply number ∷ more) =
    if replies == 0 then Some faults.TooLong else first_fault (line_number before) sends (replies - 1) more
first_fault before sends replies (Syntax ∷ more) = Some (faults.Line (line_number before))

-- what root sends by the lines, in order
unfoldable pub sends_of : List Line → List ℕ
sends_of [] = []
sends_of (Blank ∷ more) = sends_of more
sends_of (Send number ∷ more) = number ∷ sends_of more
sends_of (Reply number ∷ more) = sends_of more
sends_of (Syntax ∷ more) = sends_of more

-- what the cell replies by the lines, in order
unfoldable pub replies_of : List Line → List ℕ
replies_of [] = []
replies_of (Blank ∷ more) = replies_of more
replies_of (Send number ∷ more) = replies_of more
replies_of (Reply number ∷ more) = number ∷ replies_of more
replies_of (Syntax ∷ more) = replies_of more

-- the messages of the lines
unfoldable pub messages_of_lines : List Line → Messages
messages_of_lines lines = record { sends = sends_of lines; replies = replies_of lines }

-- the messages of the text, or its first fault
unfoldable pub messages_of : List ℕ → Result Messages MessagesFault
messages_of text = unless (first_fault 0 most_messages most_messages (lines_of text)) (messages_of_lines (lines_of text))
