-- One more line of a text of messages.
use Rattle.std.proofs.Common.{◌≡◌, ℕ, ◌-◌, ◌+◌, ◌<◌, List, [], ◌∷◌, ◌++◌, length, Option, Some, Ok, Err, refl, sym, ap, ◌∙◌, arith, append_assoc, length-append}
use Rattle.std.proofs.lemmas.Bool.{ne_eqb}
use Rattle.std.proofs.lemmas.List.{append-nil}
use Rattle.jh_script.specs.Programs.{line_number, unless}
use Rattle.jh_talk.specs.declared.line.Line.{Line}
use Rattle.jh_talk.specs.declared.line.Line.TheVariants.{Blank, Send, Reply, Syntax}
use Rattle.jh_talk.specs.declared.fault.MessagesFault.{MessagesFault}
use Rattle.jh_talk.specs.declared.fault.MessagesFault.TheVariants as faults
use Rattle.jh_talk.specs.Messages.{lines_of, first_fault, sends_of, replies_of, messages_of_lines, messages_of}
use Rattle.jh_talk.specs.Limits.{most_messages}

abbrev text_fault : List ℕ → Option MessagesFault
text_fault text = first_fault 0 most_messages most_messages (lines_of text)

refused : (text : List ℕ) (fault : MessagesFault) → text_fault text ≡ Some fault → messages_of text ≡ Err fault
unfolding messages_of
refused text fault e = ap (λ x. unless x (messages_of_lines (lines_of text))) e

-- ---- a fault

pub sends_too_many : (text : List ℕ) (n replies : ℕ) (sends : List ℕ) (lines more : List Line) (number : ℕ) → text_fault text ≡ first_fault n (most_messages - length sends) replies lines → lines ≡ Send number ∷ more → length sends ≡ most_messages → messages_of text ≡ Err faults.TooLong
unfolding first_fault
sends_too_many text n replies sends lines more number h e full =
    let none : most_messages - length sends ≡ 0 = omega arith in
    refused text faults.TooLong (h ∙ ap (first_fault n (most_messages - length sends) replies) e ∙ ap (λ room. first_fault n room replies (Send number ∷ more)) none)

pub replies_too_many : (text : List ℕ) (n sends : ℕ) (replies : List ℕ) (lines more : List Line) (number : ℕ) → text_fault text ≡ first_fault n sends (most_messages - length replies) lines → lines ≡ Reply number ∷ more → length replies ≡ most_messages → messages_of text ≡ Err faults.TooLong
unfolding first_fault
replies_too_many text n sends replies lines more number h e full =
    let none : most_messages - length replies ≡ 0 = omega arith in
    refused text faults.TooLong (h ∙ ap (first_fault n sends (most_messages - length replies)) e ∙ ap (λ room. first_fault n sends room (Reply number ∷ more)) none)

pub messages_syntax : (text : List ℕ) (n next sends replies : ℕ) (lines more : List Line) → text_fault text ≡ first_fault n sends replies lines → lines ≡ Syntax ∷ more → next ≡ line_number n → messages_of text ≡ Err (faults.Line next)
unfolding first_fault
messages_syntax text n next sends replies lines more h e number =
    refused text (faults.Line next) (h ∙ ap (first_fault n sends replies) e ∙ ap (λ k. Some (faults.Line k)) (sym number))

-- ---- no line is left

-- no line is left, so that what stands behind these is nothing
nothing_more : (of : List Line → List ℕ) → of [] ≡ [] → (all found : List ℕ) (lines : List Line) → all ≡ found ++ of lines → lines ≡ [] → all ≡ found
nothing_more of none all found lines e done = e ∙ ap (λ x. found ++ of x) done ∙ ap (λ x. found ++ x) none ∙ append-nil found

no_sends : sends_of [] ≡ []
unfolding sends_of
no_sends = refl

no_replies : replies_of [] ≡ []
unfolding replies_of
no_replies = refl

pub messages_done : (text : List ℕ) (n more_sends more_replies : ℕ) (sends replies : List ℕ) (lines : List Line) → text_fault text ≡ first_fault n more_sends more_replies lines → sends_of (lines_of text) ≡ sends ++ sends_of lines → replies_of (lines_of text) ≡ replies ++ replies_of lines → lines ≡ [] → messages_of text ≡ Ok (record { sends = sends; replies = replies })
unfolding messages_of first_fault messages_of_lines
messages_done text n more_sends more_replies sends replies lines h sent replied e =
    let sends_are = nothing_more sends_of no_sends (sends_of (lines_of text)) sends lines sent e in
    let replies_are = nothing_more replies_of no_replies (replies_of (lines_of text)) replies lines replied e in
    ap (λ x. unless x (messages_of_lines (lines_of text))) (h ∙ ap (first_fault n more_sends more_replies) e)
    ∙ (λ i. Ok (record { sends = sends_are i; replies = replies_are i }))

-- ---- a blank line

pub blank_fault : (text : List ℕ) (n next sends replies : ℕ) (lines more : List Line) → text_fault text ≡ first_fault n sends replies lines → lines ≡ Blank ∷ more → next ≡ line_number n → text_fault text ≡ first_fault next sends replies more
unfolding first_fault
blank_fault text n next sends replies lines more h e number = h ∙ ap (first_fault n sends replies) e ∙ ap (λ k. first_fault k sends replies more) (sym number)

-- a line that tells nothing of the side is passed
pub passed : (of : List Line → List ℕ) (all found : List ℕ) (line : Line) (lines more : List Line) → of (line ∷ more) ≡ of more → all ≡ found ++ of lines → lines ≡ line ∷ more → all ≡ found ++ of more
passed of all found line lines more skips e is = e ∙ ap (λ x. found ++ of x) is ∙ ap (λ x. found ++ x) skips

-- a line that tells a number of the side is joined
pub joined : (of : List Line → List ℕ) (all found pushed : List ℕ) (number : ℕ) (line : Line) (lines more : List Line) → of (line ∷ more) ≡ number ∷ of more → all ≡ found ++ of lines → lines ≡ line ∷ more → pushed ≡ found ++ number ∷ [] → all ≡ pushed ++ of more
joined of all found pushed number line lines more tells e is push =
    e ∙ ap (λ x. found ++ of x) is ∙ ap (λ x. found ++ x) tells ∙ sym (append_assoc found (number ∷ []) (of more)) ∙ ap (λ x. x ++ of more) (sym push)

pub blank_no_send : (more : List Line) → sends_of (Blank ∷ more) ≡ sends_of more
unfolding sends_of
blank_no_send more = refl

pub blank_no_reply : (more : List Line) → replies_of (Blank ∷ more) ≡ replies_of more
unfolding replies_of
blank_no_reply more = refl

-- ---- a message

one_more_send : (n sends replies number : ℕ) (more : List Line) → 0 < sends → first_fault n sends replies (Send number ∷ more) ≡ first_fault (line_number n) (sends - 1) replies more
unfolding first_fault
one_more_send n sends replies number more some = rw (ne_eqb sends 0 (λ e. omega arith)) refl

one_more_reply : (n sends replies number : ℕ) (more : List Line) → 0 < replies → first_fault n sends replies (Reply number ∷ more) ≡ first_fault (line_number n) sends (replies - 1) more
unfolding first_fault
one_more_reply n sends replies number more some = rw (ne_eqb replies 0 (λ e. omega arith)) refl

one_less : (found pushed : List ℕ) (number : ℕ) → pushed ≡ found ++ number ∷ [] → most_messages - length found - 1 ≡ most_messages - length pushed
one_less found pushed number push = omega (arith, ap length push, length-append found (number ∷ []))

pub send_fault : (text : List ℕ) (n next replies : ℕ) (sends pushed : List ℕ) (lines more : List Line) (number : ℕ) → text_fault text ≡ first_fault n (most_messages - length sends) replies lines → lines ≡ Send number ∷ more → next ≡ line_number n → length sends < most_messages → pushed ≡ sends ++ number ∷ [] → text_fault text ≡ first_fault next (most_messages - length pushed) replies more
send_fault text n next replies sends pushed lines more number h e is few push =
    let room = most_messages - length sends in
    h ∙ ap (first_fault n room replies) e ∙ one_more_send n room replies number more (omega arith)
    ∙ ap (λ k. first_fault k (room - 1) replies more) (sym is) ∙ ap (λ r. first_fault next r replies more) (one_less sends pushed number push)

pub reply_fault : (text : List ℕ) (n next sends : ℕ) (replies pushed : List ℕ) (lines more : List Line) (number : ℕ) → text_fault text ≡ first_fault n sends (most_messages - length replies) lines → lines ≡ Reply number ∷ more → next ≡ line_number n → length replies < most_messages → pushed ≡ replies ++ number ∷ [] → text_fault text ≡ first_fault next sends (most_messages - length pushed) more
reply_fault text n next sends replies pushed lines more number h e is few push =
    let room = most_messages - length replies in
    h ∙ ap (first_fault n sends room) e ∙ one_more_reply n sends room number more (omega arith)
    ∙ ap (λ k. first_fault k sends (room - 1) more) (sym is) ∙ ap (λ r. first_fault next sends r more) (one_less replies pushed number push)

pub send_sends : (number : ℕ) (more : List Line) → sends_of (Send number ∷ more) ≡ number ∷ sends_of more
unfolding sends_of
send_sends number more = refl

pub send_no_reply : (number : ℕ) (more : List Line) → replies_of (Send number ∷ more) ≡ replies_of more
unfolding replies_of
send_no_reply number more = refl

pub reply_replies : (number : ℕ) (more : List Line) → replies_of (Reply number ∷ more) ≡ number ∷ replies_of more
unfolding replies_of
reply_replies number more = refl

pub reply_no_send : (number : ℕ) (more : List Line) → sends_of (Reply number ∷ more) ≡ sends_of more
unfolding sends_of
reply_no_send number more = refl

pub one_more_few : (found pushed : List ℕ) (number : ℕ) → pushed ≡ found ++ number ∷ [] → length found < most_messages → length pushed ≡ length found + 1
one_more_few found pushed number push few = omega (arith, ap length push, length-append found (number ∷ []))
