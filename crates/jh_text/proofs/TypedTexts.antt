-- Entries with the same text are the same, whatever their numbers: these are below the ends of their types alone.
use Rattle.std.proofs.Common.{◌≡◌, ℕ, suc, ◌-◌, ◌^◌, ◌<◌, ◌≤◌, ℤ, pos, negsuc, Bool, true, false, List, [], ◌∷◌, ◌++◌, length, Option, Some, None, refl, sym, ap, ◌∙◌, arith, FitsSigned, w64, append_assoc, length-append, codes, if◌then◌else◌}
use Rattle.std.specs.Option.{IfSome, option_map}
use Rattle.std.specs.List.{join_with_byte, AllByRecursion}
use Rattle.std.specs.Fmt.{decimal, signed_decimal}
use Rattle.std.specs.Str.{bytes_eq}
use Rattle.std.proofs.lemmas.Bool.{le-ltb}
use Rattle.std.proofs.lemmas.Int.{ints}
use Rattle.std.proofs.lemmas.Option.{none-some, same_Some}
use Rattle.jh_history.specs.declared.entry.Entry.{Entry}
use Rattle.jh_history.specs.declared.entry.Act.{Act}
use Rattle.jh_history.specs.declared.entry.Act.TheVariants.{Read, Write, Fetch, Await, Irq, Hvc, Begin, Stop, Decide, Settle, Commit, Note, Noted, Finish}
use Rattle.jh_history.specs.declared.entry.Settled.{Settled}
use Rattle.jh_history.specs.declared.entry.Settled.TheVariants as settled
use Rattle.jh_history.specs.declared.entry.Heard.{Heard}
use Rattle.jh_history.specs.declared.entry.Heard.TheVariants as heard
use Rattle.jh_text.specs.Ranges.{IsTypedAct, IsTyped}
use Rattle.jh_text.specs.Text.{hexadecimal, got_text, ok_text, decision_text, settled_text, heard_text, act_words, entry_words, entry_text, line, lines_text}
use Rattle.jh_script.specs.Operations.{◌>>=◌}
use Rattle.jh_text.specs.Private.Reading.{max_u64, number_until, hexadecimal_until, front_answer, front_got, front_ok, front_decision, front_settled, front_heard, front_outcome}
use Rattle.jh_text.proofs.Numbers.{Lacks_digits}
use Rattle.jh_text.proofs.Splits.{Lacks, Lacks_cons, Lacks_append, split_once, split_once_front}
use Rattle.jh_text.proofs.Spellings.{decimal_again, hexadecimal_again, answer_again, got_again, ok_again, decision_again, settled_again, heard_again}
use Rattle.jh_text.proofs.Acts.{begin_again, hvc_again}

-- ---- no word has a space or a line feed

record IsWord (bytes : List ℕ) : Type 0 where
  space : Lacks 32 bytes
  feed : Lacks 10 bytes

literal : {bytes : List ℕ} → Lacks 32 bytes → Lacks 10 bytes → IsWord bytes
literal space feed = record { space = space; feed = feed }

decimal_word : (n : ℕ) → n < 2 ^ 64 → IsWord (decimal n)
decimal_word n small = record {
  space = Lacks_digits 10 32 n (omega arith) (omega arith) (omega arith) refl;
  feed = Lacks_digits 10 10 n (omega arith) (omega arith) (omega arith) refl;
}

hexadecimal_word : (n : ℕ) → n < 2 ^ 64 → IsWord (hexadecimal n)
hexadecimal_word n small = record {
  space = Lacks_cons 32 48 _ refl (Lacks_cons 32 120 _ refl (Lacks_digits 16 32 n (omega arith) (omega arith) (omega arith) refl));
  feed = Lacks_cons 10 48 _ refl (Lacks_cons 10 120 _ refl (Lacks_digits 16 10 n (omega arith) (omega arith) (omega arith) refl));
}

answer_word : (z : ℤ) → FitsSigned w64 z → IsWord (signed_decimal z)
answer_word (pos n) fits = decimal_word n (omega (arith, ints))
answer_word (negsuc n) fits =
    let own = decimal_word (suc n) (omega (arith, ints)) in
    record { space = Lacks_cons 32 45 _ refl own.space; feed = Lacks_cons 10 45 _ refl own.feed }

got_word : (got : Option ℕ) → IfSome got (λ value. value < 2 ^ 64) → IsWord (got_text got)
got_word None fits = literal (record { none = refl }) (record { none = refl })
got_word (Some value) fits = hexadecimal_word value fits

ok_word : (ok : Bool) → IsWord (ok_text ok)
ok_word true = literal (record { none = refl }) (record { none = refl })
ok_word false = literal (record { none = refl }) (record { none = refl })

decision_word : (refused : Option ℤ) → IfSome refused (FitsSigned w64) → IsWord (decision_text refused)
decision_word None fits = literal (record { none = refl }) (record { none = refl })
decision_word (Some z) fits = answer_word z fits

settled_word : (how : Settled) → IsWord (settled_text how)
settled_word settled.Agreed = literal (record { none = refl }) (record { none = refl })
settled_word settled.Denied = literal (record { none = refl }) (record { none = refl })
settled_word settled.Timeout = literal (record { none = refl }) (record { none = refl })

heard_word : (how : Heard) → IsWord (heard_text how)
heard_word heard.Received = literal (record { none = refl }) (record { none = refl })
heard_word heard.Down = literal (record { none = refl }) (record { none = refl })
heard_word heard.Other = literal (record { none = refl }) (record { none = refl })
heard_word heard.Timeout = literal (record { none = refl }) (record { none = refl })

are_words : (act : Act) → IsTypedAct act → AllByRecursion IsWord (act_words act)
are_words (Read width at got) (w, a, g) = (literal (record { none = refl }) (record { none = refl }), (decimal_word width (omega arith), (hexadecimal_word at a, (literal (record { none = refl }) (record { none = refl }), (got_word got g, tt)))))
are_words (Write width at value ok) (w, a, v) = (literal (record { none = refl }) (record { none = refl }), (decimal_word width (omega arith), (hexadecimal_word at a, (hexadecimal_word value v, (literal (record { none = refl }) (record { none = refl }), (ok_word ok, tt))))))
are_words (Fetch at got) (a, g) = (literal (record { none = refl }) (record { none = refl }), (hexadecimal_word at a, (literal (record { none = refl }) (record { none = refl }), (got_word got g, tt))))
are_words (Await width at value ok) (w, a, v) = (literal (record { none = refl }) (record { none = refl }), (decimal_word width (omega arith), (hexadecimal_word at a, (hexadecimal_word value v, (literal (record { none = refl }) (record { none = refl }), (ok_word ok, tt))))))
are_words (Irq device vector) (d, v) = (literal (record { none = refl }) (record { none = refl }), (literal (record { none = refl }) (record { none = refl }), (decimal_word device (omega arith), (decimal_word vector (omega arith), tt))))
are_words (Hvc code a b answer) (c, x, y, z) = (literal (record { none = refl }) (record { none = refl }), (decimal_word code c, (hexadecimal_word a x, (hexadecimal_word b y, (literal (record { none = refl }) (record { none = refl }), (answer_word answer z, tt))))))
are_words (Begin code a b) (c, x, y) = (literal (record { none = refl }) (record { none = refl }), (decimal_word code c, (hexadecimal_word a x, (hexadecimal_word b y, (literal (record { none = refl }) (record { none = refl }), (literal (record { none = refl }) (record { none = refl }), tt))))))
are_words Stop h = (literal (record { none = refl }) (record { none = refl }), tt)
are_words (Decide refused) r = (literal (record { none = refl }) (record { none = refl }), (literal (record { none = refl }) (record { none = refl }), (decision_word refused r, tt)))
are_words (Settle how) h = (literal (record { none = refl }) (record { none = refl }), (literal (record { none = refl }) (record { none = refl }), (settled_word how, tt)))
are_words Commit h = (literal (record { none = refl }) (record { none = refl }), tt)
are_words (Note id) i = (literal (record { none = refl }) (record { none = refl }), (decimal_word id (omega arith), tt))
are_words (Noted id how) i = (literal (record { none = refl }) (record { none = refl }), (decimal_word id (omega arith), (literal (record { none = refl }) (record { none = refl }), (heard_word how, tt))))
are_words (Finish answer) z = (literal (record { none = refl }) (record { none = refl }), (literal (record { none = refl }) (record { none = refl }), (answer_word answer z, tt)))

words_of : (entry : Entry) → IsTyped entry → AllByRecursion IsWord (entry_words entry)
words_of entry h =
    let c = h.cpu in
    let i = h.cell in
    (decimal_word entry.cpu (omega arith), (decimal_word entry.cell (omega arith), are_words entry.act h.act))

-- ---- the words of a text

split_none : (byte : ℕ) (word : List ℕ) → Lacks byte word → split_once byte word ≡ None
unfolding split_once
split_none byte word h = rw (h.none, le-ltb (length word) (length word) (omega arith)) refl

-- two texts of words are the same where their words are
same_words : (v w : List ℕ) (vs ws : List (List ℕ)) → AllByRecursion IsWord (v ∷ vs) → AllByRecursion IsWord (w ∷ ws)
    → join_with_byte 32 (v ∷ vs) ≡ join_with_byte 32 (w ∷ ws) → (v ∷ vs) ≡ (w ∷ ws)
same_words v w [] [] l m e = ap (λ x. x ∷ []) e
same_words v w [] (y ∷ ws) l m e =
    absurd (none-some (w, join_with_byte 32 (y ∷ ws)) (sym (split_none 32 v l.0.space) ∙ ap (split_once 32) e ∙ split_once_front 32 w (join_with_byte 32 (y ∷ ws)) m.0.space))
same_words v w (x ∷ vs) [] l m e =
    absurd (none-some (v, join_with_byte 32 (x ∷ vs)) (sym (split_none 32 w m.0.space) ∙ ap (split_once 32) (sym e) ∙ split_once_front 32 v (join_with_byte 32 (x ∷ vs)) l.0.space))
same_words v w (x ∷ vs) (y ∷ ws) l m e =
    let parts : (v, join_with_byte 32 (x ∷ vs)) ≡ (w, join_with_byte 32 (y ∷ ws)) =
    same_Some _ _ (sym (split_once_front 32 v (join_with_byte 32 (x ∷ vs)) l.0.space) ∙ ap (split_once 32) e ∙ split_once_front 32 w (join_with_byte 32 (y ∷ ws)) m.0.space) in
    let rest = same_words x y vs ws l.1 m.1 (ap (λ (p : List ℕ × List ℕ). p.1) parts) in
    ap (λ (p : List ℕ × List ℕ). p.0 ∷ (x ∷ vs)) parts ∙ ap (λ zs. w ∷ zs) rest

-- ---- the act of words

-- what the function reads of the word as the last of a line
abbrev pub of_word : {A : Type 0} → (List ℕ → Option (A × List ℕ)) → List ℕ → Option A
of_word reads word = option_map (λ x. x.0) (reads (word ++ 10 ∷ []))

abbrev pub number : ℕ → List ℕ → Option ℕ
number most = of_word (number_until 10 10 most)

abbrev address : List ℕ → Option ℕ
address = of_word (hexadecimal_until 10 max_u64)

access : List (List ℕ) → Option (ℕ × ℕ × Option ℕ)
access (width ∷ at ∷ sign ∷ got ∷ []) = number 255 width >>= λ w. address at >>= λ a. of_word (front_got max_u64) got >>= λ g. Some (w, a, g)
access _ = None

attempt : List (List ℕ) → Option (ℕ × ℕ × ℕ × Bool)
attempt (width ∷ at ∷ value ∷ sign ∷ ok ∷ []) =
    number 255 width >>= λ w. address at >>= λ a. address value >>= λ v. of_word front_ok ok >>= λ o. Some (w, a, v, o)
attempt _ = None

fetched : List (List ℕ) → Option (ℕ × Option ℕ)
fetched (at ∷ sign ∷ got ∷ []) = address at >>= λ a. of_word (front_got max_u64) got >>= λ g. Some (a, g)
fetched _ = None

interrupt : List (List ℕ) → Option (ℕ × ℕ)
interrupt (sign ∷ device ∷ vector ∷ []) = number (2 ^ 32 - 1) device >>= λ d. number 255 vector >>= λ v. Some (d, v)
interrupt _ = None

call : List (List ℕ) → Option Act
call (code ∷ first ∷ second ∷ sign ∷ last ∷ []) =
    number max_u64 code >>= λ c. address first >>= λ a. address second >>= λ b. of_word (front_outcome c a b) last
call _ = None

second : List (List ℕ) → List ℕ
second (sign ∷ word ∷ []) = word
second _ = []

noted : List (List ℕ) → Option (ℕ × Heard)
noted (id ∷ sign ∷ how ∷ []) = number (2 ^ 32 - 1) id >>= λ n. of_word front_heard how >>= λ h. Some (n, h)
noted _ = None

first : List (List ℕ) → List ℕ
first (word ∷ rest) = word
first [] = []

by_name : List ℕ → List (List ℕ) → Option Act
by_name name rest =
    if bytes_eq name (codes "read") then (access rest >>= λ x. Some (Read x.0 x.1 x.2))
    else (if bytes_eq name (codes "write") then (attempt rest >>= λ x. Some (Write x.0 x.1 x.2 x.3))
    else (if bytes_eq name (codes "fetch") then (fetched rest >>= λ x. Some (Fetch x.0 x.1))
    else (if bytes_eq name (codes "await") then (attempt rest >>= λ x. Some (Await x.0 x.1 x.2 x.3))
    else (if bytes_eq name (codes "irq") then (interrupt rest >>= λ x. Some (Irq x.0 x.1))
    else (if bytes_eq name (codes "hvc") then call rest
    else (if bytes_eq name (codes "stop") then Some Stop
    else (if bytes_eq name (codes "decide") then (of_word front_decision (second rest) >>= λ r. Some (Decide r))
    else (if bytes_eq name (codes "settle") then (of_word front_settled (second rest) >>= λ h. Some (Settle h))
    else (if bytes_eq name (codes "commit") then Some Commit
    else (if bytes_eq name (codes "note") then (number (2 ^ 32 - 1) (first rest) >>= λ n. Some (Note n))
    else (if bytes_eq name (codes "noted") then (noted rest >>= λ x. Some (Noted x.0 x.1))
    else (if bytes_eq name (codes "finish") then (of_word front_answer (second rest) >>= λ z. Some (Finish z))
    else None))))))))))))

told : List (List ℕ) → Option Act
told (name ∷ rest) = by_name name rest
told [] = None

-- what was read, without what is left
read_again : {A : Type 0} (read : Option (A × List ℕ)) (a : A) (rest : List ℕ) → read ≡ Some (a, rest) → option_map (λ x. x.0) read ≡ Some a
read_again read a rest e = ap (option_map (λ x. x.0)) e

byte_again : (n : ℕ) → n < 256 → number 255 (decimal n) ≡ Some n
byte_again n small = read_again _ n [] (decimal_again 10 255 n [] refl (omega arith) (omega arith))

word_again : (n : ℕ) → n < 2 ^ 32 → number (2 ^ 32 - 1) (decimal n) ≡ Some n
word_again n small = read_again _ n [] (decimal_again 10 (2 ^ 32 - 1) n [] refl (omega arith) (omega arith))

code_again : (n : ℕ) → n < 2 ^ 64 → number max_u64 (decimal n) ≡ Some n
code_again n small = read_again _ n [] (decimal_again 10 max_u64 n [] refl small (omega arith))

hex_again : (n : ℕ) → n < 2 ^ 64 → address (hexadecimal n) ≡ Some n
hex_again n small = read_again _ n [] (hexadecimal_again 10 max_u64 n [] refl small (omega arith))

got_small : (got : Option ℕ) → IfSome got (λ value. value < 2 ^ 64) → IfSome got (λ value. value ≤ max_u64)
got_small None fits = tt
got_small (Some value) fits = omega arith

value_again : (got : Option ℕ) → IfSome got (λ value. value < 2 ^ 64) → of_word (front_got max_u64) (got_text got) ≡ Some got
value_again got fits = read_again _ got [] (got_again max_u64 got [] (omega arith) (got_small got fits))

granted_again : (ok : Bool) → of_word front_ok (ok_text ok) ≡ Some ok
granted_again ok = read_again _ ok [] (ok_again ok [])

told_again : (act : Act) → IsTypedAct act → told (act_words act) ≡ Some act
unfolding told by_name access attempt fetched interrupt call second first noted
told_again (Read width at got) (w, a, g) = rw (byte_again width w, hex_again at a, value_again got g) refl
told_again (Write width at value ok) (w, a, v) = rw (byte_again width w, hex_again at a, hex_again value v, granted_again ok) refl
told_again (Fetch at got) (a, g) = rw (hex_again at a, value_again got g) refl
told_again (Await width at value ok) (w, a, v) = rw (byte_again width w, hex_again at a, hex_again value v, granted_again ok) refl
told_again (Irq device vector) (d, v) = rw (word_again device d, byte_again vector v) refl
told_again (Hvc code a b answer) (c, x, y, z) =
    rw (code_again code c, hex_again a x, hex_again b y, read_again _ (Hvc code a b answer) [] (hvc_again code a b answer [] z)) refl
told_again (Begin code a b) (c, x, y) = rw (code_again code c, hex_again a x, hex_again b y, read_again _ (Begin code a b) [] (begin_again code a b [])) refl
told_again Stop h = refl
told_again (Decide refused) r = rw (read_again _ refused [] (decision_again refused [] r)) refl
told_again (Settle how) h = rw (read_again _ how [] (settled_again how [])) refl
told_again Commit h = refl
told_again (Note id) i = rw (word_again id i) refl
told_again (Noted id how) i = rw (word_again id i, read_again _ how [] (heard_again how [])) refl
told_again (Finish answer) z = rw (read_again _ answer [] (answer_again answer [] z)) refl

entry_told : List (List ℕ) → Option Entry
entry_told (cpu ∷ cell ∷ act) =
    number 255 cpu >>= λ c. number (2 ^ 32 - 1) cell >>= λ i. told act >>= λ a. Some (record { cpu = c; cell = i; act = a })
entry_told _ = None

entry_again : (entry : Entry) → IsTyped entry → entry_told (entry_words entry) ≡ Some entry
unfolding entry_told
entry_again entry h = rw (byte_again entry.cpu h.cpu, word_again entry.cell h.cell, told_again entry.act h.act) refl

-- ---- the laws

pub typed_entries : (a b : Entry) → IsTyped a → IsTyped b → entry_text a ≡ entry_text b → a ≡ b
typed_entries a b h k e =
    let words : entry_words a ≡ entry_words b =
    same_words (decimal a.cpu) (decimal b.cpu) (decimal a.cell ∷ act_words a.act) (decimal b.cell ∷ act_words b.act) (words_of a h) (words_of b k) e in
    same_Some a b (sym (entry_again a h) ∙ ap entry_told words ∙ entry_again b k)

join_lacks : (words : List (List ℕ)) → AllByRecursion IsWord words → Lacks 10 (join_with_byte 32 words)
join_lacks [] all = record { none = refl }
join_lacks (word ∷ []) all = all.0.feed
join_lacks (word ∷ other ∷ words) all = Lacks_append 10 word _ all.0.feed (Lacks_cons 10 32 _ refl (join_lacks (other ∷ words) all.1))

pub line_split : (entry : Entry) (rest : List ℕ) → IsTyped entry → split_once 10 (line entry ++ rest) ≡ Some (entry_text entry, rest)
line_split entry rest h =
    ap (split_once 10) (append_assoc (entry_text entry) (10 ∷ []) rest) ∙ split_once_front 10 (entry_text entry) rest (join_lacks (entry_words entry) (words_of entry h))

-- the first word of an entry's text is its CPU
pub first_word : (entry : Entry) → IsTyped entry → (rest : List ℕ) × (split_once 32 (entry_text entry) ≡ Some (decimal entry.cpu, rest)) × (number 255 (decimal entry.cpu) ≡ Some entry.cpu)
first_word entry h =
    let rest : List ℕ = join_with_byte 32 (decimal entry.cell ∷ act_words entry.act) in
    (rest, split_once_front 32 (decimal entry.cpu) rest (words_of entry h).0.space, byte_again entry.cpu h.cpu)

no_line : (entry : Entry) (rest : List ℕ) → [] ≡ line entry ++ rest → ⊥
no_line entry rest e = omega (arith, ap length e, length-append (line entry) rest, length-append (entry_text entry) (10 ∷ []))

pub typed_journals : (a b : List Entry) → AllByRecursion IsTyped a → AllByRecursion IsTyped b → lines_text a ≡ lines_text b → a ≡ b
typed_journals [] [] h k e = refl
typed_journals [] (y ∷ b) h k e = absurd (no_line y (lines_text b) e)
typed_journals (x ∷ a) [] h k e = absurd (no_line x (lines_text a) (sym e))
typed_journals (x ∷ a) (y ∷ b) h k e =
    let parts : (entry_text x, lines_text a) ≡ (entry_text y, lines_text b) =
    same_Some _ _ (sym (line_split x (lines_text a) h.0) ∙ ap (split_once 10) e ∙ line_split y (lines_text b) k.0) in
    let one : x ≡ y = typed_entries x y h.0 k.0 (ap (λ (p : List ℕ × List ℕ). p.0) parts) in
    let rest : a ≡ b = typed_journals a b h.1 k.1 (ap (λ (p : List ℕ × List ℕ). p.1) parts) in
    λ i. one i ∷ rest i
