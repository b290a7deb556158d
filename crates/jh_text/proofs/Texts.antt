-- A text has one answer.
use Rattle.std.proofs.Common.{◌≡◌, ℕ, ◌≤◌, List, [], ◌∷◌, ◌++◌, length, refl, sym, ap, ◌∙◌, arith, append_assoc, length-append, ◌⊎◌, inl, inr, ⊎_elim}
use Rattle.std.specs.List.{AllByRecursion}
use Rattle.std.proofs.lemmas.List.{append-nil}
use Rattle.std.proofs.lemmas.Bool.{cases_lt}
use Rattle.jh_history.specs.declared.entry.Entry.{Entry}
use Rattle.jh_text.specs.Ranges.{IsReadable}
use Rattle.jh_text.specs.Text.{entry_text, line, lines_text}
use Rattle.jh_text.specs.Faults.{BeginsWithNoLine}
use Rattle.jh_text.proofs.Bodies.{IsBody, IsBadBody, IsLongBody}
use Rattle.jh_text.proofs.Lines.{one_line}

either_way : (m n : ℕ) → (m ≤ n) ⊎ (n ≤ m)
either_way m n = ⊎_elim (λ l. inl (omega arith)) inr (cases_lt m n)

-- more entries than those of the front, and what stands behind them all
record Goes (front whole : List Entry) (rest end : List ℕ) : Type 0 where
  more : List Entry
  readable : AllByRecursion IsReadable more
  entries : whole ≡ front ++ more
  text : rest ≡ lines_text more ++ end

-- of two runs of lines at the front of one text, the shorter is a part of the longer
goes_on : (front whole : List Entry) (rest end : List ℕ) → AllByRecursion IsReadable front → AllByRecursion IsReadable whole → length front ≤ length whole → lines_text front ++ rest ≡ lines_text whole ++ end → Goes front whole rest end
goes_on [] whole rest end f w le e = record { more = whole; readable = w; entries = refl; text = e }
goes_on (x ∷ front) [] rest end f w le e = absurd (omega arith)
goes_on (x ∷ front) (y ∷ whole) rest end f w le e =
    let first = one_line x y (lines_text front ++ rest) (lines_text whole ++ end) f.0 w.0 (sym (append_assoc (line x) (lines_text front) rest) ∙ e ∙ append_assoc (line y) (lines_text whole) end) in
    let on = goes_on front whole rest end f.1 w.1 (omega arith) first.1 in
    record { more = on.more; readable = on.readable; entries = λ i. sym first.0 i ∷ on.entries i; text = on.text }

-- lines are not nothing
nothing : (entries : List Entry) (end : List ℕ) → [] ≡ lines_text entries ++ end → (entries ≡ []) × (end ≡ [])
nothing [] end e = (refl, sym e)
nothing (first ∷ entries) end e =
    absurd (omega (arith, ap length e, length-append (line first ++ lines_text entries) end, length-append (line first) (lines_text entries), length-append (entry_text first) (10 ∷ [])))

whole_text : (entries : List Entry) (text : List ℕ) → text ≡ lines_text entries → lines_text entries ++ [] ≡ text
whole_text entries text e = append-nil (lines_text entries) ∙ sym e

shorter_is : (text : List ℕ) (es fs : List Entry) → IsBody text es → IsBody text fs → length es ≤ length fs → fs ≡ es
shorter_is text es fs j k le =
    let on = goes_on es fs [] [] j.readable k.readable le (whole_text es text j.whole ∙ sym (whole_text fs text k.whole)) in
    on.entries ∙ ap (λ gs. es ++ gs) (nothing on.more [] on.text).0 ∙ append-nil es

-- a text has the entries of one journal
pub one_journal : (text : List ℕ) (es fs : List Entry) → IsBody text es → IsBody text fs → es ≡ fs
one_journal text es fs j k = ⊎_elim (λ l. sym (shorter_is text es fs j k l)) (λ l. shorter_is text fs es k j l) (either_way (length es) (length fs))

-- what begins with no line ends each run of lines
stops : (text rest end : List ℕ) (before fs : List Entry) → AllByRecursion IsReadable before → AllByRecursion IsReadable fs → BeginsWithNoLine rest → text ≡ lines_text before ++ rest → text ≡ lines_text fs ++ end → length before ≤ length fs → (fs ≡ before) × (rest ≡ end)
stops text rest end before fs b f bad e d le =
    let on = goes_on before fs rest end b f le (sym e ∙ d) in
    by on.more on.readable on.entries on.text
  where
    by : (more : List Entry) → AllByRecursion IsReadable more → fs ≡ before ++ more → rest ≡ lines_text more ++ end → (fs ≡ before) × (rest ≡ end)
    by [] m es t = (es ∙ append-nil before, t)
    by (x ∷ more) m es t = absurd (bad x (lines_text more ++ end) m.0 (t ∙ append_assoc (line x) (lines_text more) end))

pub journal_not_bad : (text : List ℕ) (es : List Entry) (number : ℕ) → IsBody text es → IsBadBody text number → ⊥
journal_not_bad text es number j b = ⊎_elim
    (λ l. b.more (stops text b.rest [] b.before es b.readable j.readable b.bad b.whole (sym (whole_text es text j.whole)) l).1)
    (λ l. let on = goes_on es b.before [] b.rest j.readable b.readable l (whole_text es text j.whole ∙ b.whole) in
    b.more (nothing on.more b.rest on.text).1)
    (either_way (length b.before) (length es))

pub one_bad_line : (text : List ℕ) (m n : ℕ) → IsBadBody text m → IsBadBody text n → m ≡ n
one_bad_line text m n a b = ⊎_elim
    (λ l. omega (arith, a.number_is, b.number_is, ap length (stops text a.rest b.rest a.before b.before a.readable b.readable a.bad a.whole b.whole l).0))
    (λ l. omega (arith, a.number_is, b.number_is, ap length (stops text b.rest a.rest b.before a.before b.readable a.readable b.bad b.whole a.whole l).0))
    (either_way (length a.before) (length b.before))

pub bad_not_long : (text : List ℕ) (number : ℕ) → IsBadBody text number → IsLongBody text → ⊥
bad_not_long text number b t =
    omega (arith, b.within, t.long, ap length (stops text b.rest t.rest b.before t.first b.readable t.readable b.bad b.whole t.whole (omega (arith, b.within, t.long))).0)

pub journal_not_long : (text : List ℕ) (es : List Entry) → IsBody text es → IsLongBody text → ⊥
journal_not_long text es j t =
    let on = goes_on es t.first [] t.rest j.readable t.readable (omega (arith, j.within, t.long)) (whole_text es text j.whole ∙ t.whole) in
    omega (arith, j.within, t.long, ap length (on.entries ∙ ap (λ gs. es ++ gs) (nothing on.more t.rest on.text).0 ∙ append-nil es))
