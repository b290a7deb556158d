-- What is read line by line is read of the whole text.
use Rattle.std.proofs.Common.{ℕ, ◌+◌, List, [], ◌∷◌, ◌++◌, length, Some, None, refl, sym, ap, ◌∙◌, arith, length-append}
use Rattle.std.proofs.lemmas.List.{append-nil}
use Rattle.jh_history.specs.declared.entry.Entry.{Entry}
use Rattle.jh_history.specs.declared.form.Form.{Form}
use Rattle.jh_text.specs.declared.fault.JournalFault.{JournalFault}
use Rattle.jh_text.specs.declared.fault.JournalFault.TheVariants.{Line, TooLong, NoMemory}
use Rattle.jh_text.specs.Text.{lines_text, header_lines, form_of, body_of}
use Rattle.jh_text.specs.Faults.{IsJournalText, IsFault}
use Rattle.jh_text.specs.LinesView.{LinesView}
use Rattle.jh_text.specs.Lines.{IsReadTo, PassesLine, RefusesLine}
use Rattle.jh_text.proofs.Headers.{text_journal, text_long}
use Rattle.jh_text.proofs.Lines.{all_push, text_push, too_long}

-- no line is read at first
pub begins : (text : List ℕ) → IsReadTo text [] (record { form = form_of text; count = 0; rest = body_of text })
begins text = record { form = refl; readable = tt; within = omega arith; counted = refl; whole = refl }

-- the entry of the next line stands behind those before it
pub goes_on : (text : List ℕ) (entries : List Entry) (old new : LinesView) (entry : Entry) → IsReadTo text entries old → PassesLine old (Some entry) new → IsReadTo text (entries ++ entry ∷ []) new
goes_on text entries old new entry h (readable, whole, few, counted, form) = record {
  form = form ∙ h.form;
  readable = all_push entries entry h.readable readable;
  within = omega (arith, h.counted, length-append entries (entry ∷ []));
  counted = omega (arith, h.counted, length-append entries (entry ∷ []));
  whole = h.whole ∙ ap (λ t. lines_text entries ++ t) whole ∙ sym (text_push entries entry new.rest);
}

-- where nothing is left, the text is a journal's
pub ends : (text : List ℕ) (entries : List Entry) (old new : LinesView) → IsReadTo text entries old → PassesLine old None new → IsJournalText text (form_of text) entries
ends text entries old new h (nothing, same) =
    text_journal text entries
    (record {
      readable = h.readable;
      within = h.within;
      whole = h.whole ∙ ap (λ t. lines_text entries ++ t) nothing ∙ append-nil (lines_text entries);
    })

-- the fault of the next line is the first of the text
pub refused : (text : List ℕ) (entries : List Entry) (old new : LinesView) (fault : JournalFault) → IsReadTo text entries old → RefusesLine old fault new → IsFault text fault
refused text entries old new (Line number) h (more, bad, counted, same) = record {
  before = entries;
  rest = old.rest;
  readable = h.readable;
  within = h.within;
  number_is = counted ∙ ap (λ n. n + 1 + header_lines old.form) h.counted ∙ ap (λ (form : Form). length entries + 1 + header_lines form) h.form;
  whole = h.whole;
  more = more;
  bad = bad;
}
refused text entries old new TooLong h (next, full, same) =
    text_long text (too_long (body_of text) old.rest next.rest entries next.entry h.readable next.readable (sym h.counted ∙ full) h.whole next.whole)
refused text entries old new NoMemory h never = absurd never
