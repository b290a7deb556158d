-- The lines behind the first illegal entry.
use Rattle.std.proofs.Common.{◌≡◌, ℕ, List, [], ◌∷◌, ◌++◌, Option, Some, None, refl, subst, append_assoc}
use Rattle.jh_history.specs.declared.entry.Entry.{Entry}
use Rattle.jh_text.specs.declared.fault.JournalFault.{JournalFault}
use Rattle.jh_text.specs.Faults.{IsFault, IsJournalText}
use Rattle.jh_text.specs.Text.{form_of}
use Rattle.jh_text.specs.LinesView.{LinesView}
use Rattle.jh_text.specs.Lines.{IsReadTo, PassesLine, RefusesLine}
use Rattle.jh_audit.specs.Private.Rest.{ReadsOn, EndsAtFault}

-- what is known of the lines of a text

abbrev pub GoesOn : Type 0
GoesOn = (text : List ℕ) (entries : List Entry) (old new : LinesView) (entry : Entry) → IsReadTo text entries old → PassesLine old (Some entry) new → IsReadTo text (entries ++ entry ∷ []) new

abbrev pub Refused : Type 0
Refused = (text : List ℕ) (entries : List Entry) (old new : LinesView) (fault : JournalFault) → IsReadTo text entries old → RefusesLine old fault new → IsFault text fault

abbrev pub Ends : Type 0
Ends = (text : List ℕ) (entries : List Entry) (old new : LinesView) → IsReadTo text entries old → PassesLine old None new → IsJournalText text (form_of text) entries

-- nothing is left, so the text is that of a journal
pub ends_text : Ends → (text : List ℕ) (entries : List Entry) (old new : LinesView) (next : Option Entry) → IsReadTo text entries old → PassesLine old next new → ((entry : Entry) → next ≡ Some entry → ⊥) → IsJournalText text (form_of text) entries
ends_text ends text entries old new None read passes none = ends text entries old new read passes
ends_text ends text entries old new (Some entry) read passes none = absurd (none entry refl)

-- one line more is read
pub reads_on : GoesOn → (first old new : LinesView) (entry : Entry) → ReadsOn first old → PassesLine old (Some entry) new → ReadsOn first new
reads_on goes_on first old new entry so_far passes = record {
  between = so_far.between ++ entry ∷ [];
  reads = λ text before h.
      subst (λ (es : List Entry). IsReadTo text es new) (append_assoc before so_far.between (entry ∷ []))
      (goes_on text (before ++ so_far.between) old new entry (so_far.reads text before h) passes);
}

-- a line is refused for the fault of the text
pub ends_at : Refused → (first old new : LinesView) (fault : JournalFault) → ReadsOn first old → RefusesLine old fault new → EndsAtFault first fault
ends_at refused first old new fault so_far refuses = λ text before h. refused text (before ++ so_far.between) old new fault (so_far.reads text before h) refuses
