-- What `soak` ends with.
use Rattle.std.specs.Prelude.{◌≡◌, ◌≤◌, ◌⊎◌, ℕ, List, [], ◌∷◌, ◌++◌, Option, Some, None, codes, decimal}
use Rattle.jh_history.specs.declared.entry.Entry.{Entry}
use Rattle.jh_run.specs.declared.summary.Summary.{Summary}
use Rattle.jh_run.specs.Summaries.{summary_of}
use Rattle.jh_run.specs.Soak.{soak_image}
use Rattle.jh_cli.specs.Lines.{rounds_line}
use Rattle.jh_cli.specs.Reading.{Reply}
use Rattle.jh_cli.specs.Run.{IsMadeByRun}
use Rattle.jh_cli.specs.declared.status.Status.TheVariants.{Refused}

-- the word is the number of rounds in decimal, of which there may be 1 to 400
pub record AreRounds (word : List ℕ) (rounds : ℕ) : Type 0 where
  pub least : 1 ≤ rounds
  pub most : rounds ≤ 400
  pub written : word ≡ decimal rounds

-- the number that was found in the word, or none where it tells none
abbrev pub ParsesRounds : List ℕ → Option ℕ → Type 0
ParsesRounds word (Some rounds) = AreRounds word rounds
ParsesRounds word None = (rounds : ℕ) → AreRounds word rounds → ⊥

-- the line that tells what a journal comes to
abbrev pub summary_line : Summary → List ℕ
summary_line summary =
    codes "entries " ++ (decimal summary.entries ++ (codes " reads " ++ (decimal summary.reads ++ (codes " writes " ++ (decimal summary.writes
    ++ (codes " stops " ++ (decimal summary.stops ++ (codes " sum " ++ (decimal summary.sum ++ 10 ∷ [])))))))))

-- the summary of a journal that a run of the board of so many rounds may make
pub record IsSoaked (rounds : ℕ) (reply : Reply) : Type 0 where
  pub entries : List Entry
  pub run : IsMadeByRun (soak_image rounds) entries reply.status
  pub told : reply.text ≡ summary_line (summary_of entries)

-- the word that tells no number of rounds is refused
abbrev pub AreNoRounds : List ℕ → Reply → Type 0
AreNoRounds word reply = ParsesRounds word None × (reply ≡ record { status = Refused; text = rounds_line })

-- what a soak of so many rounds as the word tells ends with; no file is read for it
abbrev pub Soaks : List ℕ → Reply → Type 0
Soaks word reply = AreNoRounds word reply ⊎ ((rounds : ℕ) × AreRounds word rounds × IsSoaked rounds reply)
