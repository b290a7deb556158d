-- What a played board tells.
use Rattle.std.specs.Prelude.{◌↔◌}
use Rattle.std.proofs.Common.{◌≡◌, ℕ, List, refl, sym, ◌∙◌, ap, subst}
use Rattle.jh_script.specs.declared.image.Image.{Image}
use Rattle.jh_history.specs.declared.form.Form.TheVariants.{Two}
use Rattle.jh_history.specs.declared.entry.Entry.{Entry}
use Rattle.jh_history.specs.Due.{IsLegal, IsQuiet}
use Rattle.jh_history.specs.Items.{Reached, played}
use Rattle.jh_text.specs.Faults.{max_entries}
use Rattle.jh_text.specs.Text.{journal_text}
use Rattle.jh_board.specs.BoardView.{BoardView}
use Rattle.jh_run.specs.Plays.{IsPlayedBoard, IsFullAtCpu}
use Rattle.jh_run.specs.Ends.{is_full}
use Rattle.jh_run.specs.declared.ended.Ended.{Ended}
use Rattle.jh_run.specs.declared.ended.Ended.TheVariants.{Unstopped, Full}
use Rattle.jh_cli.specs.declared.status.Status.{Status}
use Rattle.jh_cli.specs.declared.status.Status.TheVariants.{Good, Full as FullStatus}
use Rattle.jh_cli.specs.Reading.{Reply}
use Rattle.jh_cli.specs.Play.{IsPlayed, played_status}

good_is_quiet : (ended : Ended) → played_status (is_full ended) ≡ Good → ended ≡ Unstopped
good_is_quiet Unstopped h = refl
good_is_quiet Full h = absurd (cc)

-- the status is the full one exactly where the limit stopped the play
full_is_full : (ended : Ended) → played_status (is_full ended) ≡ FullStatus → ended ≡ Full
full_is_full Unstopped h = absurd (cc)
full_is_full Full h = refl

-- what is told of where the items ended
abbrev told_of : Reached → Reply
told_of reached = record { status = played_status reached.full; text = journal_text Two reached.entries }

-- the board at the played journal, and how it ended, tell the play
pub IsPlayed_from : (image : Image) (cpus : List ℕ) (board : BoardView) (ended : Ended) (status : Status) (text : List ℕ)
    → IsPlayedBoard image max_entries cpus board ended → IsLegal image Two board.entries → ((ended ≡ Unstopped) ↔ IsQuiet image Two board.entries) → ((ended ≡ Full) ↔ IsFullAtCpu image max_entries board.entries)
    → status ≡ played_status (is_full ended) → text ≡ journal_text Two board.entries
    → IsPlayed image cpus (record { status = status; text = text })
IsPlayed_from image cpus board ended status text plays legal quiet full is_status is_text =
    let entries : board.entries ≡ (played image Two max_entries cpus).entries = ap (λ (r : Reached). r.entries) (sym plays.0) in
    let Legal : List Entry → Type 0 = λ es. IsLegal image Two es in
    let AtLimit : List Entry → Type 0 = λ es. IsFullAtCpu image max_entries es in
    let Quieted : List Entry → Type 0 = λ es. IsQuiet image Two es in
    let of_status : Status → Reply = λ (s : Status). record { status = s; text = text } in
    let of_text : List ℕ → Reply = λ (t : List ℕ). record { status = played_status (is_full ended); text = t } in
    record {
      told = ap of_status is_status ∙ ap of_text is_text ∙ ap told_of (sym plays.0);
      legal = subst Legal entries legal;
      quiet = λ good. subst Quieted entries (quiet.0 (good_is_quiet ended (sym is_status ∙ good)));
      full = (λ is. subst AtLimit entries (full.0 (full_is_full ended (sym is_status ∙ is))), λ at. is_status ∙ ap (λ (e : Ended). played_status (is_full e)) (full.1 (subst AtLimit (sym entries) at)));
    }
