-- What the journal that the workers made comes to is told.
use Rattle.std.proofs.Common.{◌≤◌, ◌∙◌, ap, subst, ℕ, List, length}
use Rattle.jh_script.specs.declared.image.Image.{Image}
use Rattle.jh_history.specs.declared.entry.Entry.{Entry}
use Rattle.jh_board.specs.BoardView.{BoardView}
use Rattle.jh_run.specs.declared.summary.Summary.{Summary}
use Rattle.jh_run.specs.Summaries.{summary_of}
use Rattle.jh_cli.specs.Run.{IsMadeByRun}
use Rattle.jh_cli.specs.Soak.{summary_line}
use Rattle.jh_cli.proofs.RunLemmas.{made_by_run}
use Rattle.jh_cli.proofs.soak.run_rounds.Goals as goal

pub returns : goal.returns
returns g c =
    let entries = c.in_ok-board.board.entries in
    let run = made_by_run c.in_ok-image.image entries c.in_ok-board.ended c.status_of.result c.in_ok-board.ensures.legal (subst (λ (m : ℕ). length entries ≤ m) (ap (λ (b : BoardView). b.limit) c.in_ok-board.ensures.board) c.journal.ensures.within) c.in_ok-board.ensures.quiet c.in_ok-board.ensures.full c.status_of.ensures in
    record {
      entries = entries;
      run = subst (λ (image : Image). IsMadeByRun image entries c.status_of.result) c.in_ok-image.ensures.image run;
      told = c.in_ok-summary_line.ensures ∙ ap (λ (s : Summary). summary_line s) (c.summary_of-summary.ensures ∙ ap (λ (es : List Entry). summary_of es) c.journal.ensures.entries);
    }
