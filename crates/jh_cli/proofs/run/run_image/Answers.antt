-- The journal that the workers made is told.
use Rattle.std.proofs.Common.{◌≤◌, ◌∙◌, ap, subst, ℕ, length}
use Rattle.jh_board.specs.BoardView.{BoardView}
use Rattle.jh_text.specs.Text.{journal_text}
use Rattle.jh_cli.proofs.RunLemmas.{made_by_run}
use Rattle.jh_cli.proofs.run.run_image.Goals as goal

pub returns : goal.returns
returns g c =
    record {
      entries = c.in_ok-board.board.entries;
      run = made_by_run c.args.image c.in_ok-board.board.entries c.in_ok-board.ended c.status_of.result c.in_ok-board.ensures.legal (subst (λ (m : ℕ). length c.in_ok-board.board.entries ≤ m) (ap (λ (b : BoardView). b.limit) c.in_ok-board.ensures.board) c.journal.ensures.within) c.in_ok-board.ensures.quiet c.in_ok-board.ensures.full c.status_of.ensures;
      told = c.in_ok-text.ensures ∙ (λ i. journal_text ((c.journal.ensures.form ∙ ap (λ (b : BoardView). b.form) c.in_ok-board.ensures.board) i) (c.journal.ensures.entries i));
    }
