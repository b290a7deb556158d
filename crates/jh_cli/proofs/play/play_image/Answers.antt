-- The board's journal is the played one, and its text is told.
use Rattle.std.proofs.Common.{◌∙◌, ap}
use Rattle.jh_board.specs.BoardView.{BoardView}
use Rattle.jh_text.specs.Text.{journal_text}
use Rattle.jh_cli.proofs.PlayedLemmas.{IsPlayed_from}
use Rattle.jh_cli.proofs.play.play_image.Goals as goal

pub returns : goal.returns
returns c =
    IsPlayed_from c.args.image c.args.cpus.now c.in_ok-board.board c.in_ok-board.ended c.status_of.result c.in_ok-text.text.items
    c.in_ok-board.ensures.played c.in_ok-board.ensures.legal c.in_ok-board.ensures.quiet c.in_ok-board.ensures.full c.status_of.ensures
    (c.in_ok-text.ensures ∙ (λ i. journal_text ((c.journal.ensures.form ∙ ap (λ (b : BoardView). b.form) c.in_ok-board.ensures.played.1) i) (c.journal.ensures.entries i)))
