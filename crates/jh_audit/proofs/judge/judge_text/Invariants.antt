-- The board has made the entries that are read so far.
use Rattle.std.proofs.Common.{◌≡◌, ◌-◌}
use Rattle.jh_text.specs.Faults.{max_entries}
use Rattle.jh_text.specs.Text.{form_of}
use Rattle.jh_text.specs.Lines.{IsReadTo}
use Rattle.jh_audit.proofs.judge.judge_text.Given as goal

abbrev pub invariant-loop-entry : goal.invariant-loop-entry
invariant-loop-entry l = record {
  image : l.board.image ≡ l.fn.board.image;
  form : l.board.form ≡ form_of l.text;
  limit : l.board.limit ≡ max_entries;
  read : IsReadTo l.text l.board.entries l.lines;
}

abbrev pub decreases-loop-entry : goal.decreases-loop-entry
decreases-loop-entry l = max_entries - l.lines.count
