-- By the cells whose devices they are.
use Rattle.jh_history.proofs.DueDevicesLemmas.{opening_joins, commit_changes, comes_good, interrupt_next, reach_word}
use Rattle.jh_history.proofs.due_facts.devices_may_change.Goals as goal

pub returns : goal.returns
returns c = record {
  opening = opening_joins;
  commit = λ image f entry h. commit_changes image f entry.act h.sound;
  comes = comes_good;
  interrupt = λ image f entry h. interrupt_next image f entry h.sound h.due;
  word = reach_word;
}
