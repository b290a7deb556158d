-- Each of the eight bytes lies outside of what is stored, and so stays.
use Rattle.jh_frames.proofs.WordLemmas.{word_before, word_behind}
use Rattle.jh_frames.proofs.laws.writing_elsewhere_changes_no_word.Goals as goal

pub returns-clause-below : goal.returns-clause-below
returns-clause-below c = λ write word below. word_before write.before write.after write.at word write.bytes write.are below

pub returns-clause-above : goal.returns-clause-above
returns-clause-above c = λ write word above. word_behind write.before write.after write.at word write.bytes write.are above
