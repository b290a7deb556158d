-- The cells are sound.
use Rattle.jh_check.proofs.Public.{nothing_from_clean}
use Rattle.jh_laws.specs.Moments.{live_configs}
use Rattle.jh_laws.proofs.FewCellsLemmas.{few_cells}
use Rattle.jh_history.proofs.Public.{legal_sound}
use Rattle.jh_laws.proofs.cells.the_check_holds_of_live_cells.Goals as goal

pub returns-clause-findings : goal.returns-clause-findings
returns-clause-findings c = λ j. nothing_from_clean j.image.system (live_configs j) (legal_sound j.image j.form j.entries j.admitted j.legal).cells.clean

pub returns-clause-pages : goal.returns-clause-pages
returns-clause-pages c = λ j. (legal_sound j.image j.form j.entries j.admitted j.legal).cells.room

pub returns-clause-differ : goal.returns-clause-differ
returns-clause-differ c = λ j. (legal_sound j.image j.form j.entries j.admitted j.legal).cells.differ

pub returns-clause-few : goal.returns-clause-few
returns-clause-few c = λ j bytes. few_cells j.image j.form j.entries j.admitted bytes j.legal
