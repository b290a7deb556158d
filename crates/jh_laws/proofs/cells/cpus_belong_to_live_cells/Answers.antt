-- Each live cell has exactly the CPUs of its set, and each other CPU is root's.
use Rattle.std.proofs.Common.{sym, ◌∙◌, ⊎_elim}
use Rattle.std.proofs.lemmas.Bool.{both_ways, false_from_ne_true}
use Rattle.jh_cellcfg.specs.Cells.{is_cpu_set}
use Rattle.jh_laws.specs.Moments.{live_configs}
use Rattle.jh_history.proofs.Public.{other_root, legal_sound}
use Rattle.jh_laws.proofs.cells.cpus_belong_to_live_cells.Goals as goal

pub returns-clause-cells : goal.returns-clause-cells
returns-clause-cells c = λ j cell cpu held. let has = (legal_sound j.image j.form j.entries j.admitted j.legal).cpus.cells cell held in (has.named cpu, has.owned cpu)

pub returns-clause-root : goal.returns-clause-root
returns-clause-root c = λ j cpu.
    let sound = legal_sound j.image j.form j.entries j.admitted j.legal in (
      λ is cell held. false_from_ne_true (is_cpu_set cell.cpu_set cpu) (λ set. other_root j.image.system (live_configs j) cell sound.cells held (sym ((sound.cpus.cells cell held).owned cpu set) ∙ is)),
      λ none.
          ⊎_elim
          (λ root. root)
          (λ cell. absurd (both_ways (is_cpu_set cell.0.cpu_set cpu) (none cell.0 cell.1) ((sound.cpus.cells cell.0 cell.1).named cpu cell.2)))
          (sound.cpus.others cpu),
    )

pub returns-clause-board : goal.returns-clause-board
returns-clause-board c = λ j cell cpu held set. ((legal_sound j.image j.form j.entries j.admitted j.legal).cpus.cells cell held).board cpu set
