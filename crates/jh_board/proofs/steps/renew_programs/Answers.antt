-- Where no cell comes or goes, programs stay where they are.
use Rattle.std.proofs.Common.{◌∙◌, List, sym, subst}
use Rattle.jh_cellcfg.specs.declared.live.Live.{Live}
use Rattle.jh_history.proofs.Public.{uncommitted_cells}
use Rattle.jh_board.specs.Indexed.{AreProgramIndices}
use Rattle.jh_board.proofs.steps.renew_programs.Goals as goal

pub returns-then-not-is_commit : goal.returns-then-not-is_commit
returns-then-not-is_commit c = λ call lives found same.
    let P : List Live → Type 0 = λ cells. AreProgramIndices c.args.image.now cells c.args.programs.now in
    subst P (sym (same ∙ uncommitted_cells call lives c.args.act.now (sym c.is_commit.ensures ∙ c.if-not-is_commit.true))) found

pub returns : goal.returns
returns c = λ call lives found same. c.find_programs.ensures
