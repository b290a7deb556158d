-- Whether one of the others is of the same CPU of the same cell.
use Rattle.std.proofs.Common.{ap, not, rules, tests}
use Rattle.std.proofs.lemmas.Iterator.{YieldsList-from_slice}
use Rattle.std.proofs.lemmas.Iterator.Search.{any_from_yields_List}
use Rattle.jh_image.specs.declared.board.ProgramFile.{ProgramFile}
use Rattle.jh_image.specs.Boards.{is_same_cpu, named_cpu_of}
use Rattle.jh_image.proofs.list.is_another.Goals as goal

pub returns : goal.returns
returns c =
    ap not (any_from_yields_List (λ (other : ProgramFile). is_same_cpu (named_cpu_of c.args.file.now) (named_cpu_of other)) _ _ _ c.any.ensures.ran (YieldsList-from_slice c.args.others.now cc) (λ x b q k. search (rules, tests)))
