-- A blank line is no fault and no operation, whether it is taken out or put in.
use Rattle.jh_script.proofs.LawLemmas.{without_blank, with_blank}
use Rattle.jh_script.proofs.laws.blank_lines_change_nothing.Goals as goal

pub returns : goal.returns
returns c = λ text other ops more. (without_blank text other more ops, with_blank text other more ops)
