-- What stands behind the equals sign and its space is the last word.
use Rattle.std.proofs.Common.{ap, ◌∙◌, ◌++◌, codes}
use Rattle.std.proofs.lemmas.Result.{on_ok_weaker}
use Rattle.jh_text.proofs.Calls.{begin_text}
use Rattle.jh_text.proofs.print.push_begin.Goals as goal

pub returns : goal.returns
returns c =
    on_ok_weaker c.push_word.result
    (λ items. items ∙ ap (λ t. t ++ codes "begin") c.in_ok-push_call.ensures ∙ begin_text c.args.text.now.items c.args.code c.args.a c.args.b)
    c.push_word.ensures
