-- Whether all words are operands is whether all their bytes are.
use Rattle.std.proofs.Common.{rules, sym, ◌∙◌}
use Rattle.std.specs.Prelude.{string_bytes}
use Rattle.std.proofs.lemmas.Iterator.{YieldsList-from_slice}
use Rattle.std.proofs.lemmas.Iterator.Search.{all_from_yields_List}
use Rattle.std.proofs.lemmas.List.Folds.{list_all-map}
use Rattle.jh_cli.specs.Words.{is_operand}
use Rattle.jh_cli.proofs.command.are_operands.Goals as goal

pub returns : goal.returns
returns c =
    let words = c.args.words.now in
    all_from_yields_List (λ word. is_operand (string_bytes word)) _ _ _ c.all.ensures.ran (YieldsList-from_slice words cc) (λ word told f called. search rules)
    ∙ sym (list_all-map is_operand string_bytes words)
