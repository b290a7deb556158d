-- The first line feed ends the line, and where there is none the text is the last line.
use Rattle.std.proofs.Common.{◌≡◌, ◌+◌, ◌<◌, length, eqb, Some, None, position, rules, take, drop, ap, ◌∙◌, sym, ◌∷◌}
use Rattle.std.specs.Str.Lines.{lines, strip_carriage_return}
use Rattle.jh_script.proofs.WordLemmas.{line_found, line_last}
use Rattle.jh_script.proofs.words.next_line.Goals as goal

pub returns-in_default-clause-lines : goal.returns-in_default-clause-lines
returns-in_default-clause-lines c =
    let some : 0 < length c.args.text.now = search rules in
    let none : position (λ byte. eqb byte 10) c.args.text.now ≡ None = search rules in
    line_last c.args.text.now none some

pub returns-clause-lines : goal.returns-clause-lines
returns-clause-lines c =
    let text = c.args.text.now in
    let end = c.in-Some.end in
    let at : position (λ byte. eqb byte 10) text ≡ Some end = search rules in
    let line : c.without_carriage_return.result.now ≡ strip_carriage_return (take end text) = search rules in
    let rest : c.behind.result.now ≡ drop (end + 1) text = search rules in
    line_found text end at ∙ ap (λ x. x ∷ lines (drop (end + 1) text)) (sym line) ∙ ap (λ x. c.without_carriage_return.result.now ∷ lines x) (sym rest)
