-- The front that equals the word and what is behind it make the text.
use Rattle.std.proofs.Common.{rules, ◌≡◌, ◌++◌, true, length, take, drop, ap, ◌∙◌, sym}
use Rattle.std.specs.Str.{bytes_eq}
use Rattle.std.proofs.lemmas.Slice.Eq.{bytes_eq-Decides}
use Rattle.std.proofs.lemmas.List.{take-append-drop}
use Rattle.jh_text.proofs.reader.Reader.pass.Goals as goal

pub returns-in-Some-clause-whole : goal.returns-in-Some-clause-whole
returns-in-Some-clause-whole c = λ passed.
    let text = c.args.self.now in
    let word = c.args.word.now in
    let begins : bytes_eq (take (length word) text) word ≡ true = search rules in
    let is : take (length word) text ≡ word = (bytes_eq-Decides (take (length word) text) word).0 begins in
    let rest : c.in-Some.rest.now ≡ drop (length word) text = search rules in
    rw rest (sym (take-append-drop (length word) text) ∙ ap (λ t. t ++ drop (length word) text) is)
