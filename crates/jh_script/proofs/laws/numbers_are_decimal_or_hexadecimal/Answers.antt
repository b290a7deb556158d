-- A word that is read has the form of a number, and each form is read as the number it writes.
use Rattle.jh_script.proofs.GrammarLemmas.{number_to, number_from}
use Rattle.jh_script.proofs.laws.numbers_are_decimal_or_hexadecimal.Goals as goal

pub returns : goal.returns
returns c = λ word n. (number_to word n, number_from word n)
