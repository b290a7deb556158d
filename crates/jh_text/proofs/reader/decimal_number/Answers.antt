-- A digit with the end behind it is a whole number, which is within the bound or isn't.
use Rattle.std.proofs.Common.{rules, ◌≡◌, ◌-◌, ◌≤◌, ◌<◌, length, drop, get_or, length-drop, take_all, arith}
use Rattle.jh_text.proofs.Numbers.{OneDigit, one_digit_fits, one_digit_large, number_spelled}
use Rattle.jh_text.proofs.reader.decimal_number.Goals as goal

pub returns-then-n-most-clause-value : goal.returns-then-n-most-clause-value
returns-then-n-most-clause-value c =
    let text = c.args.text.now in
    let one : OneDigit c.args.end text = record { long = search rules; low = search rules; high = search rules; last = search rules } in
    let n : c.from-n.result ≡ get_or text 0 0 - 48 = search rules in
    let fits : get_or text 0 0 - 48 ≤ c.args.most = omega (arith, n, c.if-n-most.true) in
    let all : length (drop 2 text) ≤ length text - 2 = omega (arith, length-drop 2 text) in
    rw (n, take_all (length text - 2) (drop 2 text) all) (one_digit_fits c.args.end c.args.most text c.requires.end one fits)

pub returns-then-n-most-clause-spelled : goal.returns-then-n-most-clause-spelled
returns-then-n-most-clause-spelled c =
    number_spelled 10 c.args.end c.args.most c.from-n.result c.args.text.now _ (omega arith) (omega arith) c.requires.end (returns-then-n-most-clause-value c)

pub returns-else-n-most-clause-value : goal.returns-else-n-most-clause-value
returns-else-n-most-clause-value c =
    let text = c.args.text.now in
    let one : OneDigit c.args.end text = record { long = search rules; low = search rules; high = search rules; last = search rules } in
    let n : c.from-n.result ≡ get_or text 0 0 - 48 = search rules in
    let large : c.args.most < get_or text 0 0 - 48 = omega (arith, n, c.if-n-most.false) in
    one_digit_large c.args.end c.args.most text c.requires.end one large
