-- A number below 10 is written as its one digit.
use Rattle.std.proofs.Common.{rules}
use Rattle.std.proofs.lemmas.Fmt.{decimal_digit}
use Rattle.jh_text.proofs.number_text.push_decimal.Goals as goal

pub returns-then-n-lt10 : goal.returns-then-n-lt10
returns-then-n-lt10 c = rw (decimal_digit c.args.n c.if-n-lt10.true) (search rules)
