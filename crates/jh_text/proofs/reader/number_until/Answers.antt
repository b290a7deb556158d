-- What is read begins without a needless 0, so the number is written with these digits alone.
use Rattle.std.proofs.Common.{rules, ◌≡◌, Some}
use Rattle.jh_text.specs.Private.Reading.{number_until}
use Rattle.jh_text.proofs.Numbers.{number_spelled}
use Rattle.jh_text.proofs.reader.number_until.Goals as goal

pub returns-clause-spelled : goal.returns-clause-spelled
unfolding number_until
returns-clause-spelled c =
    let read : number_until c.args.radix c.args.end c.args.most c.args.text.now ≡ Some (c.in_ok-n.n, c.in_ok-n.rest.now) = search rules in
    number_spelled c.args.radix c.args.end c.args.most c.in_ok-n.n c.args.text.now c.in_ok-n.rest.now c.requires.low c.requires.high c.requires.end read
