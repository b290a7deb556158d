-- A width that is read is one digit, its own spelling, with a space behind it.
use Rattle.std.proofs.Common.{rules, ◌≡◌, ◌-◌, ◌≤◌, length, drop, get_or, length-drop, take_all, Some, arith}
use Rattle.jh_text.specs.Private.Reading.{width_digit}
use Rattle.jh_text.proofs.Spellings.{width_spelled}
use Rattle.jh_text.proofs.reader.Reader.width.Goals as goal

pub returns-in_ok-width-in-32-clause-spelled : goal.returns-in_ok-width-in-32-clause-spelled
returns-in_ok-width-in-32-clause-spelled c =
    let text = c.self.inside.rest.now in
    let long : 2 ≤ length text = search rules in
    let space : get_or text 1 0 ≡ 32 = search rules in
    let width : width_digit (get_or text 0 0) ≡ Some c.in_ok-width-in-32.width = search rules in
    let all : length (drop 2 text) ≤ length text - 2 = omega (arith, length-drop 2 text) in
    let whole : c.args.self.now ≡ text = search rules in
    rw (whole, take_all (length text - 2) (drop 2 text) all) (width_spelled c.in_ok-width-in-32.width text long space width)
