-- By the byte at the front: a digit is read on, the end answers, and all else tells no number.
use Rattle.std.proofs.Common.{rules, ◌≡◌, ◌-◌, ◌≤◌, ◌<◌, None, Some, length, drop, get_or, length-drop, take_all, sym, ◌∙◌, arith}
use Rattle.jh_text.specs.Private.Reading.{with_written_digit, digits_until}
use Rattle.jh_text.proofs.Numbers.{until_end, until_digit, until_other, until_nothing}
use Rattle.jh_text.proofs.reader.digits_until.Goals as goal
use Rattle.jh_text.proofs.reader.digits_until.Goals.{in_default, in-len1-up+in_default-with_written_digit, in_default-rest-via-then-rest-lt1-2, in_default-rest-via-in-len1-up-rest+else-last-end}

pub loop-rest-preserved : goal.loop-rest-preserved
loop-rest-preserved c =
    let rest = c.loop-rest.rest.now in
    let some : 1 ≤ length rest = search rules in
    let more : with_written_digit c.args.radix c.loop-rest.n (get_or rest 0 0) ≡ Some c.in-Some.more = search rules in
    let all : length (drop 1 rest) ≤ length rest - 1 = omega (arith, length-drop 1 rest) in
    rw (take_all (length rest - 1) (drop 1 rest) all)
    (sym (until_digit c.args.radix c.args.end c.loop-rest.n c.in-Some.more rest c.requires.high c.requires.end some more) ∙ c.loop-rest.invariant)

pub returns-in-len1-up-rest : goal.returns-in-len1-up-rest
returns-in-len1-up-rest c =
    let rest = c.loop-rest.rest.now in
    let some : 1 ≤ length rest = search rules in
    let last : get_or rest 0 0 ≡ c.args.end = search rules in
    let all : length (drop 1 rest) ≤ length rest - 1 = omega (arith, length-drop 1 rest) in
    rw (take_all (length rest - 1) (drop 1 rest) all) (sym c.loop-rest.invariant ∙ until_end c.args.radix c.args.end c.loop-rest.n rest some last)

pub returns-in_default-rest : goal.returns-in_default-rest
returns-in_default-rest c =
    let rest = c.loop-rest.rest.now in
    sym c.loop-rest.invariant ∙ elim c.in_default-rest.branch as (λ _. digits_until c.args.radix c.args.end c.loop-rest.n rest ≡ None) [
      | in_default-rest-via-then-rest-lt1-2 w ↦
          let none : length rest < 1 = search rules in
          until_nothing c.args.radix c.args.end c.loop-rest.n rest none
      | in_default-rest-via-in-len1-up-rest+else-last-end w ↦
          let some : 1 ≤ length rest = w.in-len1-up-rest.len_at_least in
          elim c.if-rest-lt1.branch as (λ _. digits_until c.args.radix c.args.end c.loop-rest.n rest ≡ None) [
            | in_default v ↦ absurd (let none : length rest < 1 = search rules in let no : ⊥ = omega arith in no)
            | in-len1-up+in_default-with_written_digit v ↦
                let none : with_written_digit c.args.radix c.loop-rest.n (get_or rest 0 0) ≡ None = search rules in
                until_other c.args.radix c.args.end c.loop-rest.n rest some w.if-last-end.false none
          ]
    ]
