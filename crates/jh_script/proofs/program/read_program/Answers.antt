-- A blank line is passed, an operation joins the others, and a bad line decides for the text.
use Rattle.std.proofs.Common.{◌≡◌, ◌<◌, [], ◌∷◌, ◌++◌, length, rules, arith, length-append, sym, ap, subst}
use Rattle.std.specs.List.{All}
use Rattle.std.proofs.lemmas.List.Elements.{All-push}
use Rattle.jh_script.specs.declared.line.Line.TheVariants.{Blank, Operation, Syntax, Width}
use Rattle.jh_script.specs.Operations.{IsWellFormed}
use Rattle.jh_script.specs.Programs.{lines_of, line_number}
use Rattle.jh_script.proofs.ProgramLemmas.{program_too_long, program_syntax, program_width, program_done, blank_fault, blank_ops, op_fault, op_ops}
use Rattle.jh_script.proofs.program.read_program.Goals as goal
use Rattle.jh_script.specs.Limits.{most_ops}

pub returns-then-len-eq-MAX_OPS-clause-exact : goal.returns-then-len-eq-MAX_OPS-clause-exact
returns-then-len-eq-MAX_OPS-clause-exact c = λ room.
    let lines : lines_of c.loop-line.rest.now ≡ Operation c.in-Operation.op ∷ lines_of c.in-Some.after.now = search rules in
    let full : length c.loop-line.ops ≡ most_ops = search rules in
    sym (program_too_long c.args.text.now c.loop-line.number c.loop-line.ops (lines_of c.loop-line.rest.now) (lines_of c.in-Some.after.now) c.in-Operation.op c.loop-line.invariant.faults lines full)

pub returns-in-Syntax-clause-exact : goal.returns-in-Syntax-clause-exact
returns-in-Syntax-clause-exact c = λ room.
    let lines : lines_of c.loop-line.rest.now ≡ Syntax ∷ lines_of c.in-Some.after.now = search rules in
    let number : c.saturating_add-number.result ≡ line_number c.loop-line.number = search rules in
    sym (program_syntax c.args.text.now c.loop-line.number c.saturating_add-number.result _ (lines_of c.loop-line.rest.now) (lines_of c.in-Some.after.now) c.loop-line.invariant.faults lines number)

pub returns-in-Width-clause-exact : goal.returns-in-Width-clause-exact
returns-in-Width-clause-exact c = λ room.
    let lines : lines_of c.loop-line.rest.now ≡ Width ∷ lines_of c.in-Some.after.now = search rules in
    let number : c.saturating_add-number.result ≡ line_number c.loop-line.number = search rules in
    sym (program_width c.args.text.now c.loop-line.number c.saturating_add-number.result _ (lines_of c.loop-line.rest.now) (lines_of c.in-Some.after.now) c.loop-line.invariant.faults lines number)

pub loop-line-preserved-in-Blank : goal.loop-line-preserved-in-Blank
loop-line-preserved-in-Blank c =
    let lines : lines_of c.loop-line.rest.now ≡ Blank ∷ lines_of c.in-Some.after.now = search rules in
    let number : c.saturating_add-number.result ≡ line_number c.loop-line.number = search rules in
    let before = c.loop-line.invariant in
    record {
      faults = blank_fault c.args.text.now c.loop-line.number c.saturating_add-number.result _ (lines_of c.loop-line.rest.now) (lines_of c.in-Some.after.now) before.faults lines number;
      found = blank_ops c.args.text.now c.loop-line.ops (lines_of c.loop-line.rest.now) (lines_of c.in-Some.after.now) before.found lines;
      few = before.few;
      well_formed = before.well_formed;
    }

pub loop-line-preserved : goal.loop-line-preserved
loop-line-preserved c =
    let op = c.in-Operation.op in
    let lines : lines_of c.loop-line.rest.now ≡ Operation op ∷ lines_of c.in-Some.after.now = search rules in
    let number : c.saturating_add-number.result ≡ line_number c.loop-line.number = search rules in
    let push : c.push.new.self ≡ c.loop-line.ops ++ op ∷ [] = search rules in
    let sound : IsWellFormed op = search rules in
    let before = c.loop-line.invariant in
    let few : length c.loop-line.ops < most_ops = omega arith in
    record {
      faults = op_fault c.args.text.now c.loop-line.number c.saturating_add-number.result c.loop-line.ops c.push.new.self (lines_of c.loop-line.rest.now) (lines_of c.in-Some.after.now) op before.faults lines number few push;
      found = op_ops c.args.text.now c.loop-line.ops c.push.new.self (lines_of c.loop-line.rest.now) (lines_of c.in-Some.after.now) op before.found lines push;
      few = omega (arith, ap length push, length-append c.loop-line.ops (op ∷ []));
      well_formed = subst (All IsWellFormed) (sym push) (All-push IsWellFormed c.loop-line.ops op before.well_formed sound);
    }

pub returns-clause-exact : goal.returns-clause-exact
returns-clause-exact c = λ room.
    let lines : lines_of c.loop-line.rest.now ≡ [] = search rules in
    sym (program_done c.args.text.now c.loop-line.number _ c.loop-line.ops (lines_of c.loop-line.rest.now) c.loop-line.invariant.faults c.loop-line.invariant.found lines)
