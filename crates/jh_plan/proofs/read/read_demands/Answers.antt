-- A blank line is passed, a demand joins the others, and a bad line decides for the text.
use Rattle.std.proofs.Common.{◌≡◌, ◌<◌, [], ◌∷◌, ◌++◌, length, rules, arith, length-append, sym, ap, subst}
use Rattle.std.specs.List.{All}
use Rattle.std.proofs.lemmas.List.Elements.{All-push}
use Rattle.jh_script.specs.Programs.{line_number}
use Rattle.jh_plan.specs.declared.line.Line.TheVariants.{Blank, Wanted, Syntax}
use Rattle.jh_plan.specs.Demands.{IsDemand, lines_of}
use Rattle.jh_plan.specs.Limits.{most_demands}
use Rattle.jh_plan.proofs.ReadLemmas.{demands_too_many, demands_syntax, demands_done, blank_fault, blank_demands, wanted_fault, wanted_demands}
use Rattle.jh_plan.proofs.read.read_demands.Goals as goal

pub returns-then-len-eq-MAX_DEMANDS-clause-exact : goal.returns-then-len-eq-MAX_DEMANDS-clause-exact
returns-then-len-eq-MAX_DEMANDS-clause-exact c = λ room.
    let lines : lines_of c.loop-demands.rest.now ≡ Wanted c.in-Wanted.demand ∷ lines_of c.in-Some.after.now = search rules in
    let full : length c.loop-demands.demands ≡ most_demands = search rules in
    sym (demands_too_many c.args.text.now c.loop-demands.number c.loop-demands.demands (lines_of c.loop-demands.rest.now) (lines_of c.in-Some.after.now) c.in-Wanted.demand c.loop-demands.invariant.faults lines full)

pub returns-in-Syntax-clause-exact : goal.returns-in-Syntax-clause-exact
returns-in-Syntax-clause-exact c = λ room.
    let lines : lines_of c.loop-demands.rest.now ≡ Syntax ∷ lines_of c.in-Some.after.now = search rules in
    let number : c.saturating_add-number.result ≡ line_number c.loop-demands.number = search rules in
    sym (demands_syntax c.args.text.now c.loop-demands.number c.saturating_add-number.result _ (lines_of c.loop-demands.rest.now) (lines_of c.in-Some.after.now) c.loop-demands.invariant.faults lines number)

pub loop-demands-preserved-in-Blank : goal.loop-demands-preserved-in-Blank
loop-demands-preserved-in-Blank c =
    let lines : lines_of c.loop-demands.rest.now ≡ Blank ∷ lines_of c.in-Some.after.now = search rules in
    let number : c.saturating_add-number.result ≡ line_number c.loop-demands.number = search rules in
    let before = c.loop-demands.invariant in
    record {
      faults = blank_fault c.args.text.now c.loop-demands.number c.saturating_add-number.result _ (lines_of c.loop-demands.rest.now) (lines_of c.in-Some.after.now) before.faults lines number;
      found = blank_demands c.args.text.now c.loop-demands.demands (lines_of c.loop-demands.rest.now) (lines_of c.in-Some.after.now) before.found lines;
      few = before.few;
      each = before.each;
    }

pub loop-demands-preserved : goal.loop-demands-preserved
loop-demands-preserved c =
    let demand = c.in-Wanted.demand in
    let lines : lines_of c.loop-demands.rest.now ≡ Wanted demand ∷ lines_of c.in-Some.after.now = search rules in
    let number : c.saturating_add-number.result ≡ line_number c.loop-demands.number = search rules in
    let push : c.push.new.self ≡ c.loop-demands.demands ++ demand ∷ [] = search rules in
    let sound : IsDemand demand = search rules in
    let before = c.loop-demands.invariant in
    let few : length c.loop-demands.demands < most_demands = omega arith in
    record {
      faults = wanted_fault c.args.text.now c.loop-demands.number c.saturating_add-number.result c.loop-demands.demands c.push.new.self (lines_of c.loop-demands.rest.now) (lines_of c.in-Some.after.now) demand before.faults lines number few push;
      found = wanted_demands c.args.text.now c.loop-demands.demands c.push.new.self (lines_of c.loop-demands.rest.now) (lines_of c.in-Some.after.now) demand before.found lines push;
      few = omega (arith, ap length push, length-append c.loop-demands.demands (demand ∷ []));
      each = subst (All IsDemand) (sym push) (All-push IsDemand c.loop-demands.demands demand before.each sound);
    }

pub returns-clause-exact : goal.returns-clause-exact
returns-clause-exact c = λ room.
    let lines : lines_of c.loop-demands.rest.now ≡ [] = search rules in
    sym (demands_done c.args.text.now c.loop-demands.number _ c.loop-demands.demands (lines_of c.loop-demands.rest.now) c.loop-demands.invariant.faults c.loop-demands.invariant.found lines)
