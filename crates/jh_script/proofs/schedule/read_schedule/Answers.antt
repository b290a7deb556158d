-- A CPU of the board joins the others; one too many, or another item, decides for the text.
use Rattle.std.proofs.Common.{◌≡◌, ◌<◌, ◌+◌, [], ◌∷◌, ◌++◌, length, rules, arith, length-append, sym, ap, ◌∙◌, subst, Some, None, Err}
use Rattle.std.specs.List.{All}
use Rattle.std.proofs.lemmas.List.Elements.{All-push}
use Rattle.jh_script.specs.declared.fault.ScheduleFault.TheVariants.{Item}
use Rattle.jh_script.specs.Schedules.{items_of, IsPresent}
use Rattle.jh_script.proofs.ProgramLemmas.{schedule_too_long, schedule_item, schedule_done, cpu_fault, cpu_cpus}
use Rattle.jh_script.proofs.schedule.read_schedule.Goals as goal
use Rattle.jh_script.specs.Limits.{most_items}

pub returns-then-len-eq-MAX_ITEMS-clause-exact : goal.returns-then-len-eq-MAX_ITEMS-clause-exact
returns-then-len-eq-MAX_ITEMS-clause-exact c = λ room.
    let cpus = c.args.cpus in
    let items : items_of cpus c.loop-item.rest.now ≡ c.in-Some.item ∷ items_of cpus c.in-Some.after.now = search rules in
    let full : length c.loop-item.items ≡ most_items = search rules in
    sym (schedule_too_long cpus c.args.text.now (length c.loop-item.items) (items_of cpus c.loop-item.rest.now) (items_of cpus c.in-Some.after.now) c.in-Some.item c.loop-item.invariant.faults items full)

pub returns-in_default-item-clause-exact : goal.returns-in_default-item-clause-exact
returns-in_default-item-clause-exact c = λ room.
    let cpus = c.args.cpus in
    let items : items_of cpus c.loop-item.rest.now ≡ None ∷ items_of cpus c.in-Some.after.now = search rules in
    let before = c.loop-item.invariant in
    let few : length c.loop-item.items < most_items = omega arith in
    let number : c.len-in_default-item.result ≡ length c.loop-item.items = search rules in
    ap (λ n. Err (Item (n + 1))) number
    ∙ sym (schedule_item cpus c.args.text.now (length c.loop-item.items) (items_of cpus c.loop-item.rest.now) (items_of cpus c.in-Some.after.now) before.faults items few)

pub loop-item-preserved : goal.loop-item-preserved
loop-item-preserved c =
    let cpus = c.args.cpus in
    let cpu = c.in-Some-item.cpu in
    let items : items_of cpus c.loop-item.rest.now ≡ Some cpu ∷ items_of cpus c.in-Some.after.now = search rules in
    let push : c.push.new.self ≡ c.loop-item.items ++ cpu ∷ [] = search rules in
    let present : IsPresent cpus cpu = search rules in
    let before = c.loop-item.invariant in
    let few : length c.loop-item.items < most_items = omega arith in
    record {
      faults = cpu_fault cpus c.args.text.now c.loop-item.items c.push.new.self (items_of cpus c.loop-item.rest.now) (items_of cpus c.in-Some.after.now) cpu before.faults items few push;
      found = cpu_cpus cpus c.args.text.now c.loop-item.items c.push.new.self (items_of cpus c.loop-item.rest.now) (items_of cpus c.in-Some.after.now) cpu before.found items push;
      few = omega (arith, ap length push, length-append c.loop-item.items (cpu ∷ []));
      present = subst (All (IsPresent cpus)) (sym push) (All-push (IsPresent cpus) c.loop-item.items cpu before.present present);
    }

pub returns-clause-exact : goal.returns-clause-exact
returns-clause-exact c = λ room.
    let items : items_of c.args.cpus c.loop-item.rest.now ≡ [] = search rules in
    sym (schedule_done c.args.cpus c.args.text.now (length c.loop-item.items) c.loop-item.items (items_of c.args.cpus c.loop-item.rest.now) c.loop-item.invariant.faults c.loop-item.invariant.found items)
