-- A listed key leaves the answer to those behind it, and any other is the answer.
use Rattle.std.proofs.Common.{map, Some, sym, ap, ◌∙◌}
use Rattle.std.specs.Map.Iter.{deref}
use Rattle.std.proofs.lemmas.Map.Iter.{rest_more}
use Rattle.jh_spec.proofs.Unlisted.{key_unlisted, first_unlisted_keys, next_key}
use Rattle.jh_spec.proofs.json.first_unlisted_of.Goals as goal

pub loop-name-init : goal.loop-name-init
loop-name-init c = rw (c.into_iter-name-iterator.ensures.into_iter_gives, c.keys-name-items.ensures.rest) (sym (first_unlisted_keys (map (λ listed. listed.now) c.args.names.now) c.args.members.now.entries))

pub returns-then-not-is_listed : goal.returns-then-not-is_listed
returns-then-not-is_listed c =
    let names = map (λ listed. listed.now) c.args.names.now in
    let key = c.in-Some.name.now in
    let split = rest_more deref c.loop-name.name-iterator c.next.new.self c.next.result c.in-Some.name c.in-Some.is c.next.ensures.steps in
    ap Some c.as_str-then-not-is_listed.ensures.value ∙ sym (next_key c.args.names.now key c.next.new.self c.as_str.result.now _ c.as_str.ensures.value (sym c.if-not-is_listed.true ∙ c.is_listed.ensures)) ∙ ap (key_unlisted names) (sym split) ∙ c.loop-name.invariant

pub loop-name-preserved : goal.loop-name-preserved
loop-name-preserved c =
    let names = map (λ listed. listed.now) c.args.names.now in
    let key = c.in-Some.name.now in
    let split = rest_more deref c.loop-name.name-iterator c.next.new.self c.next.result c.in-Some.name c.in-Some.is c.next.ensures.steps in
    sym (next_key c.args.names.now key c.next.new.self c.as_str.result.now _ c.as_str.ensures.value (sym c.if-not-is_listed.false ∙ c.is_listed.ensures)) ∙ ap (key_unlisted names) (sym split) ∙ c.loop-name.invariant
