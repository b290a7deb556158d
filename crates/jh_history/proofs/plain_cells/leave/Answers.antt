-- One cell more, from the last one on.
use Rattle.std.proofs.Common.{◌≡◌, ◌-◌, ◌<◌, true, false, length, vec_len, rules, ◌∙◌, sym, eq-eqb, arith}
use Rattle.std.proofs.lemmas.Bool.{ne_eqb}
use Rattle.jh_shape.specs.Lives.{with_marks}
use Rattle.jh_history.proofs.LiveLemmas.{has_number, leave_so_far, leave_begin, leave_within, leave_keep, leave_drop, leave_even}
use Rattle.jh_history.proofs.plain_cells.leave.Goals as goal

pub loop-i-init : goal.loop-i-init
loop-i-init c =
    let len : vec_len c.args.cells.now ≡ length c.args.cells.now.items = search rules in
    record {
      even = c.requires;
      left = leave_begin c.len-i.result c.args.id c.args.cells.now.items c.args.marks.now.items c.requires (c.len-i.ensures ∙ len);
    }

pub index-requires : goal.index-requires
index-requires c =
    let len : vec_len c.args.cells.now ≡ length c.args.cells.now.items = search rules in
    let now : vec_len c.loop-i.cells ≡ length c.loop-i.cells.items = search rules in
    let lt : c.loop-i.i - 1 < length c.args.cells.now.items = omega arith in
    let within = leave_within (c.loop-i.i - 1) c.args.id c.args.cells.now.items c.loop-i.cells.items c.args.marks.now.items c.loop-i.marks.items c.requires c.loop-i.invariant.even lt
    (leave_so_far c.loop-i.i c.args.id (with_marks c.loop-i.cells.items c.loop-i.marks.items) (with_marks c.args.cells.now.items c.args.marks.now.items) c.loop-i-test.true c.loop-i.invariant.left) in
    omega arith

pub remove-requires : goal.remove-requires
remove-requires c =
    let len : vec_len c.args.cells.now ≡ length c.args.cells.now.items = search rules in
    let now : vec_len c.loop-i.cells ≡ length c.loop-i.cells.items = search rules in
    let lt : c.loop-i.i - 1 < length c.args.cells.now.items = omega arith in
    let within = leave_within (c.loop-i.i - 1) c.args.id c.args.cells.now.items c.loop-i.cells.items c.args.marks.now.items c.loop-i.marks.items c.requires c.loop-i.invariant.even lt
    (leave_so_far c.loop-i.i c.args.id (with_marks c.loop-i.cells.items c.loop-i.marks.items) (with_marks c.args.cells.now.items c.args.marks.now.items) c.loop-i-test.true c.loop-i.invariant.left) in
    omega arith

pub remove-requires-then-from-id : goal.remove-requires-then-from-id
remove-requires-then-from-id c =
    let len : vec_len c.args.cells.now ≡ length c.args.cells.now.items = search rules in
    let now : vec_len c.loop-i.marks ≡ length c.loop-i.marks.items = search rules in
    let lt : c.loop-i.i - 1 < length c.args.cells.now.items = omega arith in
    let even = c.loop-i.invariant.even in
    let within = leave_within (c.loop-i.i - 1) c.args.id c.args.cells.now.items c.loop-i.cells.items c.args.marks.now.items c.loop-i.marks.items c.requires even lt
    (leave_so_far c.loop-i.i c.args.id (with_marks c.loop-i.cells.items c.loop-i.marks.items) (with_marks c.args.cells.now.items c.args.marks.now.items) c.loop-i-test.true c.loop-i.invariant.left) in
    omega arith

pub loop-i-preserved : goal.loop-i-preserved
loop-i-preserved c =
    let len : vec_len c.args.cells.now ≡ length c.args.cells.now.items = search rules in
    let cell = c.index.result.now in
    let lt : c.loop-i.i - 1 < length c.args.cells.now.items = omega arith in
    let other : has_number c.args.id cell ≡ false = ne_eqb cell.id c.args.id (λ e. c.if-from-id.false (c.from.ensures ∙ e)) in
    record {
      even = c.loop-i.invariant.even;
      left = leave_keep (c.loop-i.i - 1) c.args.id c.args.cells.now.items c.loop-i.cells.items c.args.marks.now.items c.loop-i.marks.items cell c.requires c.loop-i.invariant.even lt c.index.ensures
          (leave_so_far c.loop-i.i c.args.id (with_marks c.loop-i.cells.items c.loop-i.marks.items) (with_marks c.args.cells.now.items c.args.marks.now.items) c.loop-i-test.true c.loop-i.invariant.left)
          other;
    }

pub loop-i-preserved-then-from-id : goal.loop-i-preserved-then-from-id
loop-i-preserved-then-from-id c =
    let len : vec_len c.args.cells.now ≡ length c.args.cells.now.items = search rules in
    let cell = c.index.result.now in
    let lt : c.loop-i.i - 1 < length c.args.cells.now.items = omega arith in
    let it : has_number c.args.id cell ≡ true = eq-eqb cell.id c.args.id (sym c.from.ensures ∙ c.if-from-id.true) in
    let so_far = leave_so_far c.loop-i.i c.args.id (with_marks c.loop-i.cells.items c.loop-i.marks.items) (with_marks c.args.cells.now.items c.args.marks.now.items) c.loop-i-test.true c.loop-i.invariant.left in
    let within = leave_within (c.loop-i.i - 1) c.args.id c.args.cells.now.items c.loop-i.cells.items c.args.marks.now.items c.loop-i.marks.items c.requires c.loop-i.invariant.even lt so_far in
    rw (c.remove.ensures.items, c.remove-then-from-id.ensures.items) (record {
      even = leave_even (c.loop-i.i - 1) c.loop-i.cells.items c.loop-i.marks.items c.loop-i.invariant.even within;
      left = leave_drop (c.loop-i.i - 1) c.args.id c.args.cells.now.items c.loop-i.cells.items c.args.marks.now.items c.loop-i.marks.items cell c.requires c.loop-i.invariant.even lt c.index.ensures so_far it;
    })
