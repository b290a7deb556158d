-- One item more, a stop, and all of them.
use Rattle.std.proofs.Common.{◌≡◌, ℕ, false, List, length, take, refl, subst, ◌∙◌, arith}
use Rattle.jh_history.specs.Items.{items}
use Rattle.jh_pins.proofs.ClashLemmas.{take_whole}
use Rattle.jh_pins.proofs.LiveLemmas.{reached, items_none, items_more, items_stopped}
use Rattle.jh_pins.proofs.live.follow.Goals as goal

pub loop-cpu-init : goal.loop-cpu-init
loop-cpu-init c = (items_none c.args.board.now.image c.args.board.now.form c.args.board.now.limit c.args.board.now.entries, refl, refl, refl)

pub loop-cpu-preserved : goal.loop-cpu-preserved
loop-cpu-preserved c =
    let old = c.args.board.now in
    let mid = c.loop-cpu.board in
    let new = c.item.new.board in
    let inv = c.loop-cpu.invariant in
    let step = rw c.if-stopped.false at c.in_ok-stopped.ensures.reached in (
      items_more old.image mid.image old.form mid.form old.limit mid.limit c.args.schedule.now c.loop-cpu.cpu-index old.entries mid.entries new.entries false (omega arith) inv.0 inv.1 inv.2 inv.3 step,
      c.in_ok-stopped.ensures.image ∙ inv.1,
      c.in_ok-stopped.ensures.form ∙ inv.2,
      c.in_ok-stopped.ensures.limit ∙ inv.3,
    )

pub returns-then-stopped : goal.returns-then-stopped
returns-then-stopped c =
    let old = c.args.board.now in
    let mid = c.loop-cpu.board in
    let new = c.item.new.board in
    let inv = c.loop-cpu.invariant in
    let step = rw c.if-stopped.true at c.in_ok-stopped.ensures.reached in
    record {
      reached = items_stopped old.image mid.image old.form mid.form old.limit mid.limit c.args.schedule.now c.loop-cpu.cpu-index old.entries mid.entries new.entries (omega arith) inv.0 inv.1 inv.2 inv.3 step;
      image = c.in_ok-stopped.ensures.image ∙ inv.1;
      form = c.in_ok-stopped.ensures.form ∙ inv.2;
      limit = c.in_ok-stopped.ensures.limit ∙ inv.3;
    }

pub returns : goal.returns
returns c =
    let old = c.args.board.now in
    let mid = c.loop-cpu.board in
    let schedule = c.args.schedule.now in
    let inv = c.loop-cpu.invariant in
    let all : c.loop-cpu.cpu-index ≡ length schedule = omega arith in
    let P : ℕ → Type 0 = λ n. items old.image old.form old.limit (take n schedule) old.entries ≡ reached mid.entries false in
    let Q : List ℕ → Type 0 = λ l. items old.image old.form old.limit l old.entries ≡ reached mid.entries false in
    record { reached = subst Q (take_whole schedule) (subst P all inv.0); image = inv.1; form = inv.2; limit = inv.3 }
