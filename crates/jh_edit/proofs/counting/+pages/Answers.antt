-- Slot by slot the pages add up.
use Rattle.std.proofs.Common.{◌≡◌, ℕ, ◌+◌, ◌-◌, ◌*◌, ◌≤◌, ◌∙◌, ap, arith}
use Rattle.jh_num.specs.Below.{sum_below}
use Rattle.jh_desc.specs.Descriptors.{read_of}
use Rattle.jh_frames.specs.Memory.{byte_at, word_in}
use Rattle.jh_walk.specs.Counts.{by_next}
use Rattle.jh_walk.specs.Pages.{pages_reached}
use Rattle.jh_edit.proofs.CountingLemmas.{start_sum, more_sum, pages_all, pages_few, pages_zero}
use Rattle.jh_edit.proofs.counting.+pages.Goals as goal

pub pages_at-returns-in-Table-clause-few : goal.pages_at-returns-in-Table-clause-few
pages_at-returns-in-Table-clause-few t c =
    let few : pages_reached (word_in (byte_at c.args.f.now)) c.args.left c.in-Table.next ≤ 262657 = pages_few (word_in (byte_at c.args.f.now)) c.args.left c.in-Table.next c.requires.left in
    let e = c.pages_from.ensures.value in omega arith

pub pages_from-returns-then-left-eq0-clause-value : goal.pages_from-returns-then-left-eq0-clause-value
pages_from-returns-then-left-eq0-clause-value t c = pages_zero (word_in (byte_at c.args.f.now)) c.args.left c.args.table c.if-left-eq0.true

pub pages_from-loop-slot-init : goal.pages_from-loop-slot-init
pages_from-loop-slot-init t c =
    let f = λ (i : ℕ). by_next (pages_reached (word_in (byte_at c.args.f.now)) (c.args.left - 1)) (read_of (word_in (byte_at c.args.f.now) (c.args.table + 8 * i)) (4 - c.args.left)) in
    (start_sum 1 f, omega arith)

pub pages_from-loop-slot-preserved : goal.pages_from-loop-slot-preserved
pages_from-loop-slot-preserved t c =
    let f = λ (i : ℕ). by_next (pages_reached (word_in (byte_at c.args.f.now)) (c.args.left - 1)) (read_of (word_in (byte_at c.args.f.now) (c.args.table + 8 * i)) (4 - c.args.left)) in
    let few : c.pages_at-pages.result ≤ 262657 = c.pages_at-pages.ensures.few in
    let before : c.loop-slot.pages ≤ 1 + c.loop-slot.slot * 262657 = c.loop-slot.invariant.1 in (
      more_sum 1 c.loop-slot.slot c.loop-slot.pages c.pages_at-pages.result f c.loop-slot.invariant.0
          (c.pages_at-pages.ensures.value ∙ ap (by_next (pages_reached (word_in (byte_at c.args.f.now)) (c.args.left - 1))) c.descriptor.ensures.value),
      omega arith,
    )

pub pages_from-returns-clause-value : goal.pages_from-returns-clause-value
pages_from-returns-clause-value t c =
    let some = c.if-left-eq0.false in
    let f = λ (i : ℕ). by_next (pages_reached (word_in (byte_at c.args.f.now)) (c.args.left - 1)) (read_of (word_in (byte_at c.args.f.now) (c.args.table + 8 * i)) (4 - c.args.left)) in
    let end : c.loop-slot.slot ≡ 512 = (let test = c.loop-slot-test.false in let last = c.loop-slot.auto.slot-end in omega arith) in
    pages_all (word_in (byte_at c.args.f.now)) c.args.left c.args.table c.loop-slot.pages (omega arith)
    (c.loop-slot.invariant.0 ∙ ap (λ n. 1 + sum_below n f) end)
