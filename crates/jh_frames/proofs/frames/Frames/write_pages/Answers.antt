-- The bytes of one page more are stored.
use Rattle.std.proofs.Common.{◌≡◌, ◌+◌, ◌-◌, ◌/◌, ◌%◌, ◌<◌, ◌≤◌, true, cond, length, arith, ap, ◌∙◌}
use Rattle.std.specs.Prelude.{IsOk}
use Rattle.jh_frames.specs.Memory.{byte_at, holds, missing, pages_in}
use Rattle.jh_num.proofs.Public.{stored_more}
use Rattle.jh_frames.proofs.HeldLemmas.{on_ok, lacking, lacking_at, missing_split, within_pages, held_more}
use Rattle.jh_frames.proofs.frames.Frames.write_pages.Goals as goal

pub loop-done-preserved : goal.loop-done-preserved
loop-done-preserved c =
    let inside : c.min-end.result ≤ length c.args.bytes.now = omega (arith, c.min-end.ensures) in
    let further : c.loop-done.done ≤ c.min-end.result = omega (arith, c.min-end.ensures) in
    let some : 0 < c.min-end.result - c.loop-done.done = omega (arith, c.min-end.ensures) in
    let one : (c.args.at + c.loop-done.done) % 4096 + (c.min-end.result - c.loop-done.done) ≤ 4096 = omega (arith, c.min-end.ensures) in
    let next : c.args.at + c.loop-done.done + (c.min-end.result - c.loop-done.done) ≡ c.args.at + c.min-end.result = omega arith in
    let left : length c.args.bytes.now - c.loop-done.done - (c.min-end.result - c.loop-done.done) ≡ length c.args.bytes.now - c.min-end.result = omega arith in
    let split : missing c.loop-done.self (c.args.at + c.loop-done.done) (length c.args.bytes.now - c.loop-done.done) ≡ lacking c.loop-done.self ((c.args.at + c.loop-done.done) / 4096) + missing c.write_page.new.self (c.args.at + c.min-end.result) (length c.args.bytes.now - c.min-end.result) =
    missing_split c.loop-done.self c.write_page.new.self (c.args.at + c.loop-done.done) (length c.args.bytes.now - c.loop-done.done) (c.min-end.result - c.loop-done.done) some (omega arith) one (λ other. omega (arith, c.min-end.ensures)) c.write_page.ensures.others
    ∙ ap (λ x. lacking c.loop-done.self ((c.args.at + c.loop-done.done) / 4096) + missing c.write_page.new.self x (length c.args.bytes.now - c.loop-done.done - (c.min-end.result - c.loop-done.done))) next
    ∙ ap (λ x. lacking c.loop-done.self ((c.args.at + c.loop-done.done) / 4096) + missing c.write_page.new.self (c.args.at + c.min-end.result) x) left in
    let wanted : lacking c.loop-done.self ((c.args.at + c.loop-done.done) / 4096) ≡ cond (holds c.loop-done.self (c.args.at + c.loop-done.done)) 0 1 = lacking_at c.loop-done.self (c.args.at + c.loop-done.done) c.write_page.ensures.whole in
    let ok : IsOk c.write_page.result = c.write_page.ensures.succeeds (λ lacks.
    let lack : lacking c.loop-done.self ((c.args.at + c.loop-done.done) / 4096) ≡ 1 = wanted ∙ ap (λ b. cond b 0 1) lacks in
    omega (arith, split, lack, c.loop-done.invariant.rest)) in
    let there : holds c.write_page.new.self (c.args.at + c.loop-done.done) ≡ true = on_ok c.write_page.result ok c.write_page.ensures.held in
    let page : (c.args.at + c.loop-done.done) / 4096 < c.args.at / 4096 + pages_in c.args.at (length c.args.bytes.now) = within_pages c.args.at (length c.args.bytes.now) (c.args.at + c.loop-done.done) (omega arith) (omega arith) in
    record {
      within = inside;
      bytes = λ q. on_ok c.write_page.result ok c.write_page.ensures.bytes q ∙ stored_more (byte_at c.args.self.now) (byte_at c.loop-done.self) c.args.at c.loop-done.done c.min-end.result c.args.bytes.now q further inside (c.loop-done.invariant.bytes q);
      base = c.write_page.ensures.base ∙ c.loop-done.invariant.base;
      size = c.write_page.ensures.size ∙ c.loop-done.invariant.size;
      held = λ q low high. held_more c.loop-done.self c.write_page.new.self (c.args.at + c.loop-done.done) q c.write_page.ensures.still_whole c.write_page.ensures.kept there (λ lt. c.loop-done.invariant.held q low lt) (λ le. omega arith);
      kept = λ q h. c.write_page.ensures.kept q (c.loop-done.invariant.kept q h);
      rest = omega (arith, split, wanted, c.write_page.ensures.spare, c.loop-done.invariant.rest);
      spare = omega (arith, split, wanted, c.write_page.ensures.spare, c.loop-done.invariant.spare);
      below = λ q lt. c.write_page.ensures.others q (λ e. omega arith) ∙ c.loop-done.invariant.below q lt;
      above = λ q le. c.write_page.ensures.others q (λ e. omega (arith, page)) ∙ c.loop-done.invariant.above q le;
    }
