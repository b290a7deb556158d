-- The region puts the slots that it touches, one by one, and those are the ones that it has an address in.
use Rattle.std.proofs.Common.{◌≡◌, ℕ, ◌+◌, ◌-◌, ◌*◌, ◌<◌, ◌≤◌, ◌&&◌, true, cond, slice_get, Some, sym, ap, ◌∙◌, arith}
use Rattle.std.proofs.lemmas.List.{length-set}
use Rattle.jh_num.specs.Levels.{slot_size}
use Rattle.jh_cellcfg.specs.Regions.{virt_end}
use Rattle.jh_shape.specs.declared.want.Want.{Want}
use Rattle.jh_shape.specs.Claims.{claims_of}
use Rattle.jh_shape.specs.Intervals.{touches}
use Rattle.jh_shape.specs.Private.Marks.{want_by}
use Rattle.jh_shape.specs.Shapes.{are_cut, is_closed, is_mapped, is_met_by}
use Rattle.jh_shape.proofs.HeldLemmas.{table_in_window}
use Rattle.jh_shape.proofs.LawLemmas.{size_some}
use Rattle.jh_shape.proofs.MarkLemmas.{is_from, touches_in}
use Rattle.jh_shape.proofs.TableLemmas.{put_end, put_step}
use Rattle.jh_shape.proofs.target.Target.put_wants.Goals as goal

pub want_at-requires-clause-told : goal.want_at-requires-clause-told
want_at-requires-clause-told c = λ root some.
    let n = c.loop-n.n in
    let test = c.loop-n-test.true in
    let bound = c.touched_in_table-slots.ensures.bound in
    let few : n < 512 = omega arith in
    let holders = (claims_of c.args.self.now).holders in
    (c.requires.told root some).0 n few (table_in_window c.args.level n some c.requires.slot.last few)
    ∙ ap (λ (size : ℕ). are_cut holders (c.args.start + n * size) (slot_size c.args.level)) (sym c.slot_size-size.ensures)

pub want_at-requires-clause-closed_told : goal.want_at-requires-clause-closed_told
want_at-requires-clause-closed_told c = λ root some.
    let n = c.loop-n.n in
    let test = c.loop-n-test.true in
    let bound = c.touched_in_table-slots.ensures.bound in
    let few : n < 512 = omega arith in
    let holders = (claims_of c.args.self.now).holders in
    (c.requires.told root some).1 n few (table_in_window c.args.level n some c.requires.slot.last few)
    ∙ ap (λ (size : ℕ). is_closed holders (c.args.start + n * size)) (sym c.slot_size-size.ensures)

pub loop-n-preserved : goal.loop-n-preserved
loop-n-preserved c =
    let n = c.loop-n.n in
    let from = c.touched_in_table-slots.result.from in
    let test = c.loop-n-test.true in
    let bound = c.touched_in_table-slots.ensures.bound in
    let low : from ≤ n = c.loop-n.auto.n in
    let all = c.loop-n.invariant.1 in
    let f : ℕ → Want = λ k. want_by (claims_of c.args.self.now) c.args.level (c.args.start + k * slot_size c.args.level) c.args.region.now in
    let is : c.want_at.result ≡ f n = c.want_at.ensures ∙ ap (λ (size : ℕ). want_by (claims_of c.args.self.now) c.args.level (c.args.start + n * size) c.args.region.now) c.slot_size-size.ensures in (
      omega arith,
      length-set c.loop-n.wants n c.want_at.result ∙ all,
      λ k few. put_step c.loop-n.wants n from k c.want_at.result f (slice_get c.args.wants.now k) (omega arith) (omega arith) low (c.loop-n.invariant.2 k few) is,
    )

pub returns-after-loop-n : goal.returns-after-loop-n
returns-after-loop-n c = λ n few.
    let size = slot_size c.args.level in
    let region = c.args.region.now in
    let at = c.args.start + n * size in
    let from = c.touched_in_table-slots.result.from in
    let to = c.touched_in_table-slots.result.to in
    let shifted : is_from from to n ≡ touches (region.virt_start - c.args.start) (virt_end region - c.args.start) (n * size) size = rw (← c.addresses_in.ensures.end, ← c.addresses_in.ensures.start) (c.touched_in_table-slots.ensures.slots n few) in
    let touched : is_from from to n ≡ touches region.virt_start (virt_end region) at size = shifted ∙ touches_in region.virt_start (virt_end region) c.args.start (n * size) size (size_some c.args.level) in
    let mapped : is_mapped region ≡ true = sym c.is_mapped.ensures ∙ c.if-is_mapped.true in
    let met : is_from from c.loop-n.n n ≡ is_met_by c.args.level at region =
    put_end from to c.loop-n.n n c.loop-n-test.false c.loop-n.invariant.0
    ∙ touched
    ∙ sym (ap (λ b. b && touches region.virt_start (virt_end region) at size) mapped) in
    c.loop-n.invariant.2 n few
    ∙ ap (λ b. cond b (Some (want_by (claims_of c.args.self.now) c.args.level at region)) (slice_get c.args.wants.now n)) met
