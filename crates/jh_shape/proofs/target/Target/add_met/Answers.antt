-- A mapped region adds the slots that it touches, unless it lies in the span that is done.
use Rattle.std.proofs.Common.{◌≡◌, ◌+◌, ◌-◌, ◌*◌, ◌/◌, ◌<◌, ◌≤◌, ◌||◌, ◌&&◌, true, false, nat_le, nat_lt, ℕ, Bool, List, length, get_or, refl, sym, ap, ◌∙◌, arith}
use Rattle.std.specs.List.{list_any}
use Rattle.std.proofs.lemmas.List.{take_all}
use Rattle.std.proofs.Math.Bool.{or-true, or-false}
use Rattle.std.proofs.lemmas.Bool.{both_ways}
use Rattle.jh_shape.specs.declared.marks.TheConstants.{WINDOW}
use Rattle.jh_cellcfg.specs.declared.region.Region.{Region}
use Rattle.jh_cellcfg.specs.Regions.{virt_end}
use Rattle.jh_shape.specs.declared.interval.Span.{Span}
use Rattle.jh_shape.specs.Intervals.{touches}
use Rattle.jh_shape.specs.Private.Marks.{is_marked, marked_slots, past_slot}
use Rattle.jh_shape.specs.Shapes.{is_mapped, is_met_by}
use Rattle.jh_num.specs.Levels.{slot_size}
use Rattle.jh_shape.proofs.CountLemmas.{grown, grown_bound}
use Rattle.jh_shape.proofs.LawLemmas.{size_some}
use Rattle.jh_shape.proofs.MarkLemmas.{any_step, met_from_span, met_not_mapped, marked_few, none_beyond, no_farther, nothing_more_met, touches_in}
use Rattle.jh_shape.proofs.target.Target.add_met.Goals as goal
use Rattle.jh_shape.proofs.target.Target.add_met.Goals.{then-not-has_all+then-is_mapped, else-not-has_all, else-not-has_all-via-then-not-has_all+else-is_mapped, else-not-has_all-via-else-not-has_all}

pub loop-region-init : goal.loop-region-init
loop-region-init c = (λ n below. sym (or-false (is_marked c.args.words.now n)), omega arith, omega arith, λ n below none. absurd (both_ways false refl none))

pub mark_span-more-requires : goal.mark_span-more-requires
mark_span-more-requires c =
    let end : past_slot c.args.level c.addresses_in.result.end ≡ past_slot c.args.level (virt_end (get_or c.args.self.now.regions.now c.loop-region.region-index _) - c.args.base) =
    ap (λ end. past_slot c.args.level end) c.addresses_in.ensures.end in
    no_farther c.touched-slots.result.to _ _ (64 * length c.loop-region.words) c.touched-slots.ensures.past end (none_beyond c.args.base (64 * length c.args.words.now) _ c.args.level c.args.self.now.regions.now c.loop-region.region-index _ c.loop-region-test.true c.requires.room (let len = c.loop-region.auto.words in omega arith))

pub loop-region-preserved : goal.loop-region-preserved
loop-region-preserved c =
    let level = c.args.level in
    let size = slot_size level in
    let all = WINDOW / size in
    let regions = c.args.self.now.regions.now in
    let i = c.loop-region.region-index in
    let none : Region = record { phys_start = 0; virt_start = 0; size = 0; flags = 0 } in
    let region = get_or regions i none in
    let met : ℕ → Region → Bool = λ n it. is_met_by level (c.args.base + n * size) it in
    let first = marked_slots c.args.words.now level in
    let test = c.loop-region-test.true in
    let so_far = c.loop-region.invariant.0 in
    let has : ℕ → Span → Bool = λ n span. touches span.start span.end (c.args.base + n * size) size in
    elim c.if-not-has_all.branch [
      | then-not-has_all+then-is_mapped w ↦
          let new = w.mark_span-more.new.words in
          let last = marked_slots new level in
          let next : last ≡ marked_slots c.loop-region.words level + w.mark_span-more.result = w.mark_span-more.ensures.more all w.touched-slots.ensures.within in
          let grows : last ≡ first + (c.loop-region.more + w.mark_span-more.result) =
          grown first (marked_slots c.loop-region.words level) last c.loop-region.more w.mark_span-more.result c.loop-region.invariant.1 next in
          let mapped : is_mapped region ≡ true = sym w.is_mapped.ensures ∙ w.if-is_mapped.true in
          let few : c.loop-region.more + w.mark_span-more.result ≤ 262144 = grown_bound first last (c.loop-region.more + w.mark_span-more.result) 262144 grows (marked_few new level c.requires.level) in
          let touched : (n : ℕ) → n < all → (nat_le w.touched-slots.result.from n && nat_lt n w.touched-slots.result.to) ≡ touches region.virt_start (virt_end region) (c.args.base + n * size) size = λ n below.
          rw (← w.addresses_in.ensures.end, ← w.addresses_in.ensures.start) (w.touched-slots.ensures.slots n below) ∙ touches_in region.virt_start (virt_end region) c.args.base (n * size) size (size_some level) in (
            λ n below.
                ap (λ words. is_marked words n) w.words-is
                ∙ any_step (met n) regions i none (is_marked c.args.words.now n) (is_marked c.loop-region.words n) (is_marked new n) test (so_far n below)
                (met_from_span level region (c.args.base + n * size) (is_marked c.loop-region.words n) (is_marked new n) _ mapped (touched n below) (w.mark_span-more.ensures.marks n)),
            ap (λ words. marked_slots words level) w.words-is ∙ grows ∙ sym (ap (λ more. first + more) w.more-is),
            rw w.more-is few,
            λ n below has_one.
                ap (λ words. is_marked words n) w.words-is
                ∙ w.mark_span-more.ensures.marks n
                ∙ ap (λ b. is_marked c.loop-region.words n || b) (w.span-done.ensures n (sym (ap (has n) w.done-is) ∙ has_one))
                ∙ or-true (is_marked c.loop-region.words n),
          )
      | else-not-has_all w ↦
          let same : (n : ℕ) → n < all → is_marked c.loop-region.words n ≡ (is_marked c.loop-region.words n || met n region) = λ n below.
          elim w.else-not-has_all.branch [
            | else-not-has_all-via-then-not-has_all+else-is_mapped v ↦ met_not_mapped c.loop-region.words level region n (c.args.base + n * size) (sym v.is_mapped.ensures ∙ v.if-is_mapped.false)
            | else-not-has_all-via-else-not-has_all v ↦
                nothing_more_met c.args.base all c.loop-region.words level c.loop-region.done.start c.loop-region.done.end region n c.loop-region.invariant.3 (sym c.has_all.ensures ∙ v.if-not-has_all.false) below
          ] in (
            λ n below.
                ap (λ words. is_marked words n) w.words-is
                ∙ any_step (met n) regions i none (is_marked c.args.words.now n) (is_marked c.loop-region.words n) (is_marked c.loop-region.words n) test (so_far n below) (same n below),
            ap (λ words. marked_slots words level) w.words-is ∙ c.loop-region.invariant.1 ∙ sym (ap (λ more. first + more) w.more-is),
            rw w.more-is c.loop-region.invariant.2,
            λ n below has_one. ap (λ words. is_marked words n) w.words-is ∙ c.loop-region.invariant.3 n below (sym (ap (has n) w.done-is) ∙ has_one),
          )
    ]

pub returns-clause-met : goal.returns-clause-met
returns-clause-met c = λ n below.
    c.loop-region.invariant.0 n below
    ∙ ap (λ (regions : List Region). is_marked c.args.words.now n || list_any (λ (region : Region). is_met_by c.args.level (c.args.base + n * slot_size c.args.level) region) regions) (take_all c.loop-region.region-index c.args.self.now.regions.now c.loop-region-test.false)

pub returns-clause-more : goal.returns-clause-more
returns-clause-more c = c.loop-region.invariant.1

pub returns-clause-bound : goal.returns-clause-bound
returns-clause-bound c = c.loop-region.invariant.2
