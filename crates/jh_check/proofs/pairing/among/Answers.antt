-- A region that may meet none gives nothing, and any other gives what the visit of it finds.
use Rattle.std.proofs.Common.{◌≡◌, ◌<◌, ◌+◌, [], ◌++◌, length, get_or, refl, sym, ap, ◌∙◌, inl, inr, arith}
use Rattle.std.proofs.lemmas.Bool.{cases_lt}
use Rattle.jh_cellcfg.specs.declared.region.Region.{Region}
use Rattle.jh_check.specs.declared.blocks.TheConstants.{BLOCK}
use Rattle.jh_check.specs.Lists.{capped}
use Rattle.jh_check.specs.Findings.{between_at, spot}
use Rattle.jh_check.proofs.ListLemmas.{found_step, found_end}
use Rattle.jh_check.proofs.EnvelopeLemmas.{own_spot, beside_none_met, capped_none_more}
use Rattle.jh_check.proofs.pairing.among.Goals as goal

pub loop-r-init : goal.loop-r-init
loop-r-init c = record { gaps = c.requires.gaps; within = omega arith; found = refl }

pub loop-r-preserved-then-not-may_meet : goal.loop-r-preserved-then-not-may_meet
loop-r-preserved-then-not-may_meet c =
    let pair = c.args.pair.now in
    let found = between_at pair.rule pair.a pair.one.now pair.b pair.other.now in
    let regions = pair.one.now.memory_regions in
    let none : Region = record { phys_start = 0; virt_start = 0; size = 0; flags = 0 } in
    let v = c.as_slice-regions.ensures.value in
    let n = c.as_slice-regions.ensures.len in
    let t = c.loop-r-test.true in
    let m = c.min-r-end.ensures in
    let s = c.saturating_add.ensures in
    let h : c.loop-r.r < length regions = rw v at (let k : c.loop-r.r < length c.as_slice-regions.result.now = omega arith in k) in
    let own = own_spot pair.a pair.one.now c.loop-r.r none pair.b pair.other.now h c.requires.pair.same in
    let told = c.may_meet.ensures.told c.if-not-may_meet.true in
    let missed = rw v at told in
    let e : found c.loop-r.r (get_or regions c.loop-r.r none) ≡ [] = beside_none_met pair.rule (spot pair.a pair.one.now c.loop-r.r (get_or regions c.loop-r.r none)) pair.b pair.other.now pair.envelopes.now c.requires.pair.envelopes own missed in
    record {
      gaps = c.may_meet.ensures.gaps;
      within = omega arith;
      found = found_step found regions c.loop-r.r none c.loop-r.found c.loop-r.found _ h (capped_none_more c.loop-r.found (found c.loop-r.r (get_or regions c.loop-r.r none)) e) c.loop-r.invariant.found;
    }

pub loop-r-preserved : goal.loop-r-preserved
loop-r-preserved c =
    let pair = c.args.pair.now in
    let found = between_at pair.rule pair.a pair.one.now pair.b pair.other.now in
    let regions = pair.one.now.memory_regions in
    let none : Region = record { phys_start = 0; virt_start = 0; size = 0; flags = 0 } in
    let v = c.as_slice-regions.ensures.value in
    let t = c.loop-r-test.true in
    let m = c.min-r-end.ensures in
    let s = c.saturating_add.ensures in
    let h : c.loop-r.r < length regions = rw v at (let k : c.loop-r.r < length c.as_slice-regions.result.now = omega arith in k) in
    let a = c.in_ok-visit.ensures in
    let e : capped c.visit.new.found ≡ capped (c.loop-r.found ++ found c.loop-r.r (get_or regions c.loop-r.r none)) = cc in
    record {
      gaps = c.may_meet.ensures.gaps;
      within = omega arith;
      found = found_step found regions c.loop-r.r none c.loop-r.found c.visit.new.found _ h e c.loop-r.invariant.found;
    }

pub returns-clause-found : goal.returns-clause-found
returns-clause-found c =
    let pair = c.args.pair.now in
    let found = between_at pair.rule pair.a pair.one.now pair.b pair.other.now in
    let regions = pair.one.now.memory_regions in
    let v = c.as_slice-regions.ensures.value in
    let t = c.loop-r-test.false in
    let m = c.min-r-end.ensures in
    let s = c.saturating_add.ensures in
    let most = c.loop-r.invariant.within in
    elim (cases_lt c.loop-r.r (length regions)) [
      | inl h ↦
          let k : c.loop-r.r < length c.as_slice-regions.result.now = rw v h in
          let e : c.args.first + BLOCK ≡ c.loop-r.r = omega arith in
          rw e c.loop-r.invariant.found
      | inr h ↦
          ap (λ xs. capped (c.loop-r.found ++ xs)) (found_end found regions (c.args.first + BLOCK) (omega arith) ∙ sym (found_end found regions c.loop-r.r h)) ∙ c.loop-r.invariant.found
    ]

pub visit-requires-clause-own : goal.visit-requires-clause-own
visit-requires-clause-own c =
    let none : Region = record { phys_start = 0; virt_start = 0; size = 0; flags = 0 } in
    let v = c.as_slice-regions.ensures.value in
    let t = c.loop-r-test.true in
    let m = c.min-r-end.ensures in
    let h : c.loop-r.r < length c.args.pair.now.one.now.memory_regions = rw v at (let k : c.loop-r.r < length c.as_slice-regions.result.now = omega arith in k) in
    let k = own_spot c.args.pair.now.a c.args.pair.now.one.now c.loop-r.r none c.args.pair.now.b c.args.pair.now.other.now h c.requires.pair.same in
    rw v k
