-- The places of the bytes are a range.
use Rattle.std.proofs.Common.{◌+◌, ◌-◌, ap, refl, sym}
use Rattle.jh_cellcfg.specs.Regions.{virt_end}
use Rattle.jh_mmio.proofs.AccessLemmas.{closed_test, lies_parts}
use Rattle.jh_mmio.proofs.cases.meets_closed.Goals as goal

pub returns : goal.returns
returns c =
    let r = c.args.region.now in
    let parts = lies_parts r.virt_start (virt_end r) c.args.at c.args.width c.requires.some c.requires.within in
    closed_test c.args.closed.now.ranges r c.args.at c.args.width _ _ _ (sym c.if-is_comm.ensures) parts.0 refl (ap (λ w. r.phys_start + (c.args.at - r.virt_start) + w) c.from.ensures) c.meets.ensures
