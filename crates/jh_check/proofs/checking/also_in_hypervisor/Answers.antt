-- What the hypervisor's memory breaks stands behind what regions break, under one cap.
use Rattle.jh_check.specs.Private.Cells.{cells_of}
use Rattle.jh_check.specs.Findings.{in_regions, in_hypervisor}
use Rattle.jh_check.proofs.ListLemmas.{capped_then}
use Rattle.jh_check.proofs.checking.also_in_hypervisor.Goals as goal

pub returns : goal.returns
returns c =
    capped_then c.args.found.now c.in_regions.new.found c.in_hypervisor.new.found (in_regions c.args.rule c.args.setup.now.hypervisor.now (cells_of c.args.setup.now)) (in_hypervisor c.args.rule c.args.setup.now.hypervisor.now) c.in_ok-in_regions.ensures c.in_ok-in_hypervisor.ensures
