-- The name and the counts that were read stand in the bytes where they are looked for.
use Rattle.std.proofs.Common.{ap, ◌∙◌, take}
use Rattle.jh_cellcfg.specs.Faults.{counts_at}
use Rattle.jh_cellcfg.proofs.Headers.{header_name, header_counts}
use Rattle.jh_cellcfg.proofs.read.header_at.Goals as goal

pub returns-clause-name : goal.returns-clause-name
returns-clause-name c = ap (take 32) c.read-header.ensures.taken ∙ header_name c.read-header.result c.read-header.new.reader.rest.now c.read-header.ensures.fits

pub returns-clause-counts : goal.returns-clause-counts
returns-clause-counts c = ap counts_at c.read-header.ensures.taken ∙ header_counts c.read-header.result c.read-header.new.reader.rest.now c.read-header.ensures.fits
