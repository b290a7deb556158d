-- No region has slots beyond the full list.
use Rattle.jh_shape.proofs.MarkLemmas.{none_beyond_all}
use Rattle.jh_shape.proofs.target.Target.count_root.Goals as goal

pub count_root_by-requires-clause-room : goal.count_root_by-requires-clause-room
count_root_by-requires-clause-room c = none_beyond_all c.args.base c.args.level c.args.self.now.regions.now c.requires.level
