-- The regions have all their slots in the list, none of which is marked at first.
use Rattle.std.proofs.Common.{ℕ, ◌*◌, ap, ◌∙◌}
use Rattle.std.proofs.lemmas.List.{length-replicate}
use Rattle.std.specs.List.{list_any}
use Rattle.jh_cellcfg.specs.declared.region.Region.{Region}
use Rattle.jh_shape.specs.Private.Marks.{is_beyond}
use Rattle.jh_shape.proofs.MarkLemmas.{unmarked}
use Rattle.jh_shape.proofs.target.Target.count_by.Goals as goal

pub count_in-requires-clause-room : goal.count_in-requires-clause-room
count_in-requires-clause-room g c =
    ap (λ (len : ℕ). list_any (λ (region : Region). is_beyond c.args.base (64 * len) c.args.level region) c.args.self.now.regions.now) (length-replicate {A = ℕ} g.row.N 0) ∙ c.requires.room

pub count_in-requires-clause-clear : goal.count_in-requires-clause-clear
count_in-requires-clause-clear g c = λ n. unmarked g.row.N n
