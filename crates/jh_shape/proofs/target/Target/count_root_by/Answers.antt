-- A new list has no mark, and filled it has the cuts of all its slots.
use Rattle.std.proofs.Common.{ℕ, arith}
use Rattle.std.proofs.lemmas.List.{length-replicate}
use Rattle.jh_shape.proofs.MarkLemmas.{unmarked}
use Rattle.jh_shape.proofs.target.Target.count_root_by.Goals as goal

pub fill_cuts-requires-clause-clear : goal.fill_cuts-requires-clause-clear
fill_cuts-requires-clause-clear g c = λ n. unmarked g.row.N n

pub count_by-requires-clause-cuts : goal.count_by-requires-clause-cuts
count_by-requires-clause-cuts g c = λ root n low below. c.fill_cuts.ensures n (let len = c.fill_cuts.auto.words in let all = length-replicate {A = ℕ} g.row.N 0 in omega arith) below
