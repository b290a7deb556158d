-- Spans that stand apart rise in starts and ends, so those that meet lie between two borders.
use Rattle.std.proofs.Common.{nat_lt, leb, arith, rules}
use Rattle.std.proofs.lemmas.List.Sorted.{IsPartitionPoint-from_clause}
use Rattle.jh_check.specs.declared.spans.Span.{Span}
use Rattle.jh_check.proofs.SpanLemmas.{apart_parted, apart_ended, met_within}
use Rattle.jh_check.proofs.spans.stretch_met.Goals as goal

pub returns-clause-each : goal.returns-clause-each
returns-clause-each c =
    let spans = c.args.spans.now in
    let other = c.args.other in
    let n = c.partition_point-end.result in
    let m = c.partition_point-first.result in
    let begins = IsPartitionPoint-from_clause (λ (span : Span). nat_lt span.start other.end) spans n c.partition_point-end.ensures.partitioned (apart_parted spans other.end c.requires) (λ a r q k. search rules) in
    let ends = IsPartitionPoint-from_clause (λ (span : Span). leb span.end other.start) spans m c.partition_point-first.ensures.partitioned (apart_ended spans other.start c.requires) (λ a r q k. search rules) in
    met_within spans other c.min.result m n (omega (arith, c.min.ensures)) (omega (arith, c.min.ensures)) c.partition_point-end.ensures.bound begins.1 ends.0
