-- Starts and ends rise, so those that meet the span lie between two borders, or are one.
use Rattle.std.proofs.Common.{◌≡◌, nat_lt, leb, get_or, ap, ◌∙◌, arith, rules}
use Rattle.std.proofs.lemmas.List.{get_or_default}
use Rattle.std.proofs.lemmas.List.Sorted.{IsPartitionPoint-from_clause, IsPartitionedBy-ltb, IsPartitionedBy-leb}
use Rattle.jh_check.specs.declared.envelope.Envelope.{Envelope}
use Rattle.jh_check.proofs.EnvelopeLemmas.{among_parted}
use Rattle.jh_check.proofs.envelope.range_of.Goals as goal

pub returns : goal.returns
returns c =
    let envelopes = c.args.envelopes.now in
    let span = c.args.span in
    let n = c.partition_point-end.result in
    let m = c.partition_point-begin.result in
    let begins = IsPartitionPoint-from_clause (λ (envelope : Envelope). nat_lt envelope.start span.end) envelopes n c.partition_point-end.ensures.partitioned (IsPartitionedBy-ltb (λ (envelope : Envelope). envelope.start) envelopes span.end c.requires.starts) (λ a r q k. search rules) in
    let ends = IsPartitionPoint-from_clause (λ (envelope : Envelope). leb envelope.end span.start) envelopes m c.partition_point-begin.ensures.partitioned (IsPartitionedBy-leb (λ (envelope : Envelope). envelope.end) envelopes span.start c.requires.ends) (λ a r q k. search rules) in
    λ met. c.around.ensures met.by (among_parted envelopes span c.min.result m n (omega (arith, c.min.ensures)) (omega (arith, c.min.ensures)) c.partition_point-end.ensures.bound begins.1 ends.0 met)

pub returns-then-is_only : goal.returns-then-is_only
returns-then-is_only c = λ met.
    let envelopes = c.args.envelopes.now in
    let k = c.saturating_sub-k.result in
    let none : Envelope = record { start = 0; item = 0; end = 0 } in
    let same = get_or_default envelopes k none met.by (c.is_only.ensures.within c.if-is_only.true) in
    let is = c.is_only.ensures.only c.if-is_only.true met met.by in
    let item : (get_or envelopes k none).item ≡ met.by.item = ap (λ (r : Envelope). r.item) (same ∙ is) in
    (omega arith, omega arith)
