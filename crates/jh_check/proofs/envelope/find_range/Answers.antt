-- An envelope that meets the region's span has its number in the range; where the rule is about one cell, the range has
-- the numbers up to that one that are behind the region's own.
use Rattle.std.proofs.Common.{arith}
use Rattle.jh_check.proofs.envelope.find_range.Goals as goal

pub returns-then-is_within-clause-behind : goal.returns-then-is_within-clause-behind
returns-then-is_within-clause-behind c = λ within met s low high.
    let e = c.envelopes_for.ensures in
    let p = c.span_of-span.ensures in
    let told = c.range_of-range.ensures (record { by = met.by; is = rw e met.is; begins = rw p met.begins; ends = rw p met.ends }) in
    let last = told.1 in
    c.only_behind.ensures s low (omega arith)

pub returns-else-is_within-clause-told : goal.returns-else-is_within-clause-told
returns-else-is_within-clause-told c = λ within met.
    let e = c.envelopes_for.ensures in
    let p = c.span_of-span.ensures in
    c.range_of-range.ensures (record { by = met.by; is = rw e met.is; begins = rw p met.begins; ends = rw p met.ends })
