-- Nothing is left.
use Rattle.std.proofs.Common.{List, sym, ◌∙◌, ap, arith}
use Rattle.jh_num.specs.declared.range.Range.{Range}
use Rattle.std.specs.Option.{option_copied}
use Rattle.jh_num.specs.Bytes.{has_byte}
use Rattle.jh_closed.proofs.ClosedLemmas.{none_left}
use Rattle.jh_closed.proofs.closed.open_all.Goals as goal

pub unreachable-requires-in-Some : goal.unreachable-requires-in-Some
unreachable-requires-in-Some c =
    let end = c.range_ends_within_64_bits.ensures in
    let ranges = c.ranges-2.result.now in
    none_left ranges c.args.closed.now.ranges 18446744073709551615 c.in-Some.range.now c.ranges-2.ensures.apart (sym c.first.ensures.value ∙ ap option_copied c.in-Some.is)
    (λ b. ap (λ (rs : List Range). has_byte rs b) c.ranges-2.ensures.ranges ∙ c.in-Ok.ensures.bytes b) (omega arith)
