-- A word of all bits; one bit that is set after another; and none is left.
use Rattle.std.proofs.Common.{◌+◌, eqb, ◌||◌, ap, sym, ◌∙◌, arith}
use Rattle.jh_num.specs.Bytes.{has_byte}
use Rattle.jh_pins.specs.Private.Words.{is_in_word}
use Rattle.jh_pins.proofs.PinLemmas.{all_bits}
use Rattle.jh_pins.proofs.WordLemmas.{lowest, without_lowest, lowest_out, fewer_left, bit_put}
use Rattle.jh_pins.proofs.sets.insert_word.Goals as goal

pub returns-then-word-eq4294967295 : goal.returns-then-word-eq4294967295
returns-then-word-eq4294967295 c = λ number.
    let old = has_byte c.args.pins.now.ranges number in
    c.in_ok-insert.ensures.bytes number ∙ ap (λ b. old || b) (sym (ap (λ w. is_in_word w c.args.first number) c.if-word-eq4294967295.true ∙ all_bits c.args.first number))

pub loop-left-smaller : goal.loop-left-smaller
loop-left-smaller c = fewer_left c.loop-left.left (omega arith) (omega arith)

pub loop-left-preserved : goal.loop-left-preserved
loop-left-preserved c =
    bit_put c.args.word c.loop-left.left (lowest c.loop-left.left) (without_lowest c.loop-left.left) c.args.first c.args.pins.now.ranges c.loop-left.pins.ranges c.insert_pin.new.pins.ranges
    c.loop-left.invariant (lowest_out c.loop-left.left (omega arith) (omega arith))
    (λ n. c.in_ok-insert_pin.ensures n ∙ ap (λ b. has_byte c.loop-left.pins.ranges n || eqb n (c.args.first + b)) c.from.ensures)
