-- The last digit of what is left goes before those written, and the first digit goes last.
use Rattle.std.proofs.Common.{rules, ◌≡◌, ◌+◌, ◌-◌, ◌<◌, false, length, drop, sym, ap, ◌∙◌, arith}
use Rattle.std.specs.Fmt.{digits_onto}
use Rattle.std.proofs.lemmas.List.{drop-set, drop_all}
use Rattle.jh_text.proofs.Digits.{none_written, next_written, first_written, several, fewer_left}
use Rattle.jh_text.proofs.number_text.write_digits.Goals as goal

pub loop-left-init : goal.loop-left-init
loop-left-init c = record {
  before = omega arith;
  within = omega arith;
  fits = c.requires.fits;
  written = ap (digits_onto 64 c.args.base false c.args.n) (drop_all 22 c.args.room.now (search rules)) ∙ none_written c.args.base c.args.n;
}

pub loop-left-preserved : goal.loop-left-preserved
loop-left-preserved c =
    let l = c.loop-left in
    let base = c.args.base in
    let back : l.start - 1 + 1 ≡ l.start = omega arith in
    let within : l.start < length l.room = search rules in
    let more : 1 < l.start - 1 = several base l.left (l.start - 1) c.requires.low c.loop-left-test.true l.invariant.fits in
    record {
      before = omega arith;
      within = omega arith;
      fits = fewer_left base l.left (l.start - 1 - 1) (l.start - 1) (omega arith) (omega arith) l.invariant.fits;
      written =
          rw (back, drop-set l.room l.start c.digit_byte.result within, c.digit_byte.ensures)
          (next_written (l.start - 1 + 43) (l.start + 43) base l.left (drop (l.start + 1) l.room) (omega arith) c.requires.low c.loop-left-test.true ∙ l.invariant.written);
    }

pub returns-clause-written : goal.returns-clause-written
returns-clause-written c =
    let l = c.loop-left in
    let within : l.start < length l.room = search rules in
    rw (drop-set l.room l.start c.digit_byte-2.result within, c.digit_byte-2.ensures)
    (sym (first_written (l.start + 42) (l.start + 43) c.args.base l.left (drop (l.start + 1) l.room) (omega arith) c.loop-left-test.false) ∙ l.invariant.written)
