-- Invalid goes before busy, and a cell that is neither is clean.
use Rattle.std.proofs.Common.{◌≡◌, ◌+◌, true, false, length, sym, ◌∙◌, arith}
use Rattle.jh_check.proofs.VerdictLemmas.{verdict_from, verdict_invalid}
use Rattle.jh_check.proofs.verdict.verdict_of.Goals as goal

pub returns-then-branch : goal.returns-then-branch
returns-then-branch c =
    let n : c.count-number.result ≡ length c.args.live.now + 1 = omega (arith, c.count-number.ensures) in
    verdict_invalid c.args.system.now c.args.live.now c.args.new.now c.count-number.result n (sym c.if-branch.true ∙ c.in_ok-is_invalid.ensures)

pub returns-then-branch-2 : goal.returns-then-branch-2
returns-then-branch-2 c =
    let n : c.count-number.result ≡ length c.args.live.now + 1 = omega (arith, c.count-number.ensures) in
    verdict_from c.args.system.now c.args.live.now c.args.new.now c.count-number.result false true n (sym c.if-branch.false ∙ c.in_ok-is_invalid.ensures) (sym c.if-branch-2.true ∙ c.in_ok-is_busy.ensures)

pub returns-else-branch-2 : goal.returns-else-branch-2
returns-else-branch-2 c =
    let n : c.count-number.result ≡ length c.args.live.now + 1 = omega (arith, c.count-number.ensures) in
    verdict_from c.args.system.now c.args.live.now c.args.new.now c.count-number.result false false n (sym c.if-branch.false ∙ c.in_ok-is_invalid.ensures) (sym c.if-branch-2.false ∙ c.in_ok-is_busy.ensures)
