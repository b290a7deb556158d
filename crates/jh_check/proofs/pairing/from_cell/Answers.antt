-- The cells come in turn, each with its own envelopes; that of the own number is the one itself.
use Rattle.std.proofs.Common.{◌≡◌, ◌<◌, ◌++◌, length, get_or, refl, sym, ap, subst, ◌∙◌, arith}
use Rattle.std.proofs.lemmas.List.{get_or_default}
use Rattle.jh_check.specs.Private.Cells.{cells_of}
use Rattle.jh_check.specs.Private.Envelopes.{AreOf}
use Rattle.jh_check.specs.Lists.{capped}
use Rattle.jh_check.specs.Findings.{between, from_cell}
use Rattle.jh_check.proofs.ListLemmas.{found_step, found_done}
use Rattle.jh_check.proofs.pairing.from_cell.Goals as goal

pub loop-b-init : goal.loop-b-init
unfolding from_cell
loop-b-init c = refl

pub loop-b-preserved : goal.loop-b-preserved
loop-b-preserved c =
    let found = between c.args.rule c.args.a c.cell-one.result.now in
    let all = cells_of c.args.setup.now in
    let v = c.cell.ensures in
    let h : c.loop-b.b < length all = omega arith in
    let a = c.in_ok-join.ensures in
    let e : capped c.join.new.found ≡ capped (c.loop-b.found ++ found c.loop-b.b (get_or all c.loop-b.b c.cell.result.now)) = cc in
    found_step found all c.loop-b.b c.cell.result.now c.loop-b.found c.join.new.found _ h e c.loop-b.invariant

pub returns : goal.returns
returns c = λ d.
    let all = cells_of c.args.setup.now in
    let one = c.cell-one.result.now in
    let is : one ≡ get_or all c.args.a d = c.cell-one.ensures ∙ get_or_default all c.args.a one d c.requires.among in
    found_done (between c.args.rule c.args.a one) all c.loop-b.b c.loop-b.found _ (omega arith) c.loop-b.invariant
    ∙ ap (λ cell. capped (c.args.found.now ++ from_cell c.args.rule all c.args.a cell)) is

pub join-requires-clause-pair : goal.join-requires-clause-pair
join-requires-clause-pair c =
    let all = cells_of c.args.setup.now in
    let one = c.cell-one.result.now in
    let b = c.loop-b.b in
    let each = c.args.each.now in
    let v = c.cell.ensures in
    let h : b < length all = omega arith in
    let k : AreOf c.args.rule b (get_or all b c.cell.result.now) (get_or each b c.index-each-b.result) = c.requires.each b c.index-each-b.result c.cell.result.now h in
    record {
      envelopes = subst (λ x. AreOf c.args.rule b c.cell.result.now x) (sym c.index-each-b.is) (subst (λ x. AreOf c.args.rule b x (get_or each b c.index-each-b.result)) (sym v) k);
      same = λ e. c.cell-one.ensures ∙ ap (λ k. get_or all k one) e ∙ get_or_default all b one c.cell.result.now h ∙ sym v;
    }
