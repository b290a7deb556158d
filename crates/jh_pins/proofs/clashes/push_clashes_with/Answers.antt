-- One cell more, and all of them.
use Rattle.std.proofs.Common.{◌≡◌, ℕ, ◌+◌, List, length, sym, subst, arith}
use Rattle.jh_pins.specs.declared.pin.Clash.{Clash}
use Rattle.jh_pins.specs.Claims.{Claim}
use Rattle.jh_pins.specs.Clashes.{AreClashesOf}
use Rattle.jh_pins.proofs.ClashLemmas.{Continues, begins, one_more, ends}
use Rattle.jh_pins.proofs.clashes.push_clashes_with.Goals as goal

pub loop-other-init : goal.loop-other-init
loop-other-init c = begins c.args.one.now c.args.others.now c.args.clashes.now.items

pub loop-other-preserved : goal.loop-other-preserved
loop-other-preserved c =
    let one = c.args.one.now in
    let others = c.args.others.now in
    let start = c.args.clashes.now.items in
    let made = c.in_ok-push_clashes_of.ensures in
    let now = made.0 in
    let P : Claim → Type 0 = λ other. AreClashesOf one other now in
    let Q : List Clash → Type 0 = λ clashes. Continues one others (c.loop-other.other-index + 1) start clashes in
    subst Q (sym made.2) (one_more one others c.loop-other.other-index c.other-item.result start c.loop-other.clashes.items now (omega arith) c.loop-other.invariant (subst P c.other-item.is made.1))

pub returns : goal.returns
returns c =
    let one = c.args.one.now in
    let others = c.args.others.now in
    let start = c.args.clashes.now.items in
    let clashes = c.loop-other.clashes.items in
    let all : c.loop-other.other-index ≡ length others = omega arith in
    let P : ℕ → Type 0 = λ n. Continues one others n start clashes in
    ends one others start clashes (subst P all c.loop-other.invariant)
