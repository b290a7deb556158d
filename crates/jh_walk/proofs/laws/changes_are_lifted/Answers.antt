-- The one slot that leads to the page passes the change on, and all other slots stay.
use Rattle.std.proofs.Common.{◌≡◌, ◌+◌, arith}
use Rattle.jh_walk.specs.Pages.{counted_after, counted_before}
use Rattle.jh_walk.proofs.LiftLemmas.{count_same, count_moves}
use Rattle.jh_walk.proofs.laws.changes_are_lifted.Goals as goal

pub returns-clause-elsewhere : goal.returns-clause-elsewhere
returns-clause-elsewhere c = λ change none.
    count_same change.step change.weight change.before change.after change.page change.alike change.left change.state change.table change.aligned none

pub returns-clause-falls : goal.returns-clause-falls
returns-clause-falls c = λ change left there on fall.
    let here : counted_after change left there change.page + 1 ≡ counted_before change left there change.page + 0 = omega arith in
    let all : counted_after change change.left change.state change.table + 1 ≡ counted_before change change.left change.state change.table + 0 =
    count_moves change.step change.weight change.before change.after change.page left 1 0 there change.alike here change.left change.state change.table change.aligned on.once on.reached in
    omega arith

pub returns-clause-moves : goal.returns-clause-moves
returns-clause-moves c = λ change left there less more on moved.
    count_moves change.step change.weight change.before change.after change.page left less more there change.alike moved change.left change.state change.table change.aligned on.once on.reached
