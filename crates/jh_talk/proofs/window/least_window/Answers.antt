-- What is met is passed by a page behind it; the first page at which nothing is met is the least.
use Rattle.std.proofs.Common.{◌≡◌, ◌<◌, ◌^◌, ◌∷◌, Some, None, rules, arith, sym, subst}
use Rattle.std.specs.Prelude.{MatchOption}
use Rattle.jh_cellcfg.specs.Regions.{virt_end}
use Rattle.jh_talk.specs.Windows.{HasNoWindow, IsLeastWindow}
use Rattle.jh_talk.specs.Private.Steps.{IsPageBehind}
use Rattle.jh_talk.proofs.WindowLemmas.{met_of, clear_where_none, ends_behind, still_least, none_behind, none_above}
use Rattle.jh_talk.proofs.window.least_window.Goals as goal

pub returns-in_default : goal.returns-in_default
returns-in_default c =
    let obstacles = c.args.ecam.now ∷ c.args.regions.now in
    let first = c.loop-first.first in
    let none : met_of obstacles first ≡ None = search rules in
    let before = c.loop-first.invariant in
    record {
      is = record { aligned = before.aligned; above = before.above; below = omega (arith, c.loop-first-test.true); clear = clear_where_none obstacles first none };
      least = before.least;
    }

pub returns-in_err-first : goal.returns-in_err-first
returns-in_err-first c =
    let obstacles = c.args.ecam.now ∷ c.args.regions.now in
    let met = c.in-Some.met.now in
    let is : met_of obstacles c.loop-first.first ≡ Some met = search rules in
    let past : 2 ^ 32 < virt_end met = search rules in
    let none : c.from_residual.result ≡ None = search rules in
    subst (λ o. MatchOption o (HasNoWindow obstacles) (IsLeastWindow obstacles)) (sym none)
    (none_behind obstacles c.loop-first.first met is past c.loop-first.invariant.least)

pub loop-first-smaller : goal.loop-first-smaller
loop-first-smaller c =
    let met = c.in-Some.met.now in
    let is : met_of (c.args.ecam.now ∷ c.args.regions.now) c.loop-first.first ≡ Some met = search rules in
    let page : IsPageBehind met c.in_ok-first.first = search rules in
    let behind = ends_behind (c.args.ecam.now ∷ c.args.regions.now) c.loop-first.first met is in
    omega (arith, page.behind, page.low, behind, c.loop-first.invariant.low)

pub loop-first-preserved : goal.loop-first-preserved
loop-first-preserved c =
    let obstacles = c.args.ecam.now ∷ c.args.regions.now in
    let first = c.loop-first.first in
    let met = c.in-Some.met.now in
    let is : met_of obstacles first ≡ Some met = search rules in
    let page : IsPageBehind met c.in_ok-first.first = search rules in
    let behind = ends_behind obstacles first met is in
    let before = c.loop-first.invariant in
    record {
      aligned = page.aligned;
      above = omega (arith, page.behind, behind, before.above);
      low = page.low;
      least = still_least obstacles first c.in_ok-first.first met is page before.least;
    }

pub returns : goal.returns
returns c =
    let obstacles = c.args.ecam.now ∷ c.args.regions.now in
    none_above obstacles c.loop-first.first (omega (arith, c.loop-first-test.false)) c.loop-first.invariant.least
