-- The port that has seen the end is the first of all.
use Rattle.std.proofs.Common.{◌≡◌, [], ◌∷◌, subst}
use mathlib.Core.List.{IsPrefix}
use Rattle.jh_turn.specs.Ports.{opened_value}
use Rattle.jh_run.specs.Running.{origin_of}
use Rattle.jh_run.proofs.PortLemmas.{some_shows_kept}
use Rattle.jh_run.proofs.workers.drive_at.Goals as goal

pub returns-clause-shows : goal.returns-clause-shows
returns-clause-shows g c =
    let first = c.see_end-port.result.0 in
    let all = c.gather.new.ports.items in
    let one : c.push_reserved.new.self.items ≡ first ∷ [] = rw c.in_ok-back.ensures.items at c.push_reserved.ensures.items in
    some_shows_kept (origin_of (opened_value c.args.shared.now)) c.see_end-port.result.1 (first ∷ []) all (subst (λ ports. IsPrefix ports all) one c.gather.ensures.kept) c.see_end-port.ensures.shows
