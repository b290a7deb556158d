-- There is one port, and so what it has seen tells the end.
use Rattle.std.proofs.Common.{◌≡◌, length, map, ap, ◌∙◌, sym}
use Rattle.std.proofs.lemmas.List.{length-map}
use Rattle.jh_turn.specs.Ports.{opened_value, port_caller}
use Rattle.jh_run.specs.Running.{origin_of}
use Rattle.jh_run.proofs.PortLemmas.{some_shows_one}
use Rattle.jh_run.proofs.workers.see_end.Goals as goal

pub returns-clause-shows : goal.returns-clause-shows
returns-clause-shows g c =
    let now = c.drive-refused.new.ports in
    let one : length now ≡ 1 = sym (length-map now port_caller) ∙ (ap length c.drive-refused.ensures.same.callers ∙ ap (λ ports. length (map port_caller ports)) c.from_mut.ensures.value) in
    some_shows_one (origin_of (opened_value c.args.shared.now)) c.drive-refused.result now c.args.post.port one c.drive-refused.ensures.shows
