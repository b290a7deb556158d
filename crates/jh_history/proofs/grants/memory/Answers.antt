-- Memory where each byte has a place.
use Rattle.std.proofs.Common.{◌<◌, ◌+◌, inl, inr, sym, ◌∙◌, arith}
use Rattle.std.proofs.lemmas.Bool.{cases_lt, false≢true}
use Rattle.jh_num.specs.declared.address.TheConstants.{ADDRESS_END}
use Rattle.jh_history.specs.Access.{place_of}
use Rattle.jh_history.proofs.AccessLemmas.{reach_by_beyond, reach_by_places}
use Rattle.jh_history.proofs.grants.memory.Goals as goal

pub places_of-requires-clause-within : goal.places_of-requires-clause-within
places_of-requires-clause-within g c =
    let fits = c.ends_within.ensures.0 c.if-not-ends_within.false in
    let e = c.from.ensures in
    omega arith

pub returns : goal.returns
returns g c =
    let fits = c.ends_within.ensures.0 c.if-not-ends_within.false in
    let e = c.from.ensures in
    reach_by_places (place_of c.args.cell (g.G.Grants.regions c.args.grants.now c.args.cell) c.args.wanted.now.access) c.args.wanted.now.at c.args.wanted.now.width c.places_of.result (omega arith) c.places_of.ensures

pub returns-then-not-ends_within : goal.returns-then-not-ends_within
returns-then-not-ends_within g c =
    let e = c.from.ensures in
    let beyond : ADDRESS_END < c.args.wanted.now.at + c.args.wanted.now.width = elim (cases_lt ADDRESS_END (c.args.wanted.now.at + c.args.wanted.now.width)) [
      | inl past ↦ past
      | inr within ↦ absurd (false≢true (sym c.if-not-ends_within.true ∙ c.ends_within.ensures.1 (omega arith)))
    ] in
    sym (reach_by_beyond (place_of c.args.cell (g.G.Grants.regions c.args.grants.now c.args.cell) c.args.wanted.now.access) c.args.wanted.now.at c.args.wanted.now.width beyond)
