-- Each fault is told where none before it holds.
use Rattle.std.proofs.Common.{ℕ, rules, subst, inl, inr}
use Rattle.jh_talk.specs.Functions.{obstacles}
use Rattle.jh_talk.specs.Places.{HasNoPlace, IsLeastPlace}
use Rattle.jh_talk.specs.Windows.{HasNoWindow, IsLeastWindow}
use Rattle.jh_talk.proofs.JoinLemmas.{below_place, below_all, sound_map}
use Rattle.jh_talk.proofs.spots.find_spots.Goals as goal

pub least_place-requires-clause-sound : goal.least_place-requires-clause-sound
least_place-requires-clause-sound c = sound_map c.args.system.now c.requires.system

pub returns-in_default-clause-fault : goal.returns-in_default-clause-fault
returns-in_default-clause-fault c =
    let none : HasNoWindow (obstacles c.args.system.now c.args.system.now.root) = search rules in
    record { holds = inl none; first = c.requires.faultless }

pub returns-in_default-least_window-clause-fault : goal.returns-in_default-least_window-clause-fault
returns-in_default-least_window-clause-fault c =
    let none : HasNoWindow (obstacles c.args.system.now c.args.cell.now) = search rules in
    record { holds = inr none; first = c.requires.faultless }

pub returns-in_default-least_place-clause-fault : goal.returns-in_default-least_place-clause-fault
returns-in_default-least_place-clause-fault c =
    let window : IsLeastWindow (obstacles c.args.system.now c.args.system.now.root) c.in-Some.window = search rules in
    let other : IsLeastWindow (obstacles c.args.system.now c.args.cell.now) c.in-Some-least_window.other_window = search rules in
    let none : HasNoPlace c.args.system.now.root c.args.size = search rules in
    let None : ℕ → Type 0 = λ n. HasNoPlace c.args.system.now.root n in
    record {
      holds = subst None c.requires.size none;
      first = below_place c.args.system.now c.args.cell.now c.in-Some.window c.in-Some-least_window.other_window c.requires.faultless window other;
    }

pub returns-clause-faultless : goal.returns-clause-faultless
returns-clause-faultless c =
    let window : IsLeastWindow (obstacles c.args.system.now c.args.system.now.root) c.in-Some.window = search rules in
    let other : IsLeastWindow (obstacles c.args.system.now c.args.cell.now) c.in-Some-least_window.other_window = search rules in
    let least : IsLeastPlace c.args.system.now.root c.args.size c.in-Some-least_place.place = search rules in
    let Least : ℕ → Type 0 = λ n. IsLeastPlace c.args.system.now.root n c.in-Some-least_place.place in
    below_all c.args.system.now c.args.cell.now c.in-Some.window c.in-Some-least_window.other_window c.requires.faultless window other (λ none. none c.in-Some-least_place.place (subst Least c.requires.size least).is)
