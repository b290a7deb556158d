-- Each part is as it is to be.
use Rattle.std.proofs.Common.{◌≡◌, [], ◌∷◌, List, ℕ, ap, ◌∙◌}
use Rattle.jh_script.specs.declared.image.Preload.{Preload}
use Rattle.jh_talk.specs.Images.{image_of, talk_preload}
use Rattle.jh_talk.proofs.image.image_of.Goals as goal

pub returns : goal.returns
unfolding image_of
returns c =
    let put : List ℕ → List Preload = λ bytes. record { at = c.args.talk.now.place; bytes = bytes } ∷ [] in
    let preloads : c.in_ok-preloads.preloads ≡ talk_preload c.args.cell.now c.args.talk.now ∷ [] = c.in_ok-preloads.ensures ∙ ap put c.requires.bytes in
    λ i. record { system = c.in_ok-system.ensures i; preloads = preloads i; programs = c.in_ok-programs.ensures i }
