-- The places are those of the word.
use Rattle.std.proofs.Common.{List, subst}
use Rattle.std.specs.Prelude.{All, OnOk}
use Rattle.jh_history.specs.declared.place.Place.{Place}
use Rattle.jh_board.specs.Pages.{HoldsPlace}
use Rattle.jh_board.proofs.memory.Memory.hold_endpoint_word.Goals as goal

pub returns-clause-held : goal.returns-clause-held
returns-clause-held c =
    let P : List Place → Type 0 = λ places. OnOk c.hold_places.result (All (HoldsPlace c.hold_places.new.self) places) in
    subst P c.endpoint_word_places.ensures c.hold_places.ensures.held
