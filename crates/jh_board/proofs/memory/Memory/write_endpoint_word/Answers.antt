-- The places are those of the word.
use Rattle.std.proofs.Common.{List, sym, subst}
use Rattle.std.specs.Prelude.{All}
use Rattle.jh_history.specs.declared.place.Place.{Place}
use Rattle.jh_board.specs.Pages.{HoldsPlace}
use Rattle.jh_board.proofs.memory.Memory.write_endpoint_word.Goals as goal

pub write_places-requires : goal.write_places-requires
write_places-requires c =
    let P : List Place → Type 0 = All (HoldsPlace c.args.self.now) in subst P (sym c.endpoint_word_places.ensures) c.requires.held
