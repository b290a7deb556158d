-- At most one region of a cell gives an address.
use Rattle.jh_laws.specs.Moments.{facts_of}
use Rattle.jh_laws.proofs.HeldLemmas.{granted_to, to_granted_holds}
use Rattle.jh_history.proofs.Public.{legal_sound}
use Rattle.jh_laws.proofs.held.cells_are_granted_their_places.Goals as goal

pub returns : goal.returns
returns c = λ j id access at place.
    let sound = legal_sound j.image j.form j.entries j.admitted j.legal in
    (to_granted_holds j.image (facts_of j) id access at place sound.cells, granted_to j.image (facts_of j) id access at place sound.cells)
