-- Root's regions are mapped to themselves, and what another cell holds is closed.
use Rattle.jh_history.specs.declared.place.Place.TheVariants.{Physical}
use Rattle.jh_laws.specs.Moments.{facts_of}
use Rattle.jh_laws.proofs.HeldLemmas.{root_rest, rest_root, other_granted, granted_other}
use Rattle.jh_history.proofs.Public.{legal_sound}
use Rattle.jh_laws.proofs.held.root_is_granted_the_rest.Goals as goal

pub returns-clause-root : goal.returns-clause-root
returns-clause-root c = λ j access at.
    let sound = legal_sound j.image j.form j.entries j.admitted j.legal in (
      λ h. let r = root_rest j.image (facts_of j).cells access at (Physical at) sound.cells h in (r.0, r.1),
      λ h. rest_root j.image (facts_of j).cells access at sound.cells h.0 h.1,
    )

pub returns-clause-address : goal.returns-clause-address
returns-clause-address c = λ j access at place h. (root_rest j.image (facts_of j).cells access at place (legal_sound j.image j.form j.entries j.admitted j.legal).cells h).2

pub returns-clause-cells : goal.returns-clause-cells
returns-clause-cells c = λ j cell access at place held.
    let sound = legal_sound j.image j.form j.entries j.admitted j.legal in
    (granted_other j.image (facts_of j).cells cell access at place sound.cells held, other_granted j.image (facts_of j).cells cell access at place sound.cells held)
