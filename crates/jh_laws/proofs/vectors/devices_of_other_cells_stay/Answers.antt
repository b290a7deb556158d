-- By what each entry does to an endpoint.
use Rattle.jh_laws.proofs.VectorLemmas.{other_stays}
use Rattle.jh_laws.proofs.vectors.devices_of_other_cells_stay.Goals as goal

pub returns : goal.returns
returns c = λ m e stays. other_stays m.image m.form m.before m.rest m.entry e m.admitted m.legal stays.there stays.other stays.stays
