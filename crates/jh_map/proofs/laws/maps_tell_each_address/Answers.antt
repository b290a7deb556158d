-- What is told is granted, since a run's addresses are; what is granted is told.
use Rattle.jh_map.proofs.AlikeLemmas.{leads_behind, single}
use Rattle.jh_map.proofs.laws.maps_tell_each_address.Goals as goal

pub returns-clause-each : goal.returns-clause-each
returns-clause-each c = λ map region at held. (map.is.whole region at held, λ told. told.of.each at told.has)

pub returns-clause-place : goal.returns-clause-place
returns-clause-place c = leads_behind

pub returns-clause-single : goal.returns-clause-single
returns-clause-single c = λ map one other at. single map.closed map.regions map.runs one other at map.is
