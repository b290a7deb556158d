-- By what the write reaches.
use Rattle.jh_laws.proofs.OwnDeviceLemmas.{puts_function, puts_control, puts_state, puts_vector, puts_nothing, others_stay}
use Rattle.jh_laws.proofs.devices.devices_do_what_their_cells_write.Goals as goal

pub returns-clause-function : goal.returns-clause-function
returns-clause-function c = λ m offset width value e puts. puts_function m offset width value e puts

pub returns-clause-control : goal.returns-clause-control
returns-clause-control c = λ m value e puts. puts_control m value e puts

pub returns-clause-state : goal.returns-clause-state
returns-clause-state c = λ m value e puts. puts_state m value e puts

pub returns-clause-vector : goal.returns-clause-vector
returns-clause-vector c = λ m offset value e puts within. puts_vector m offset value e puts within

pub returns-clause-rest : goal.returns-clause-rest
returns-clause-rest c = λ m bar offset value e puts takes. puts_nothing m bar offset value e puts takes

pub returns-clause-others : goal.returns-clause-others
returns-clause-others c = λ m none. others_stay m none
