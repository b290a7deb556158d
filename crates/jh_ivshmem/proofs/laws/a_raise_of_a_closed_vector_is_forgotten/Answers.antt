-- Each way of being closed makes one of the four parts fail that an open vector passes.
use Rattle.jh_ivshmem.proofs.LawLemmas.{closed_control, closed_count, closed_master, closed_enabled, closed_masked, closed_vector}
use Rattle.jh_ivshmem.proofs.laws.a_raise_of_a_closed_vector_is_forgotten.Goals as goal

pub returns-clause-control : goal.returns-clause-control
returns-clause-control c = closed_control

pub returns-clause-count : goal.returns-clause-count
returns-clause-count c = closed_count

pub returns-clause-bus_master : goal.returns-clause-bus_master
returns-clause-bus_master c = closed_master

pub returns-clause-enabled : goal.returns-clause-enabled
returns-clause-enabled c = closed_enabled

pub returns-clause-function_mask : goal.returns-clause-function_mask
returns-clause-function_mask c = closed_masked

pub returns-clause-mask : goal.returns-clause-mask
returns-clause-mask c = closed_vector
