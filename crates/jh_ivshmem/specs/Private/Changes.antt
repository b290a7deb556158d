-- A change of an endpoint, and which endpoints it means.
use Rattle.std.specs.Prelude.{Bool}
use Rattle.jh_ivshmem.specs.declared.change.EndpointChange.{EndpointChange}
use Rattle.jh_ivshmem.specs.declared.change.EndpointChange.TheVariants.{Raise, Write, State, Reset, Take}
use Rattle.jh_ivshmem.specs.declared.change.Whom.{Whom}
use Rattle.jh_ivshmem.specs.declared.change.Whom.TheVariants.{Device, Peer, Others}
use Rattle.jh_ivshmem.specs.declared.endpoint.Endpoint.{Endpoint}
use Rattle.jh_ivshmem.specs.declared.spec.EndpointSpec.{EndpointSpec}
use Rattle.jh_ivshmem.specs.Endpoint.{raised, taken, cleared}
use Rattle.jh_ivshmem.specs.Registers.{register_written}
use Rattle.jh_ivshmem.specs.Specs.{is_device, is_peer, is_other}

-- the endpoint is one of those that are meant: of a device, of the peer with a number on a link, or of the link's
-- others
abbrev pub is_meant : Whom → EndpointSpec → Bool
is_meant (Device cell device) spec = is_device cell device spec
is_meant (Peer bdf id) spec = is_peer bdf id spec
is_meant (Others bdf id) spec = is_other bdf id spec

-- the endpoint after the change
abbrev pub after : EndpointChange → Endpoint → Endpoint
after (Raise v) e = raised v e
after (Write bar at value) e = register_written bar at value e
after (State value) e = record e { state = value }
after Reset e = cleared e
after (Take v) e = taken v e
