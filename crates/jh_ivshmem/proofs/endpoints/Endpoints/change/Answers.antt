-- A change keeps the numbers of endpoints and keys and the room of both, so it keeps the spare.
use Rattle.std.proofs.Common.{length, arith, ap}
use Rattle.std.proofs.lemmas.List.{length-map}
use Rattle.jh_ivshmem.specs.Private.Changes.{is_meant, after}
use Rattle.jh_ivshmem.specs.Specs.{is_device}
use Rattle.jh_ivshmem.specs.Keys.{key_of}
use Rattle.jh_ivshmem.specs.EndpointsView.{EndpointsView}
use Rattle.jh_ivshmem.proofs.endpoints.Endpoints.change.Goals as goal
use Rattle.jh_ivshmem.proofs.ApartLemmas.{changed_length}

pub returns-in-Device-clause-spare : goal.returns-in-Device-clause-spare
returns-in-Device-clause-spare c =
    omega (
      arith,
      ap (λ (seen : EndpointsView). seen.spare) c.self.view_is,
      c.change_one.ensures.room,
      c.change_one.ensures.key_room,
      ap length c.change_one.ensures.list,
      changed_length (is_device c.in-Device.cell c.in-Device.device) (after c.args.change) c.self.inside.endpoints.items,
      ap length c.self.invariant.keys,
      length-map c.self.inside.endpoints.items key_of,
      ap length c.change_one.ensures.kept.keys,
      length-map c.change_one.new.endpoints.items key_of,
      c.self.inside.endpoints.ok.0,
      c.self.inside.keys.ok.0,
      c.change_one.new.endpoints.ok.0,
      c.change_one.new.keys.ok.0,
    )

pub returns-in_default-clause-spare : goal.returns-in_default-clause-spare
returns-in_default-clause-spare c =
    omega (
      arith,
      ap (λ (seen : EndpointsView). seen.spare) c.self.view_is,
      c.change_each.ensures.room,
      c.change_each.ensures.key_room,
      ap length c.change_each.ensures.list,
      changed_length (is_meant c.args.whom) (after c.args.change) c.self.inside.endpoints.items,
      ap length c.self.invariant.keys,
      length-map c.self.inside.endpoints.items key_of,
      ap length c.change_each.ensures.kept.keys,
      length-map c.change_each.new.endpoints.items key_of,
      c.self.inside.endpoints.ok.0,
      c.self.inside.keys.ok.0,
      c.change_each.new.endpoints.ok.0,
      c.change_each.new.keys.ok.0,
    )
