-- Those below the index are changed, the keys are those of the endpoints, and the room stays.
use Rattle.std.proofs.Common.{◌≡◌, vec_capacity}
use Rattle.jh_ivshmem.proofs.LoopLemmas.{Changes}
use Rattle.jh_ivshmem.proofs.endpoints.change_each.Given as goal

abbrev pub invariant-loop-i : goal.invariant-loop-i
invariant-loop-i l = Changes l.whom l.change l.initial.endpoints.items l.endpoints.items l.keys.items l.i
    × (vec_capacity l.endpoints ≡ vec_capacity l.initial.endpoints) × (vec_capacity l.keys ≡ vec_capacity l.initial.keys)
