-- No key so far tells of a pending vector of the cell.
use Rattle.std.proofs.Common.{◌≡◌, None, fold, take}
use Rattle.jh_ivshmem.specs.declared.key.Key.{Key}
use Rattle.jh_ivshmem.specs.Private.Keys.{pending_by}
use Rattle.jh_ivshmem.specs.Links.{earlier}
use Rattle.jh_ivshmem.proofs.endpoints.first_pending.Given as goal

abbrev pub invariant-loop-i : goal.invariant-loop-i
invariant-loop-i l = fold (λ best (key : Key). earlier best (pending_by l.cell key)) None (take l.i l.keys) ≡ None
