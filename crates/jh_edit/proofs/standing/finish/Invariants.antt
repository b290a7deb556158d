-- Each turn leaves one less, and the edit is alone again.
use Rattle.std.proofs.Common.{◌≡◌, length}
use Rattle.jh_shape.specs.Claims.{claims_of}
use Rattle.jh_shape.specs.Shapes.{want_of}
use Rattle.jh_edit.specs.Private.Standing.{IsAlone}
use Rattle.jh_edit.proofs.standing.finish.Given as goal

abbrev pub invariant-loop-edit : goal.invariant-loop-edit
invariant-loop-edit l =
    IsAlone (want_of (claims_of l.t)) l.edit l.f l.p l.c × (l.edit.table ≡ l.fn.edit.table) × (l.f.own.base ≡ l.fn.f.own.base) × (length l.f.own.bytes ≡ length l.fn.f.own.bytes) × (length l.c ≡ length l.fn.c) × (l.f.guest ≡ l.fn.f.guest)

abbrev pub decreases-loop-edit : goal.decreases-loop-edit
decreases-loop-edit l = l.edit.left
