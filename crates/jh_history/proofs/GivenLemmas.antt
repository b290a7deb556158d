-- Which CPUs a caller may give away, by those that are root's.
use Rattle.std.proofs.Common.{◌≡◌, ℕ, ◌==◌, ◌&&◌, not, Bool, true, false, ap, refl, ◌∙◌}
use Rattle.jh_num.specs.Bits.{has_bit}
use Rattle.jh_script.specs.declared.image.Image.{Image}
use Rattle.jh_history.specs.Facts.{Facts}
use Rattle.jh_history.specs.Lives.{is_on_board}
use Rattle.jh_history.specs.Phases.{may_give}

-- the order of what makes a CPU one that may be given away
given_so : (on own other : Bool) → ((on && own) && other) ≡ (on && other && own)
given_so true true true = refl
given_so true true false = refl
given_so true false true = refl
given_so true false false = refl
given_so false own other = refl

pub given_of_root : (image : Image) (f : Facts) (mask caller : ℕ) → ((k : ℕ) → has_bit mask k ≡ (is_on_board image k && ((f.cpu k).owner == image.system.root.id)))
    → (k : ℕ) → (has_bit mask k && not (k == caller)) ≡ may_give image f caller k
given_of_root image f mask caller owned k = ap (λ (b : Bool). b && not (k == caller)) (owned k) ∙ given_so (is_on_board image k) ((f.cpu k).owner == image.system.root.id) (not (k == caller))
