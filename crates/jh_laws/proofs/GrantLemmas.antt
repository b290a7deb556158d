-- What accesses by root reach, by what it is granted.
use Rattle.std.proofs.Common.{◌≡◌, ℕ, ◌+◌, ◌-◌, ◌≤◌, Bool, cond, ap, ◌∙◌, arith}
use Rattle.jh_cellcfg.proofs.Public.{has_address_from}
use Rattle.jh_script.specs.declared.image.Image.{Image}
use Rattle.jh_history.specs.declared.place.Place.{Place}
use Rattle.jh_history.specs.declared.place.Place.TheVariants.{Physical, Page}
use Rattle.jh_history.specs.declared.access.Access.{Access}
use Rattle.jh_history.specs.Grants.{granted}
use Rattle.jh_history.specs.Admitted.{IsAdmitted}
use Rattle.jh_laws.specs.Grants.{IsGiven}
use Rattle.jh_laws.proofs.RootLemmas.{root_region}

-- root's places are its addresses
pub granted_same : (image : Image) (access : Access) (at : ℕ) (place : Place) → IsAdmitted image → IsGiven image.system.root access at place → place ≡ Physical at
granted_same image access at place admitted granted =
    let r = granted.region in
    let own = root_region image r at admitted granted.among (has_address_from r at granted.first granted.last) in
    let first : r.virt_start ≤ at = granted.first in
    let identity : r.phys_start ≡ r.virt_start = own.identity in
    let same : r.phys_start + (at - r.virt_start) ≡ at = omega arith in
    granted.given ∙ ap (λ (b : Bool). cond b (Page image.system.root.id (at - r.virt_start)) (Physical (r.phys_start + (at - r.virt_start)))) own.memory ∙ ap Physical same
