-- A region that is no section of a device is the same section of no linked one.
use Rattle.std.proofs.Common.{◌≡◌, ℕ, ◌-◌, Bool, false, ◌&&◌, ◌==◌, List, [], ◌∷◌, refl}
use Rattle.std.specs.List.{list_any}
use Rattle.std.proofs.lemmas.Bool.{or_from, and_left, and_right}
use Rattle.jh_cellcfg.specs.declared.config.PciDevice.{PciDevice}
use Rattle.jh_check.specs.Devices.{are_linked, is_section, are_sections_of}

any_fails : {X : Type 0} (p : X → Bool) (xs : List X) → ((x : X) → p x ≡ false) → list_any p xs ≡ false
any_fails p [] h = refl
any_fails p (x ∷ xs) h = or_from (p x) (list_any p xs) (h x) (any_fails p xs h)

pub no_section : (item other_item : ℕ) (one : PciDevice) (others : List PciDevice) → is_section one item ≡ false → list_any (λ (e : PciDevice). are_sections_of item other_item one e) others ≡ false
no_section item other_item one others f =
    any_fails (λ (e : PciDevice). are_sections_of item other_item one e) others (λ e.
    let rest = is_section e other_item && ((item - one.shmem_regions_start) == (other_item - e.shmem_regions_start)) in
    and_right (are_linked one e) (is_section one item && rest) (and_left (is_section one item) rest f))
