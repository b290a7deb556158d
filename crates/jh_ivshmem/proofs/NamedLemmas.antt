-- The endpoint that is named by its cell and device.
use Rattle.std.proofs.Common.{ℕ, ◌≡◌, ◌==◌, true, List, Some, sym, ◌∙◌, subst, arith}
use Rattle.std.proofs.lemmas.Bool.{and_parts}
use Rattle.std.proofs.lemmas.Bool.Decides.{nat_tests}
use Rattle.std.proofs.lemmas.Option.{same_Some}
use Rattle.jh_num.proofs.Public.{IsFound_from_find}
use Rattle.jh_ivshmem.specs.declared.endpoint.Endpoint.{Endpoint}
use Rattle.jh_ivshmem.specs.Specs.{is_device}
use Rattle.jh_ivshmem.specs.Links.{endpoint_at}

-- what was found passes
pub passes : (cell device : ℕ) (list : List Endpoint) (e : Endpoint) → endpoint_at cell device list ≡ Some e
    → is_device cell device e.spec ≡ true
passes cell device list e h = (IsFound_from_find (λ (o : Endpoint). is_device cell device o.spec) list e h).passes

pub named_cell : (cell device : ℕ) (list : List Endpoint) (e : Endpoint) → endpoint_at cell device list ≡ Some e → e.spec.cell ≡ cell
named_cell cell device list e h =
    let t = (and_parts (e.spec.cell == cell) (e.spec.device == device) (passes cell device list e h)).0 in grind (arith, nat_tests)

pub named_device : (cell device : ℕ) (list : List Endpoint) (e : Endpoint) → endpoint_at cell device list ≡ Some e → e.spec.device ≡ device
named_device cell device list e h =
    let t = (and_parts (e.spec.cell == cell) (e.spec.device == device) (passes cell device list e h)).1 in grind (arith, nat_tests)

-- its own cell and device name it
pub by_own_name : (P : ℕ → ℕ → Type 0) (cell device : ℕ) (list : List Endpoint) (e : Endpoint)
    → endpoint_at cell device list ≡ Some e → P cell device → P e.spec.cell e.spec.device
by_own_name P cell device list e h p =
    subst (λ n. P e.spec.cell n) (sym (named_device cell device list e h))
    (subst (λ n. P n device) (sym (named_cell cell device list e h)) p)

pub same_found : (cell device : ℕ) (list : List Endpoint) (e o : Endpoint) → endpoint_at cell device list ≡ Some e
    → endpoint_at cell device list ≡ Some o → o ≡ e
same_found cell device list e o h g = same_Some o e (sym g ∙ h)
