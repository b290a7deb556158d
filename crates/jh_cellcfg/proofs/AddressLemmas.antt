-- The addresses of a region, and regions of which no two have one together.
use Rattle.std.proofs.Common.{◌≡◌, ◌<◌, ◌≤◌, ◌∙◌, ap, sym, ⊎_elim, ℕ, true, List, get_or, Contains, arith}
use Rattle.std.specs.Prelude.{AllPairs}
use Rattle.std.proofs.lemmas.Bool.{cases_order}
use Rattle.std.proofs.lemmas.Bool.Decides.{nat_tests}
use Rattle.std.proofs.lemmas.List.{get_or_default}
use Rattle.jh_cellcfg.specs.declared.region.Region.{Region}
use Rattle.jh_cellcfg.specs.Regions.{has_address, virt_end, SharesNoAddress}

-- the address is one of the region's
pub has_address_first : (r : Region) (at : ℕ) → has_address r at ≡ true → r.virt_start ≤ at
has_address_first r at h = grind (arith, nat_tests)

pub has_address_last : (r : Region) (at : ℕ) → has_address r at ≡ true → at < virt_end r
has_address_last r at h = grind (arith, nat_tests)

pub has_address_from : (r : Region) (at : ℕ) → r.virt_start ≤ at → at < virt_end r → has_address r at ≡ true
has_address_from r at first last = grind (arith, nat_tests)

-- a region that has an address isn't empty
pub has_some : (r : Region) (at : ℕ) → has_address r at ≡ true → 0 < r.size
has_some r at h = let first = has_address_first r at h in let last = has_address_last r at h in omega arith

-- two regions with an address in common are one
pub same_region : (xs : List Region) (x y : Region) (at : ℕ) → AllPairs SharesNoAddress xs → Contains xs x → Contains xs y → has_address x at ≡ true → has_address y at ≡ true → x ≡ y
same_region xs x y at disjoint cx cy hx hy =
    let i = cx.0 in
    let j = cy.0 in
    let ex : get_or xs i x ≡ x = cx.2 in
    let ey : get_or xs j x ≡ y = get_or_default xs j x y cy.1 ∙ cy.2 in
    ⊎_elim
    (λ same. sym ex ∙ ap (λ n. get_or xs n x) same ∙ ey)
    (λ differ. ⊎_elim
    (λ less. absurd (disjoint i j x less cy.1 at (rw ex hx) (rw ey hy)))
    (λ more. absurd (disjoint j i x more cx.1 at (rw ey hy) (rw ex hx)))
    differ)
    (cases_order i j)

-- a region of no address
abbrev pub no_region : Region
no_region = record { phys_start = 0; virt_start = 0; size = 0; flags = 0 }
