-- What cells in which nothing is found are granted lies beside the hypervisor's memory, but for the bytes of their own
-- communication page; and the cells that root's tables depend on are all that live.
use Rattle.std.proofs.Common.{◌≡◌, ℕ, suc, ◌+◌, ◌-◌, ◌%◌, ◌<◌, ◌≤◌, Bool, true, false, cond, List, [], ◌∷◌, ◌++◌, length, map, refl, sym, ap, subst, ◌∙◌, arith}
use Rattle.std.specs.Prelude.{Contains, nat_le, nat_lt}
use Rattle.std.proofs.lemmas.Bool.{and_parts, leb-true, ltb-true}
use Rattle.jh_num.specs.declared.address.TheConstants.{ADDRESS_END}
use Rattle.jh_num.specs.declared.rights.Rights.{Rights}
use Rattle.jh_num.proofs.Public.{Contains_head, Contains_tail, within_both}
use Rattle.jh_life.proofs.Public.{number_of}
use Rattle.jh_cellcfg.specs.declared.config.CellConfig.{CellConfig}
use Rattle.jh_cellcfg.specs.declared.config.SystemConfig.{SystemConfig}
use Rattle.jh_cellcfg.specs.declared.live.Live.{Live}
use Rattle.jh_cellcfg.specs.declared.region.Region.{Region}
use Rattle.jh_cellcfg.specs.Regions.{byte_in, has_address, has_place, is_comm, phys_end, place_in, virt_end}
use Rattle.jh_check.specs.Clean.{IsClean}
use Rattle.jh_frames.specs.Memory.{is_own}
use Rattle.std.proofs.lemmas.List.{append-nil, length-map}
use Rattle.std.proofs.lemmas.Nat.Bits.{bit_at_ones}
use Rattle.jh_num.specs.Bits.{has_bit}
use Rattle.jh_shape.specs.Claims.{Holder, held_from}
use Rattle.jh_shape.specs.Grants.{IsGranted}
use Rattle.jh_shape.specs.Lives.{configs_of, is_loadable_at}
use Rattle.jh_shape.specs.Shapes.{holder_of_live}
use Rattle.jh_shape.specs.Pages.{cell_claims, live_root_claims}
use Rattle.jh_edit.specs.declared.stage.Stage2.{Stage2}
use Rattle.jh_edit.specs.Forest.{with_comm, GrantsNothingOf}
use Rattle.jh_board.specs.Means.{IsInside}

-- ---- regions

-- the address is one of the region's
address_of : (region : Region) (at : ℕ) → has_address region at ≡ true → (region.virt_start ≤ at) × (at < region.virt_start + region.size)
address_of region at has =
    let both = and_parts (nat_le region.virt_start at) (nat_lt at (virt_end region)) has in
    (leb-true region.virt_start at both.0, ltb-true at (virt_end region) both.1)

-- the place that a region gives an address is one of its places
place_of : (region : Region) (at : ℕ) → has_address region at ≡ true → has_place region (place_in region at) ≡ true
place_of region at has =
    let address = address_of region at has in
    let above = address.0 in
    let below = address.1 in
    within_both region.phys_start (phys_end region) (place_in region at) (omega arith) (omega arith)

-- ---- the hypervisor's memory

-- a region that is no communication region leads beside it
pub plain_apart : (system : SystemConfig) (configs : List CellConfig) (config : CellConfig) (region : Region) (at : ℕ) → IsClean system configs → Contains (system.root ∷ configs) config → Contains config.memory_regions region → is_comm region ≡ false
    → has_address region at ≡ true → has_place system.platform.hypervisor_memory (place_in region at) ≡ true → ⊥
plain_apart system configs config region at clean cell listed plain has own =
    let a = number_of (system.root ∷ configs) config cell in
    let r = number_of config.memory_regions region listed in
    clean.hypervisor a.0 config a.1 r.0 region r.1 plain (place_in region at) (place_of region at has) own

-- so does each of root's, which has no communication region
pub root_apart : (system : SystemConfig) (lives : List Live) (base size : ℕ) → IsClean system (configs_of lives) → base ≡ system.platform.hypervisor_memory.phys_start → size ≤ system.platform.hypervisor_memory.size
    → GrantsNothingOf (live_root_claims system.root.memory_regions lives) base size
root_apart system lives base size clean begins ends = record {
  apart = λ at place rights device low granted above below.
      let region = granted.0 in
      let by = granted.1 in
      let address = address_of region at by.has in
      let first = address.0 in
      let last = address.1 in
      let r = number_of system.root.memory_regions region by.listed in
      let plain : is_comm region ≡ false = clean.no_comm r.0 region r.1 (omega arith) in
      let memory = system.platform.hypervisor_memory in
      let leads : place ≡ place_in region at = by.leads ∙ ap (λ b. cond b (0 + byte_in region at) (place_in region at)) plain in
      let inside : has_place memory place ≡ true = within_both memory.phys_start (phys_end memory) place (omega arith) (omega arith) in
      plain_apart system (configs_of lives) system.root region at clean (Contains_head system.root (configs_of lives)) by.listed plain by.has (subst (λ (p : ℕ). has_place memory p ≡ true) leads inside);
}

kept_by : (b : Bool) (system : SystemConfig) (configs : List CellConfig) (config : CellConfig) (region : Region) (comm at place : ℕ) → IsClean system configs → Contains configs config → Contains config.memory_regions region → is_comm region ≡ b → comm % 4096 ≡ 0
    → has_address region at ≡ true → place ≡ cond b (comm + byte_in region at) (place_in region at) → has_place system.platform.hypervisor_memory place ≡ true → place - place % 4096 ≡ comm
kept_by true system configs config region comm at place clean cell listed is aligned has leads own =
    let address = address_of region at has in
    let first = address.0 in
    let last = address.1 in
    let a = number_of configs config cell in
    let r = number_of config.memory_regions region listed in
    let page = clean.comms (suc a.0) config (omega arith) a.1 r.0 region r.1 (omega arith) is in
    let size : region.size ≡ 4096 = page.size in
    let lt : byte_in region at < 4096 = omega arith in
    omega arith
kept_by false system configs config region comm at place clean cell listed is aligned has leads own =
    let memory = system.platform.hypervisor_memory in
    absurd (plain_apart system configs config region at clean (Contains_tail system.root configs config cell) listed is has (subst (λ (p : ℕ). has_place memory p ≡ true) leads own))

-- what a cell is granted of it lies in its communication page
pub cell_kept : (system : SystemConfig) (configs : List CellConfig) (config : CellConfig) (stage : Stage2) (comm : ℕ) → IsClean system configs → Contains configs config → IsInside system stage → comm % 4096 ≡ 0
    → (at place : ℕ) (rights : Rights) (device : Bool) → at < ADDRESS_END → IsGranted (with_comm (cell_claims config) comm) at place rights device → is_own stage.frames.own place ≡ true → place - place % 4096 ≡ comm
cell_kept system configs config stage comm clean cell inside aligned at place rights device low granted own =
    let region = granted.0 in
    let by = granted.1 in
    let memory = system.platform.hypervisor_memory in
    let mine = stage.frames.own in
    let both = and_parts (nat_le mine.base place) (nat_lt place (mine.base + length mine.bytes)) own in
    let above = leb-true mine.base place both.0 in
    let below = ltb-true place (mine.base + length mine.bytes) both.1 in
    let begins : mine.base ≡ memory.phys_start = inside.base in
    let ends : length mine.bytes ≡ memory.size = inside.size in
    let there : has_place memory place ≡ true = within_both memory.phys_start (phys_end memory) place (omega arith) (omega arith) in
    kept_by (is_comm region) system configs config region comm at place clean cell by.listed refl aligned by.has by.leads there

-- ---- the cells that root's tables depend on

held_live : (index loadable : ℕ) (lives : List Live) → index + length lives ≤ 16 → ((i : ℕ) → has_bit loadable (index + i) ≡ is_loadable_at lives i) → held_from 65535 loadable index (configs_of lives) ≡ map holder_of_live lives
held_live index loadable [] few bits = refl
held_live index loadable (live ∷ rest) few bits =
    let set : has_bit 65535 index ≡ true = rw (bit_at_ones 16 index (omega arith)) refl in
    let at : index + 0 ≡ index = omega arith in
    let mark : has_bit loadable index ≡ live.loadable = ap (has_bit loadable) (sym at) ∙ bits 0 in
    let more = held_live (index + 1) loadable rest (omega arith) (λ i. let e : index + 1 + i ≡ index + suc i = omega arith in ap (has_bit loadable) e ∙ bits (suc i)) in
    rw (set, mark) (ap (λ (holders : List Holder). holder_of_live live ∷ holders) more)

-- a mask with all bits set makes each live cell a holder
pub all_held : (loadable : ℕ) (lives : List Live) (configs : List CellConfig) → configs ≡ configs_of lives → length configs ≤ 15 → ((i : ℕ) → has_bit loadable i ≡ is_loadable_at lives i) → held_from 65535 loadable 0 configs ++ [] ≡ map holder_of_live lives
all_held loadable lives configs is few bits =
    let len : length configs ≡ length lives = ap (λ (list : List CellConfig). length list) is ∙ length-map lives (λ (live : Live). live.config) in
    append-nil (held_from 65535 loadable 0 configs)
    ∙ ap (held_from 65535 loadable 0) is
    ∙ held_live 0 loadable lives (omega arith) (λ i. let e : 0 + i ≡ i = omega arith in ap (has_bit loadable) e ∙ bits i)
