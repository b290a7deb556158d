-- The addresses of a talk are small: its function ends within the addresses, its windows within 32 bits.
use Rattle.std.proofs.Common.{◌≡◌, ◌+◌, ◌*◌, ◌^◌, ◌<◌, ◌≤◌, true, ◌&&◌, not, nat_le, [], ◌∷◌, Option, Some, None, refl, ap, arith}
use Rattle.std.proofs.lemmas.Bool.{and_parts, leb-true, true_from_ne_false}
use Rattle.jh_num.specs.declared.address.TheConstants.{ADDRESS_END}
use Rattle.jh_cellcfg.specs.declared.region.Region.{Region}
use Rattle.jh_cellcfg.specs.declared.config.CellConfig.{CellConfig}
use Rattle.jh_cellcfg.specs.declared.config.PciDevice.{PciDevice}
use Rattle.jh_cellcfg.specs.declared.config.SystemConfig.{SystemConfig}
use Rattle.jh_check.specs.Clean.{IsClean, IsGoodDevice}
use Rattle.jh_history.specs.Behind.{ecam_end}
use Rattle.jh_history.specs.Devices.{section_at, address_of_section}
use Rattle.jh_talk.specs.declared.talk.Talk.{Talk}
use Rattle.jh_talk.specs.declared.fault.TalkFault.TheVariants.{Ecam}
use Rattle.jh_talk.specs.Functions.{function_start, has_ecam, has_function, is_in_ecam}
use Rattle.jh_talk.specs.Addresses.{is_met}
use Rattle.jh_talk.specs.Images.{IsTalk}
use Rattle.jh_talk.specs.Private.Sides.{HasAddresses}
use Rattle.jh_talk.proofs.JoinLemmas.{clean_of, talks_shmem}

-- ---- the function

pub function_there : (system : SystemConfig) (cell : CellConfig) (talk : Talk) → IsTalk system cell talk → has_function system cell talk.pair.device ≡ true
function_there system cell talk is =
    true_from_ne_false (has_function system cell talk.pair.device) (λ no. is.faultless Ecam (omega arith) (record { pair = talk.pair; first = is.pair; lacking = no }))

function_ends : (system : SystemConfig) (cell : CellConfig) (device : PciDevice) → has_function system cell device ≡ true → function_start system device + 4096 ≤ ADDRESS_END
function_ends system cell device has =
    let first = function_start system device in
    let inside = is_in_ecam system first 4096 in
    let root_clear = not (is_met system.root.memory_regions first 4096) in
    let cell_clear = not (is_met cell.memory_regions first 4096) in
    let p = and_parts (has_ecam system) ((inside && root_clear) && cell_clear) has in
    let q = and_parts (inside && root_clear) cell_clear p.1 in
    let r = and_parts inside root_clear q.0 in
    let s = and_parts (nat_le (first + 4096) (ecam_end system)) (nat_le (first + 4096) ADDRESS_END) r.0 in
    leb-true (first + 4096) ADDRESS_END s.1

-- ---- devices

pub root_device : (system : SystemConfig) (cell : CellConfig) (talk : Talk) → IsClean system (cell ∷ []) → IsTalk system cell talk → IsGoodDevice system.root talk.pair.device
root_device system cell talk clean is =
    clean.devices 0 system.root refl talk.pair.number talk.pair.device is.pair.is.own (talks_shmem talk.pair.number talk.pair.device is.pair.is.own_talks)

pub cell_device : (system : SystemConfig) (cell : CellConfig) (talk : Talk) → IsClean system (cell ∷ []) → IsTalk system cell talk → IsGoodDevice cell talk.pair.other
cell_device system cell talk clean is =
    clean.devices 1 cell refl talk.pair.other_number talk.pair.other is.pair.is.other (talks_shmem talk.pair.other_number talk.pair.other is.pair.is.other_talks)

ring_small : (config : CellConfig) (device : PciDevice) → IsGoodDevice config device → device.shmem_dev_id * 65536 + 1 < 2 ^ 32
ring_small config device good = let own = good.own in let few = good.few in omega arith

-- ---- the state table

address_small : (o : Option Region) → ((x : Region) → o ≡ Some x → x.virt_start ≤ ADDRESS_END) → address_of_section o ≤ ADDRESS_END
address_small None small = omega arith
address_small (Some x) small = small x refl

table_low : (system : SystemConfig) (cell : CellConfig) (talk : Talk) → IsClean system (cell ∷ []) → IsTalk system cell talk → (x : Region) → section_at system.root talk.pair.device 0 ≡ Some x → x.virt_start ≤ ADDRESS_END
table_low system cell talk clean is x at =
    let good = root_device system cell talk clean is in
    let table = good.table x (record { number = omega arith; item = at }) in
    let some = table.some in
    let range = clean.within 0 system.root refl (talk.pair.device.shmem_regions_start + 0) x at (omega arith) in
    let ends = range.virt in
    omega arith

-- ---- all of them

pub addresses_of : (system : SystemConfig) (cell : CellConfig) (talk : Talk) → IsTalk system cell talk → HasAddresses system cell talk
addresses_of system cell talk is =
    let clean = clean_of system cell 9 (omega arith) is.faultless in
    let ends = function_ends system cell talk.pair.device (function_there system cell talk is) in
    let same : function_start system talk.pair.device ≡ function_start system talk.pair.other = ap (λ n. system.platform.pci_mmconfig_base + n * 4096) is.pair.is.linked in
    let low = address_small (section_at system.root talk.pair.device 0) (table_low system cell talk clean is) in
    let own = (cell_device system cell talk clean is).own in
    let few = (cell_device system cell talk clean is).few in
    record {
      leader = record { function = ends; window = is.window.is.below; ring = ring_small cell talk.pair.other (cell_device system cell talk clean is) };
      follower = record { function = omega arith; window = is.other_window.is.below; ring = ring_small system.root talk.pair.device (root_device system cell talk clean is) };
      state = omega arith;
    }
