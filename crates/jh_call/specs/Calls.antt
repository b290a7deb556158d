-- Which hypercall the code and the two words ask for, by the codes of Jailhouse's `hypercall.h` and of Arm's power
-- interface:
--
--   1  create a cell; its configuration is at the address of the first word
--   2  start the cell with the id of the first word
--   3  set it loadable
--   4  destroy it
--   5  information of the kind of the first word about the hypervisor
--   6  the state of the cell with the id of the first word
--   7  information of the kind of the second word about the CPU of the first
--
--   0x84000002  switch the caller's CPU off
--   0xc4000003  switch the CPU of the first word on; the second would be its entry point, and is unused
--   0xc4000004  whether the CPU of the first word is on, at the level of the second
--
-- Codes and words are numbers of 64 bits. Every other code is unknown, 0 (disable) and 8 (console output)
-- too.
use Rattle.std.specs.Prelude.{ℕ, Bool, true, false, ◌==◌, if◌then◌else◌}
use Rattle.jh_call.specs.declared.call.TheConstants.{CPU_OFF, CPU_ON, AFFINITY_INFO}
use Rattle.jh_call.specs.declared.call.Call.{Call}
use Rattle.jh_call.specs.declared.call.Call.TheVariants.{Create, Start, Loadable, Destroy, Info, State, CpuInfo, CpuOff, CpuOn, Affinity, Unknown}

-- the call of the code and the two words
abbrev pub decoded : ℕ → ℕ → ℕ → Call
decoded code a b =
    if code == 1 then Create a
    else (if code == 2 then Start a
    else (if code == 3 then Loadable a
    else (if code == 4 then Destroy a
    else (if code == 5 then Info a
    else (if code == 6 then State a
    else (if code == 7 then CpuInfo a b
    else (if code == CPU_OFF then CpuOff
    else (if code == CPU_ON then CpuOn a
    else (if code == AFFINITY_INFO then Affinity a b
    else Unknown)))))))))

-- the call manages cells: it changes which cells there are or what they do, which root alone may do
abbrev pub is_management : Call → Bool
is_management (Create at) = true
is_management (Start id) = true
is_management (Loadable id) = true
is_management (Destroy id) = true
is_management (Info kind) = false
is_management (State id) = false
is_management (CpuInfo cpu kind) = false
is_management CpuOff = false
is_management (CpuOn cpu) = false
is_management (Affinity cpu level) = false
is_management Unknown = false

-- the call is one of the power interface, which cells besides root have
abbrev pub is_power : Call → Bool
is_power (Create at) = false
is_power (Start id) = false
is_power (Loadable id) = false
is_power (Destroy id) = false
is_power (Info kind) = false
is_power (State id) = false
is_power (CpuInfo cpu kind) = false
is_power CpuOff = true
is_power (CpuOn cpu) = true
is_power (Affinity cpu level) = true
is_power Unknown = false
