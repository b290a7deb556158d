-- What is answered at once, by what is seen:
--
--   management by a cell besides root            -1
--   information 0, 1, 4                          the pool's pages, those used, the live cells with root
--   information of any other kind                -22
--   a state, asked by a cell besides root        -1
--   a state of an id that no live cell has       -2
--   the state of a live cell                     its word, at most 4, which is 0 for root; -22 where the
--                                                cell wrote another number there
--   a CPU that the board lacks                   -22
--   a CPU of another cell, asked by a cell besides root   -1
--   a CPU, of another kind than 0                -22
--   a failed CPU                                 2
--   another CPU                                  0
--   a call of the power interface by root        -38
--   off                                          0
--   on, or affinity, of a CPU that isn't the caller's cell's   -2
--   on, of a CPU that runs                       -4
--   on, of a failed CPU                          -3
--   on, of a parked CPU                          0
--   affinity at another level than 0             -2
--   affinity of a CPU that runs                  0
--   affinity of a parked or a failed CPU         1
--   an unknown call                              -38
use Rattle.std.specs.Prelude.{ℕ, ℤ, pos, Bool, true, ◌==◌, nat_le, if◌then◌else◌, Option, Some, None}
use Rattle.jh_num.specs.declared.error.TheConstants.{EPERM, ENOENT, EINVAL, ENOSYS}
use Rattle.jh_call.specs.declared.call.Call.{Call}
use Rattle.jh_call.specs.declared.call.Call.TheVariants.{Create, Start, Loadable, Destroy, Info, State, CpuInfo, CpuOff, CpuOn, Affinity, Unknown}
use Rattle.jh_call.specs.Calls.{is_management}
use Rattle.jh_call.specs.declared.answers.TheConstants.{SUCCESS, INVALID_PARAMETERS, DENIED, ALREADY_ON, AFFINITY_ON, AFFINITY_OFF}
use Rattle.jh_call.specs.declared.seen.Seen.{Seen}
use Rattle.jh_call.specs.declared.seen.CpuSeen.{CpuSeen}
use Rattle.jh_call.specs.declared.seen.CpuSeen.TheVariants.{Absent, Foreign, Fine, Failed}
use Rattle.jh_call.specs.declared.seen.PowerSeen.{PowerSeen}
use Rattle.jh_call.specs.declared.seen.PowerSeen.TheVariants.{Foreign as NotOwned, On, Off, Failed as IsDown}

-- root alone may make the call: it manages cells, or asks for a cell's state
abbrev pub is_roots : Call → Bool
is_roots (State id) = true
is_roots call = is_management call

-- what a request for information about the hypervisor is answered, by its kind
abbrev pub info_of : ℕ → Seen → ℤ
info_of kind seen =
    if kind == 0 then pos seen.size
    else (if kind == 1 then pos seen.used
    else (if kind == 4 then pos seen.cells
    else EINVAL))

-- what a request for the state of a cell is answered, by the cell's state word, if a live cell has the id
abbrev pub state_answer : Option ℕ → ℤ
state_answer None = ENOENT
state_answer (Some state) = if nat_le state 4 then pos state else EINVAL

-- what a request for information about a CPU is answered, by its kind and by what is seen of the CPU
abbrev pub cpu_answer : ℕ → CpuSeen → ℤ
cpu_answer kind Absent = EINVAL
cpu_answer kind Foreign = EPERM
cpu_answer kind Fine = if kind == 0 then pos 0 else EINVAL
cpu_answer kind Failed = if kind == 0 then pos 2 else EINVAL

-- what a request to switch a CPU on is answered, by what is seen of the CPU
abbrev pub on_answer : PowerSeen → ℤ
on_answer NotOwned = INVALID_PARAMETERS
on_answer On = ALREADY_ON
on_answer Off = SUCCESS
on_answer IsDown = DENIED

-- what a request whether a CPU is on is answered, by the level and by what is seen of the CPU
abbrev pub affinity_answer : ℕ → PowerSeen → ℤ
affinity_answer level NotOwned = INVALID_PARAMETERS
affinity_answer level On = if level == 0 then AFFINITY_ON else INVALID_PARAMETERS
affinity_answer level Off = if level == 0 then AFFINITY_OFF else INVALID_PARAMETERS
affinity_answer level IsDown = if level == 0 then AFFINITY_OFF else INVALID_PARAMETERS

-- what the call is answered at once, by what is seen; of calls that manage cells only those of cells besides root are
abbrev pub answer_of : Call → Seen → ℤ
answer_of (Create at) seen = EPERM
answer_of (Start id) seen = EPERM
answer_of (Loadable id) seen = EPERM
answer_of (Destroy id) seen = EPERM
answer_of (Info kind) seen = info_of kind seen
answer_of (State id) seen = if seen.root then state_answer seen.state else EPERM
answer_of (CpuInfo cpu kind) seen = cpu_answer kind seen.cpu
answer_of CpuOff seen = if seen.root then ENOSYS else SUCCESS
answer_of (CpuOn cpu) seen = if seen.root then ENOSYS else on_answer seen.power
answer_of (Affinity cpu level) seen = if seen.root then ENOSYS else affinity_answer level seen.power
answer_of Unknown seen = ENOSYS
