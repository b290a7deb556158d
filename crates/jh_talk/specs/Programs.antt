-- What the two CPUs do: root's leads, and the cell's follows.
use Rattle.std.specs.Prelude.{◌+◌, ◌*◌, ℕ, zero, suc, List, [], ◌∷◌, ◌++◌, length, nat_lt, if◌then◌else◌, Option, Some, None, slice_get}
use Rattle.jh_cellcfg.specs.declared.config.CellConfig.{CellConfig}
use Rattle.jh_cellcfg.specs.declared.config.PciDevice.{PciDevice}
use Rattle.jh_cellcfg.specs.declared.config.SystemConfig.{SystemConfig}
use Rattle.jh_script.specs.declared.op.Op.{Op}
use Rattle.jh_script.specs.declared.op.Op.TheVariants.{Read, Write, Await, Irq, Hvc}
use Rattle.jh_history.specs.Devices.{section_at, address_of_section}
use Rattle.jh_talk.specs.declared.messages.Messages.{Messages}
use Rattle.jh_talk.specs.declared.side.Side.{Side}
use Rattle.jh_talk.specs.Functions.{function_start}

-- ---- what a side knows

-- the address of the output of that peer, as the cell of the device has it
abbrev pub output_address : CellConfig → PciDevice → ℕ → ℕ
output_address config device peer = address_of_section (section_at config device (2 + peer))

-- what rings the peer: its number in the upper 16 bits, and vector 1 in the lower ones
abbrev pub ring_of : PciDevice → ℕ
ring_of peer = peer.shmem_dev_id * 65536 + 1

-- the side of the cell with this device, which talks to the other one and puts its windows there
abbrev pub side_of : SystemConfig → CellConfig → PciDevice → PciDevice → ℕ → Side
side_of system config device other window = record {
  function = function_start system device;
  window = window;
  out = output_address config device device.shmem_dev_id;
  peer = output_address config device other.shmem_dev_id;
  ring = ring_of other;
}

-- the address of the peer's word in the state table
abbrev pub state_address : CellConfig → PciDevice → PciDevice → ℕ
state_address config device other = address_of_section (section_at config device 0) + 4 * other.shmem_dev_id

-- ---- setup

-- the windows are put, the device answers at them and may send interrupts, and vector 1 is open; vector 0 stays masked
abbrev pub setup_ops : Side → List Op
setup_ops side =
    Write 4 (side.function + 0x10) side.window ∷ Write 4 (side.function + 0x14) (side.window + 0x1000)
    ∷ Write 2 (side.function + 4) 0x6 ∷ Write 2 (side.function + 0x62) 0x8000
    ∷ Write 4 (side.window + 0x101c) 0x0 ∷ Write 4 (side.window + 8) 0x1 ∷ []

-- ---- rounds

-- the message is written over the side's own output, where there is one
abbrev pub tell_ops : Side → Option ℕ → List Op
tell_ops side None = []
tell_ops side (Some message) = Write 8 side.out message ∷ []

-- the message is read from the peer's output, where there is one
abbrev pub hear_ops : Side → Option ℕ → List Op
hear_ops side None = []
hear_ops side (Some message) = Read 8 side.peer ∷ []

-- the peer is rung
abbrev pub ring_op : Side → Op
ring_op side = Write 4 (side.window + 0xc) side.ring

-- one round of the leader: it tells and rings, waits to be rung, and hears
abbrev pub leader_round : Side → Messages → ℕ → List Op
leader_round side messages i =
    tell_ops side (slice_get messages.sends i) ++ (ring_op side ∷ Irq ∷ hear_ops side (slice_get messages.replies i))

-- one round of the follower: it waits to be rung, hears, tells and rings
abbrev pub follower_round : Side → Messages → ℕ → List Op
follower_round side messages i =
    Irq ∷ hear_ops side (slice_get messages.sends i) ++ (tell_ops side (slice_get messages.replies i) ++ ring_op side ∷ [])

-- so many rounds, from this one on
unfoldable pub rounds_from : (ℕ → List Op) → ℕ → ℕ → List Op
rounds_from round i zero = []
rounds_from round i (suc more) = round i ++ rounds_from round (i + 1) more

-- how many rounds there are: as many as the longer list has messages
abbrev pub round_count : Messages → ℕ
round_count messages =
    if nat_lt (length messages.sends) (length messages.replies) then length messages.replies else length messages.sends

-- ---- the programs

-- the cell whose configuration is at the place and which has the id is created and started, and the device set up; then
-- the peer's word in the state table tells that the peer is there
abbrev pub leader_start : Side → ℕ → ℕ → ℕ → List Op
leader_start side place id state = Hvc 1 place 0 ∷ Hvc 2 id 0 ∷ setup_ops side ++ Await 4 state 1 ∷ []

-- the device is set up, and its state tells so
abbrev pub follower_start : Side → List Op
follower_start side = setup_ops side ++ Write 4 (side.window + 0x10) 0x1 ∷ []

-- all of the leader's operations
unfoldable pub leader_ops : Side → ℕ → ℕ → ℕ → Messages → List Op
leader_ops side place id state messages =
    leader_start side place id state ++ rounds_from (leader_round side messages) 0 (round_count messages)

-- all of the follower's operations
unfoldable pub follower_ops : Side → Messages → List Op
follower_ops side messages = follower_start side ++ rounds_from (follower_round side messages) 0 (round_count messages)
