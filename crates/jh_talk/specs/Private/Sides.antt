-- What is known of a side's addresses, and of messages.
use Rattle.std.specs.Prelude.{◌≤◌, ◌<◌, ◌+◌, ◌^◌, ℕ, List, All}
use Rattle.jh_num.specs.declared.address.TheConstants.{ADDRESS_END}
use Rattle.jh_cellcfg.specs.declared.config.CellConfig.{CellConfig}
use Rattle.jh_cellcfg.specs.declared.config.SystemConfig.{SystemConfig}
use Rattle.jh_talk.specs.declared.side.Side.{Side}
use Rattle.jh_talk.specs.declared.talk.Talk.{Talk}
use Rattle.jh_talk.specs.Images.{leader_side, follower_side}
use Rattle.jh_talk.specs.Programs.{state_address}

-- the function ends within the addresses, the windows within 32 bits, and what rings the peer has 32 bits
pub record HasRoom (side : Side) : Type 0 where
  pub function : side.function + 4096 ≤ ADDRESS_END
  pub window : side.window + 0x2000 ≤ 2 ^ 32
  pub ring : side.ring < 2 ^ 32

-- each of the numbers has 64 bits
abbrev pub AreNumbers : List ℕ → Type 0
AreNumbers numbers = All (λ (n : ℕ). n < 2 ^ 64) numbers

-- what both sides and the leader's wait need
pub record HasAddresses (system : SystemConfig) (cell : CellConfig) (talk : Talk) : Type 0 where
  pub leader : HasRoom (leader_side system talk)
  pub follower : HasRoom (follower_side system cell talk)
  pub state : state_address system.root talk.pair.device talk.pair.other < 2 ^ 64
