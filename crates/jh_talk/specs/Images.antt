-- The image on which a system and a cell talk.
use Rattle.std.specs.Prelude.{◌≡◌, [], ◌∷◌, length}
use Rattle.jh_cellcfg.specs.declared.config.CellConfig.{CellConfig}
use Rattle.jh_cellcfg.specs.declared.config.SystemConfig.{SystemConfig}
use Rattle.jh_cellcfg.specs.Cells.{name_of, is_cpu_set}
use Rattle.jh_cellcfg.specs.Spelling.{spelling}
use Rattle.jh_script.specs.declared.image.Image.{Image}
use Rattle.jh_script.specs.declared.image.Preload.{Preload}
use Rattle.jh_script.specs.declared.image.Program.{Program}
use Rattle.jh_talk.specs.declared.messages.Messages.{Messages}
use Rattle.jh_talk.specs.declared.side.Side.{Side}
use Rattle.jh_talk.specs.declared.talk.Talk.{Talk}
use Rattle.jh_talk.specs.Cpus.{IsLowest, is_left}
use Rattle.jh_talk.specs.Pairs.{IsFirstPair}
use Rattle.jh_talk.specs.Faults.{IsFaultlessBelow}
use Rattle.jh_talk.specs.Functions.{obstacles}
use Rattle.jh_talk.specs.Windows.{IsLeastWindow}
use Rattle.jh_talk.specs.Places.{IsLeastPlace}
use Rattle.jh_talk.specs.Programs.{side_of, state_address, leader_ops, follower_ops}

-- nothing speaks against it, and these are what the system and the cell talk by
pub record IsTalk (system : SystemConfig) (cell : CellConfig) (talk : Talk) : Type 0 where
  pub faultless : IsFaultlessBelow system cell 9
  pub leader : IsLowest (is_left system.root cell) talk.leader
  pub follower : IsLowest (is_cpu_set cell.cpu_set) talk.follower
  pub pair : IsFirstPair system.root cell talk.pair
  pub window : IsLeastWindow (obstacles system system.root) talk.window
  pub other_window : IsLeastWindow (obstacles system cell) talk.other_window
  pub place : IsLeastPlace system.root (length (spelling cell)) talk.place

-- the leader's side
abbrev pub leader_side : SystemConfig → Talk → Side
leader_side system talk = side_of system system.root talk.pair.device talk.pair.other talk.window

-- the follower's side
abbrev pub follower_side : SystemConfig → CellConfig → Talk → Side
follower_side system cell talk = side_of system cell talk.pair.other talk.pair.device talk.other_window

-- the leader's program
abbrev pub leader_program : SystemConfig → CellConfig → Messages → Talk → Program
leader_program system cell messages talk = record {
  cell = name_of system.root;
  cpu = talk.leader;
  ops = leader_ops (leader_side system talk) talk.place cell.id (state_address system.root talk.pair.device talk.pair.other) messages;
}

-- the follower's program
abbrev pub follower_program : SystemConfig → CellConfig → Messages → Talk → Program
follower_program system cell messages talk = record {
  cell = name_of cell;
  cpu = talk.follower;
  ops = follower_ops (follower_side system cell talk) messages;
}

-- the cell's configuration, put at its place
abbrev pub talk_preload : CellConfig → Talk → Preload
talk_preload cell talk = record { at = talk.place; bytes = spelling cell }

-- the image by which they talk
unfoldable pub image_of : SystemConfig → CellConfig → Messages → Talk → Image
image_of system cell messages talk = record {
  system = system;
  preloads = talk_preload cell talk ∷ [];
  programs = leader_program system cell messages talk ∷ follower_program system cell messages talk ∷ [];
}

-- the image is that on which the system and the cell tell each other the messages
pub record IsTalkImage (system : SystemConfig) (cell : CellConfig) (messages : Messages) (image : Image) : Type 0 where
  pub talk : Talk
  pub is_talk : IsTalk system cell talk
  pub is : image ≡ image_of system cell messages talk
