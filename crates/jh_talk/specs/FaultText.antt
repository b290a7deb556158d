-- The words for a fault.
use Rattle.std.specs.Prelude.{ℕ, List, ◌++◌, codes}
use Rattle.std.specs.Fmt.{decimal}
use Rattle.jh_talk.specs.declared.fault.MessagesFault.{MessagesFault}
use Rattle.jh_talk.specs.declared.fault.MessagesFault.TheVariants.{Line, TooLong, NoMemory}
use Rattle.jh_talk.specs.declared.fault.TalkFault.{TalkFault}
use Rattle.jh_talk.specs.declared.fault.TalkFault.TheVariants.{Cell, Cpu, Pool, Device, Section, Ecam, Window, Place, NoMemory as TalkNoMemory}

-- the words for a fault of a text of messages
abbrev pub messages_fault_text : MessagesFault → List ℕ
messages_fault_text (Line number) = codes "line " ++ (decimal number ++ codes ": syntax")
messages_fault_text TooLong = codes "messages too long"
messages_fault_text NoMemory = codes "want of memory"

-- the words for why a system and a cell can't talk
abbrev pub talk_fault_text : TalkFault → List ℕ
talk_fault_text Cell = codes "talk 1"
talk_fault_text Cpu = codes "talk 2"
talk_fault_text Pool = codes "talk 3"
talk_fault_text Device = codes "talk 4"
talk_fault_text Section = codes "talk 5"
talk_fault_text Ecam = codes "talk 6"
talk_fault_text Window = codes "talk 7"
talk_fault_text Place = codes "talk 8"
talk_fault_text TalkNoMemory = codes "want of memory"
