-- How a fault is written.
use Rattle.std.specs.Prelude.{ℕ, List, ◌++◌, codes}
use Rattle.std.specs.Fmt.{decimal}
use Rattle.jh_text.specs.declared.fault.JournalFault.{JournalFault}
use Rattle.jh_text.specs.declared.fault.JournalFault.TheVariants.{Line, TooLong, NoMemory}

-- the words for a fault of a journal's text
abbrev pub journal_fault_text : JournalFault → List ℕ
journal_fault_text (Line number) = codes "line " ++ decimal number
journal_fault_text TooLong = codes "journal too long"
journal_fault_text NoMemory = codes "want of memory"
