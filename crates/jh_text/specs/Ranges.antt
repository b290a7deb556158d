-- Which entries a text may hold: those whose numbers are within their ranges.
use Rattle.std.specs.Prelude.{◌^◌, ◌<◌, IsTrue, IfSome, FitsSigned}
use Rattle.std.specs.Int.{w64}
pub use Rattle.jh_script.specs.Operations.{is_width}
use Rattle.jh_history.specs.declared.entry.Entry.{Entry}
use Rattle.jh_history.specs.declared.entry.Act.{Act}
use Rattle.jh_history.specs.declared.entry.Act.TheVariants.{Read, Write, Fetch, Await, Irq, Hvc, Begin, Stop, Decide, Settle, Commit, Note, Noted, Finish}

-- widths are 1, 2, 4 or 8; addresses, codes and arguments are below 2 ^ 64, ids and devices below 2 ^ 32, vectors below
-- 256; a value fits in the bytes of its access, an instruction in four; an answer is a number of 64 bits with a sign
abbrev pub IsReadableAct : Act → Type 0
IsReadableAct (Read width at got) = IsTrue (is_width width) × (at < 2 ^ 64) × IfSome got (λ value. value < 256 ^ width)
IsReadableAct (Write width at value ok) = IsTrue (is_width width) × (at < 2 ^ 64) × (value < 256 ^ width)
IsReadableAct (Fetch at got) = (at < 2 ^ 64) × IfSome got (λ value. value < 2 ^ 32)
IsReadableAct (Await width at value ok) = IsTrue (is_width width) × (at < 2 ^ 64) × (value < 256 ^ width)
IsReadableAct (Irq device vector) = (device < 2 ^ 32) × (vector < 256)
IsReadableAct (Hvc code a b answer) = (code < 2 ^ 64) × (a < 2 ^ 64) × (b < 2 ^ 64) × FitsSigned w64 answer
IsReadableAct (Begin code a b) = (code < 2 ^ 64) × (a < 2 ^ 64) × (b < 2 ^ 64)
IsReadableAct Stop = Unit {0}
IsReadableAct (Decide refused) = IfSome refused (FitsSigned w64)
IsReadableAct (Settle how) = Unit {0}
IsReadableAct Commit = Unit {0}
IsReadableAct (Note id) = id < 2 ^ 32
IsReadableAct (Noted id how) = id < 2 ^ 32
IsReadableAct (Finish answer) = FitsSigned w64 answer

-- the CPU is one of 16, the cell's id is below 2 ^ 32, and the act's numbers are within their ranges
pub record IsReadable (entry : Entry) : Type 0 where
  pub cpu : entry.cpu < 16
  pub cell : entry.cell < 2 ^ 32
  pub act : IsReadableAct entry.act

-- the numbers of an act are below the ends of their types
abbrev pub IsTypedAct : Act → Type 0
IsTypedAct (Read width at got) = (width < 256) × (at < 2 ^ 64) × IfSome got (λ value. value < 2 ^ 64)
IsTypedAct (Write width at value ok) = (width < 256) × (at < 2 ^ 64) × (value < 2 ^ 64)
IsTypedAct (Fetch at got) = (at < 2 ^ 64) × IfSome got (λ value. value < 2 ^ 64)
IsTypedAct (Await width at value ok) = (width < 256) × (at < 2 ^ 64) × (value < 2 ^ 64)
IsTypedAct (Irq device vector) = (device < 2 ^ 32) × (vector < 256)
IsTypedAct (Hvc code a b answer) = (code < 2 ^ 64) × (a < 2 ^ 64) × (b < 2 ^ 64) × FitsSigned w64 answer
IsTypedAct (Begin code a b) = (code < 2 ^ 64) × (a < 2 ^ 64) × (b < 2 ^ 64)
IsTypedAct Stop = Unit {0}
IsTypedAct (Decide refused) = IfSome refused (FitsSigned w64)
IsTypedAct (Settle how) = Unit {0}
IsTypedAct Commit = Unit {0}
IsTypedAct (Note id) = id < 2 ^ 32
IsTypedAct (Noted id how) = id < 2 ^ 32
IsTypedAct (Finish answer) = FitsSigned w64 answer

-- an entry as any value of its type is
pub record IsTyped (entry : Entry) : Type 0 where
  pub cpu : entry.cpu < 256
  pub cell : entry.cell < 2 ^ 32
  pub act : IsTypedAct entry.act
