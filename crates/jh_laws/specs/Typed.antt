-- The numbers that entries tell beyond the operations of programs, and what an image must keep to for them.
use Rattle.std.specs.Prelude.{◌^◌, ◌<◌, All, FitsSigned, IfSome}
use Rattle.std.specs.Int.{w64}
use Rattle.jh_script.specs.declared.image.Image.{Image}
use Rattle.jh_script.specs.declared.image.Preload.{Preload}
use Rattle.jh_history.specs.declared.entry.Act.{Act}
use Rattle.jh_history.specs.declared.entry.Act.TheVariants.{Read, Fetch, Irq, Hvc, Decide, Note, Noted, Finish}
use Rattle.jh_history.specs.Sound.{AreBytes}

-- root's id has 32 bits, and preloads put bytes: so it is of each image that code can hold
pub record IsTypedImage (image : Image) : Type 0 where
  pub root : image.system.root.id < 2 ^ 32
  pub bytes : All (λ (p : Preload). AreBytes p.bytes) image.preloads

-- a value that was read has as many bytes as the access, and an instruction four; the number of a device and the id of a
-- cell have 32 bits, and that of a vector eight; an answer is a number of 64 bits with a sign
abbrev pub HasTypedAct : Act → Type 0
HasTypedAct (Read width at got) = IfSome got (λ value. value < 256 ^ width)
HasTypedAct (Fetch at got) = IfSome got (λ value. value < 2 ^ 32)
HasTypedAct (Irq device vector) = (device < 2 ^ 32) × (vector < 256)
HasTypedAct (Hvc code a b answer) = FitsSigned w64 answer
HasTypedAct (Decide refused) = IfSome refused (FitsSigned w64)
HasTypedAct (Note id) = id < 2 ^ 32
HasTypedAct (Noted id how) = id < 2 ^ 32
HasTypedAct (Finish answer) = FitsSigned w64 answer
HasTypedAct _ = Unit {0}
