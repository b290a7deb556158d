-- That some numbers of an image are below the ends of their types, as those of any image of the program are.
use Rattle.std.specs.Prelude.{◌^◌, ◌<◌, All}
use Rattle.jh_script.specs.declared.op.Op.{Op}
use Rattle.jh_script.specs.declared.op.Op.TheVariants.{Read, Write, Fetch, Await, Irq, Hvc}
use Rattle.jh_script.specs.declared.image.Image.{Image}
use Rattle.jh_script.specs.declared.image.Program.{Program}
use Rattle.jh_laws.specs.Typed.{IsTypedImage}

-- the address of the operation, or the code and the arguments of its hypercall, are below 2^64
abbrev pub IsTypedOp : Op → Type 0
IsTypedOp (Read width at) = at < 2 ^ 64
IsTypedOp (Write width at value) = at < 2 ^ 64
IsTypedOp (Fetch at) = at < 2 ^ 64
IsTypedOp (Await width at value) = at < 2 ^ 64
IsTypedOp Irq = Unit {0}
IsTypedOp (Hvc code a b) = (code < 2 ^ 64) × (a < 2 ^ 64) × (b < 2 ^ 64)

-- root's id and the bytes of the preloads are as their types have them, and so are the addresses and the hypercalls of
-- its programs' operations
pub record HasTypedNumbers (image : Image) : Type 0 where
  pub image_typed : IsTypedImage image
  pub ops : All (λ (p : Program). All IsTypedOp p.ops) image.programs
