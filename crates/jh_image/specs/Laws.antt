-- What the laws of boards are about.
use Rattle.std.specs.Prelude.{◌≢◌, ℕ, List, None}
use Rattle.jh_image.specs.declared.fault.ImageCause.{ImageCause}
use Rattle.jh_image.specs.declared.fault.ImageCause.TheVariants.{ReadFault}
use Rattle.jh_image.specs.Files.{Contents}
use Rattle.jh_image.specs.Causes.{IsCauseOf}

-- the files tell of each name all the bytes that it holds, or that it is missing
abbrev pub AreKnown : Contents → Type 0
AreKnown contents = (name : List ℕ) → contents name ≢ None

-- the reading of the board stops, names this file, and has this cause, which is certain: it isn't that the file can't be
-- read, so what the files hold decides it
pub record IsCertainCause (contents : Contents) (board file : List ℕ) (cause : ImageCause) : Type 0 where
  pub stops : IsCauseOf contents board file cause
  pub read : cause ≢ ReadFault
