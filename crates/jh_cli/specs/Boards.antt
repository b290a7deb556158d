-- Where a call ends at a board's files, and where it goes on with the image that they make.
use Rattle.std.specs.Prelude.{◌≡◌, ℕ, ◌⊎◌, List}
use Rattle.jh_script.specs.declared.image.Image.{Image}
use Rattle.jh_image.specs.declared.fault.ImageCause.{ImageCause}
use Rattle.jh_image.specs.declared.fault.ImageCause.TheVariants.{ReadFault}
use Rattle.jh_image.specs.Causes.{IsCauseOf}
use Rattle.jh_image.specs.Images.{IsImage}
use Rattle.jh_history.specs.Admitted.{IsAdmitted}
use Rattle.jh_image.specs.Texts.{cause_text}
use Rattle.jh_cli.specs.Lines.{fault_line, refusal_line}
use Rattle.jh_image.specs.Files.{Contents}
use Rattle.jh_cli.specs.Reading.{Reply}
use Rattle.jh_cli.specs.declared.status.Status.TheVariants as status

-- the reply where the file can't be read or is refused for the cause
abbrev pub stopped : List ℕ → ImageCause → Reply
stopped file ReadFault = record { status = status.ReadFault; text = fault_line file }
stopped file cause = record { status = status.Refused; text = refusal_line file (cause_text cause) }

-- the call ends at one of the board's files: it is the first in their order that can't be read or is refused
pub record EndsAtBoard (contents : Contents) (board : List ℕ) (reply : Reply) : Type 0 where
  pub file : List ℕ
  pub cause : ImageCause
  pub stops : IsCauseOf contents board file cause
  pub told : reply ≡ stopped file cause

-- the board is read: the call ends at one of its files, or goes on with the image that they make, which is admitted
abbrev pub Opens : Contents → List ℕ → (Image → Reply → Type 0) → Reply → Type 0
Opens contents board next reply = EndsAtBoard contents board reply ⊎ ((image : Image) × IsImage contents board image × IsAdmitted image × next image reply)
