-- Where a call ends at a board's files.
use Rattle.std.proofs.Common.{◌≡◌, ◌≢◌, List, ℕ, inr, Result, refl, sym, ◌∙◌, ap, arith}
use Rattle.jh_script.specs.declared.image.Image.{Image}
use Rattle.jh_image.specs.declared.fault.ImageFault.{ImageFault}
use Rattle.jh_image.specs.declared.fault.ImageFault.TheVariants.{Refused, NoMemory}
use Rattle.jh_image.specs.Causes.{IsCauseOf, OnRefused}
use Rattle.jh_image.specs.Images.{IsImage}
use Rattle.jh_history.specs.Admitted.{IsAdmitted}
use Rattle.jh_cli.specs.declared.ending.Ending.{Ending}
use Rattle.jh_cli.specs.declared.ending.CallFault.{CallFault}
use Rattle.jh_cli.specs.declared.ending.CallFault.TheVariants as stop
use Rattle.jh_cli.specs.declared.status.Status.TheVariants as status
use Rattle.jh_cli.specs.Lines.{exit_number}
use Rattle.jh_image.specs.Files.{Contents}
use Rattle.jh_cli.specs.Reading.{Reply}
use Rattle.jh_cli.specs.Boards.{stopped, EndsAtBoard, Opens}
use Rattle.jh_cli.specs.Private.Endings.{OnEnded, OnEnding}
use Rattle.jh_cli.proofs.StopLemmas.{on_ended, on_ending}

-- want of memory says nothing
pub nothing : (P : Reply → Type 0) (s : CallFault) → s ≡ stop.NoMemory → OnEnded s P
nothing P s is = rw is tt

-- the call ends where the reading of the board stops
pub ends_at : (contents : Contents) (board : List ℕ) (fault : ImageFault) → OnRefused (IsCauseOf contents board) fault
    → (s : CallFault) → OnRefused (λ file cause. OnEnded s (λ reply. reply ≡ stopped file cause)) fault → (fault ≡ NoMemory → s ≡ stop.NoMemory) → OnEnded s (EndsAtBoard contents board)
ends_at contents board (Refused file cause) stops s told memory =
    on_ended (λ reply. reply ≡ stopped file cause) (EndsAtBoard contents board) s (λ reply is. record { file = file; cause = cause; stops = stops; told = is }) told
ends_at contents board NoMemory stops s told memory = nothing (EndsAtBoard contents board) s (memory refl)

-- a refusal's status is not that of a fault of reading
pub refused_is_read : (reply : Reply) (text : List ℕ) → reply ≡ record { status = status.Refused; text = text } → reply.status ≢ status.ReadFault
refused_is_read reply text is fault =
    let same : exit_number status.Refused ≡ exit_number status.ReadFault = ap exit_number (sym (ap (λ (s : Reply). s.status) is) ∙ fault) in
    omega arith

-- what follows a board that was read
pub opens : (contents : Contents) (board : List ℕ) (next : Image → Reply → Type 0) (image : Image) → IsImage contents board image → IsAdmitted image
    → (r : Result Ending CallFault) → OnEnding r (next image) → OnEnding r (Opens contents board next)
opens contents board next image is admitted r h = on_ending (next image) (Opens contents board next) r (λ reply rest. inr (image, is, admitted, rest)) h
