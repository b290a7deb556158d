-- How far the reading of a board comes behind files that were read before.
use Rattle.std.specs.Prelude.{◌≡◌, ℕ, List, ◌++◌}
use Rattle.jh_outside.specs.declared.files.Files.{Ghosts}
use Rattle.jh_outside.specs.Trail.{AsksUpTo}
use Rattle.jh_image.specs.declared.fault.ImageCause.{ImageCause}
use Rattle.jh_image.specs.Files.{Contents}
use Rattle.jh_image.specs.Images.{IsNextFile}
use Rattle.jh_image.specs.Causes.{IsCauseOf}
use Rattle.jh_image.specs.Order.{files_read, last_ask}

-- the reading of the board stops, names this file, and has this cause; behind these files, which were read before, those
-- behind which it stops were read, then the one that is next, and no other
module _ {S : Type 0} (files : Ghosts S) (contents : Contents) (board : List ℕ) (before : List (List ℕ)) where
  pub record AsksOnUntil (file : List ℕ) (cause : ImageCause) (s t : S) : Type 0 where
    pub stops : IsCauseOf contents board file cause
    pub name : List ℕ
    pub next : IsNextFile board stops.stage name
    pub more : List (List ℕ)
    pub split : files_read board stops.stage ≡ before ++ more
    pub asked : AsksUpTo files more (last_ask cause name) s t
