-- What is true of every image with an index.
use Rattle.std.specs.Prelude.{◌≡◌}
use Rattle.jh_history.specs.Admitted.{IsAdmitted}
use Rattle.jh_board.specs.Private.RootPrograms.{AreRootPrograms}
use Rattle.jh_board.specs.declared.indexed.IndexedImage.TheInside.{Inside}

-- the image is admitted, and its index has root's programs and root's regions
pub record IsIndexed (s : Inside) : Type 0 where
  pub admitted : IsAdmitted s.image
  pub programs : AreRootPrograms s.image s.programs
  pub regions : s.regions ≡ s.image.system.root.memory_regions
