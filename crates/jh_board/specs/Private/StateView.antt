-- What contracts see of what a board holds, beside the image that it is held for.
use Rattle.jh_script.specs.declared.image.Image.{Image}
use Rattle.jh_board.specs.declared.held.Held.{Held}

-- what a board holds, and the image that it is held for
pub record StateView : Type 0 where
  pub image : Image
  pub held : Held
