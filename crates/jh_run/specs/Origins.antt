-- What no turn of a board changes.
use Rattle.std.specs.Prelude.{ℕ}
use Rattle.jh_script.specs.declared.image.Image.{Image}
use Rattle.jh_history.specs.declared.form.Form.{Form}

-- the image, how many entries the journal may have, and its form
pub record Origin : Type 0 where
  pub image : Image
  pub limit : ℕ
  pub form : Form
