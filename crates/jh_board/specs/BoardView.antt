-- What contracts see of a board.
use Rattle.std.specs.Prelude.{ℕ, List}
use Rattle.jh_script.specs.declared.image.Image.{Image}
use Rattle.jh_history.specs.declared.entry.Entry.{Entry}
use Rattle.jh_history.specs.declared.form.Form.{Form}

-- the image that it was opened with, its limit, its journal's form, and the entries made
pub record BoardView : Type 0 where
  pub image : Image
  pub limit : ℕ
  pub form : Form
  pub entries : List Entry
