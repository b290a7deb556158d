-- What contracts see of a text that is read line by line.
use Rattle.std.specs.Prelude.{ℕ, List}
use Rattle.jh_history.specs.declared.form.Form.{Form}

-- the form of the text, how many entries are read, and what is left of the text behind them
pub record LinesView : Type 0 where
  pub form : Form
  pub count : ℕ
  pub rest : List ℕ
