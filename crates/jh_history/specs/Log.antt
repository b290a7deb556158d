-- What contracts see of a journal.
use Rattle.std.specs.Prelude.{ℕ, List}
use Rattle.jh_history.specs.declared.entry.Entry.{Entry}
use Rattle.jh_history.specs.declared.form.Form.{Form}

-- the form, the entries in order, and how many more fit without memory
pub record Log : Type 0 where
  pub form : Form
  pub entries : List Entry
  pub spare : ℕ
