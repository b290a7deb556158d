-- What is found of one entry.
use Rattle.std.specs.Prelude.{◌≡◌, ◌≢◌, [], ◌∷◌, ◌++◌, Some}
use Rattle.jh_history.specs.declared.entry.Entry.{Entry}
use Rattle.jh_history.specs.Due.{due, IsLegal}
use Rattle.jh_board.specs.BoardView.{BoardView}
use Rattle.jh_audit.specs.declared.compared.Compared.{Compared}
use Rattle.jh_audit.specs.declared.compared.Compared.TheVariants.{Same, Differs}

-- from `old` the entry is the one due to its CPU, and is made; or it isn't, behind legal entries, and what was due is
-- told
abbrev pub Compares : BoardView → Entry → Compared → BoardView → Type 0
Compares old entry Same new = (due old.image old.form old.entries entry.cpu ≡ Some entry) × (new ≡ record old { entries = old.entries ++ entry ∷ [] })
Compares old entry (Differs expected) new = IsLegal old.image old.form old.entries × (due old.image old.form old.entries entry.cpu ≡ expected) × (expected ≢ Some entry)
