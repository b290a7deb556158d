-- Legal journals, and their parts.
use Rattle.std.proofs.Common.{◌≡◌, ◌<◌, ℕ, zero, suc, length, take, get_or, arith, List, [], ◌∷◌, ◌++◌, Some}
use Rattle.std.specs.List.{fold}
use Rattle.jh_script.specs.declared.image.Image.{Image}
use Rattle.jh_history.specs.declared.form.Form.{Form}
use Rattle.jh_history.specs.declared.entry.Entry.{Entry}
use Rattle.jh_history.specs.Facts.{Facts}
use Rattle.jh_history.specs.History.{start, after, facts}
use Rattle.jh_history.specs.Due.{due_at, due, IsLegal, IsLegalFrom}

due_from : (image : Image) (f : Facts) (before rest : List Entry) (entry : Entry) → IsLegalFrom image f (before ++ entry ∷ rest) → due_at image (fold (after image) f before) entry.cpu ≡ Some entry
due_from image f [] rest entry legal = legal.0
due_from image f (first ∷ before) rest entry legal = due_from image (after image f first) before rest entry legal.1

-- an entry of a legal journal is the one due there
pub due_split : (image : Image) (form : Form) (before rest : List Entry) (entry : Entry) → IsLegal image form (before ++ entry ∷ rest) → due image form before entry.cpu ≡ Some entry
unfolding IsLegal facts
due_split image form before rest entry legal = due_from image (start image form) before rest entry legal

due_at_index : (image : Image) (f : Facts) (entries : List Entry) (k : ℕ) (d : Entry) → IsLegalFrom image f entries → k < length entries
    → due_at image (fold (after image) f (take k entries)) (get_or entries k d).cpu ≡ Some (get_or entries k d)
due_at_index image f [] k d legal lt = absurd (omega arith)
due_at_index image f (entry ∷ entries) zero d legal lt = legal.0
due_at_index image f (entry ∷ entries) (suc k) d legal lt = due_at_index image (after image f entry) entries k d legal.1 (omega arith)

-- so is the one with a number
pub due_index : (image : Image) (form : Form) (entries : List Entry) (k : ℕ) (d : Entry) → IsLegal image form entries → k < length entries → due image form (take k entries) (get_or entries k d).cpu ≡ Some (get_or entries k d)
unfolding IsLegal facts
due_index image form entries k d legal lt = due_at_index image (start image form) entries k d legal lt

begins_from : (image : Image) (f : Facts) (before rest : List Entry) → IsLegalFrom image f (before ++ rest) → IsLegalFrom image f before
begins_from image f [] rest legal = tt
begins_from image f (first ∷ before) rest legal = (legal.0, begins_from image (after image f first) before rest legal.1)

-- a beginning of a legal journal is legal
pub IsLegal_begin : (image : Image) (form : Form) (before rest : List Entry) → IsLegal image form (before ++ rest) → IsLegal image form before
unfolding IsLegal
IsLegal_begin image form before rest legal = begins_from image (start image form) before rest legal
