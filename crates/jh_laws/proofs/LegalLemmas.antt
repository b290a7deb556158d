-- Legal journals, and their parts.
use Rattle.std.proofs.Common.{◌≡◌, ℕ, List, [], ◌∷◌, ◌++◌, map, Some, refl, sym, ap, ◌∙◌}
use Rattle.std.specs.List.{fold}
use Rattle.std.proofs.lemmas.Option.{same_Some}
use Rattle.jh_script.specs.declared.image.Image.{Image}
use Rattle.jh_history.specs.declared.form.Form.{Form}
use Rattle.jh_history.specs.declared.entry.Entry.{Entry}
use Rattle.jh_history.specs.Facts.{Facts}
use Rattle.jh_history.specs.History.{start, after, facts}
use Rattle.jh_history.specs.Due.{due_at, due, IsLegal, IsLegalFrom}

legal_from : (image : Image) (f : Facts) (entries : List Entry)
    → ((before rest : List Entry) (entry : Entry) → entries ≡ before ++ entry ∷ rest → due_at image (fold (after image) f before) entry.cpu ≡ Some entry)
    → IsLegalFrom image f entries
legal_from image f [] each = tt
legal_from image f (first ∷ entries) each = (each [] entries first refl, legal_from image (after image f first) entries (λ before rest entry e. each (first ∷ before) rest entry (ap (λ (es : List Entry). first ∷ es) e)))

-- where each entry is due, the journal is legal
pub IsLegal_from_due : (image : Image) (form : Form) (entries : List Entry) → ((before rest : List Entry) (entry : Entry) → entries ≡ before ++ entry ∷ rest → due image form before entry.cpu ≡ Some entry) → IsLegal image form entries
unfolding IsLegal facts
IsLegal_from_due image form entries each = legal_from image (start image form) entries each

abbrev cpus : List Entry → List ℕ
cpus entries = map (λ (e : Entry). e.cpu) entries

same_entry : (image : Image) (f : Facts) (x y : Entry) → due_at image f x.cpu ≡ Some x → due_at image f y.cpu ≡ Some y → x.cpu ≡ y.cpu → x ≡ y
same_entry image f x y due_x due_y same = let e : Some x ≡ Some y = sym due_x ∙ ap (due_at image f) same ∙ due_y in same_Some x y e

same_from : (image : Image) (f : Facts) (xs ys : List Entry) → IsLegalFrom image f xs → IsLegalFrom image f ys → cpus xs ≡ cpus ys → xs ≡ ys
same_from image f [] [] legal_x legal_y e = refl
same_from image f [] (y ∷ ys) legal_x legal_y e = cc
same_from image f (x ∷ xs) [] legal_x legal_y e = cc
same_from image f (x ∷ xs) (y ∷ ys) legal_x legal_y e =
    let heads : x.cpu ≡ y.cpu = cc in
    let tails : cpus xs ≡ cpus ys = cc in
    let first : x ≡ y = same_entry image f x y legal_x.0 legal_y.0 heads in
    let rest : xs ≡ ys = same_from image (after image f x) xs ys legal_x.1 (rw (← first) at legal_y.1) tails in
    cc

-- a legal journal is determined by its CPU numbers
pub IsLegal_same : (image : Image) (form : Form) (xs ys : List Entry) → IsLegal image form xs → IsLegal image form ys → cpus xs ≡ cpus ys → xs ≡ ys
unfolding IsLegal
IsLegal_same image form xs ys legal_x legal_y e = same_from image (start image form) xs ys legal_x legal_y e

rest_from : (image : Image) (f : Facts) (before rest : List Entry) → IsLegalFrom image f (before ++ rest) → IsLegalFrom image (fold (after image) f before) rest
rest_from image f [] rest legal = legal
rest_from image f (first ∷ before) rest legal = rest_from image (after image f first) before rest legal.1

-- the rest of a legal journal is legal from the facts of what is before it
pub IsLegal_rest : (image : Image) (form : Form) (before rest : List Entry) → IsLegal image form (before ++ rest) → IsLegalFrom image (facts image form before) rest
unfolding IsLegal facts
IsLegal_rest image form before rest legal = rest_from image (start image form) before rest legal
