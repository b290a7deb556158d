-- One entry more.
use Rattle.std.proofs.Common.{length, take, get_or, ℕ, ◌+◌, ◌<◌, ◌≡◌, List, [], ◌∷◌, ◌++◌, Some, refl, ap, ◌∙◌}
use Rattle.std.specs.List.{fold}
use Rattle.std.proofs.lemmas.List.{take_more}
use Rattle.std.proofs.lemmas.List.Sums.{fold-append}
use Rattle.jh_script.specs.declared.image.Image.{Image}
use Rattle.jh_history.specs.declared.form.Form.{Form}
use Rattle.jh_history.specs.declared.entry.Entry.{Entry}
use Rattle.jh_history.specs.Facts.{Facts}
use Rattle.jh_history.specs.History.{start, after, facts}
use Rattle.jh_history.specs.Due.{due_at, due, IsLegal, IsLegalFrom}

-- functions that agree everywhere are one
pub same_function : {A B : Type 0} (f g : A → B) → ((x : A) → f x ≡ g x) → f ≡ g
same_function f g h = λ i x. h x i

pub facts_push : (image : Image) (form : Form) (entries : List Entry) (entry : Entry) → facts image form (entries ++ entry ∷ []) ≡ after image (facts image form entries) entry
unfolding facts
facts_push image form entries entry = fold-append (after image) (start image form) entries (entry ∷ [])

pub facts_nil : (image : Image) (form : Form) → facts image form [] ≡ start image form
unfolding facts
facts_nil image form = refl

legal_more : (image : Image) (f : Facts) (entries : List Entry) (entry : Entry)
    → IsLegalFrom image f entries
    → due_at image (fold (after image) f entries) entry.cpu ≡ Some entry
    → IsLegalFrom image f (entries ++ entry ∷ [])
legal_more image f [] entry legal h = (h, tt)
legal_more image f (first ∷ entries) entry legal h = (legal.0, legal_more image (after image f first) entries entry legal.1 h)

pub IsLegal_push : (image : Image) (form : Form) (entries : List Entry) (entry : Entry) → IsLegal image form entries → due image form entries entry.cpu ≡ Some entry → IsLegal image form (entries ++ entry ∷ [])
unfolding IsLegal facts
IsLegal_push image form entries entry legal h = legal_more image (start image form) entries entry legal h

-- no entry changes the form
form_from : (image : Image) (f : Facts) (entries : List Entry) → (fold (after image) f entries).form ≡ f.form
unfolding after
form_from image f [] = refl
form_from image f (entry ∷ entries) = form_from image (after image f entry) entries

pub facts_form : (image : Image) (form : Form) (entries : List Entry) → (facts image form entries).form ≡ form
unfolding facts
facts_form image form entries = form_from image (start image form) entries

pub IsLegal_nil : (image : Image) (form : Form) → IsLegal image form []
unfolding IsLegal
IsLegal_nil image form = tt

-- the entry at a place of a list
pub facts_next : (image : Image) (form : Form) (entries : List Entry) (i : ℕ) (d : Entry) → i < length entries → facts image form (take (i + 1) entries) ≡ after image (facts image form (take i entries)) (get_or entries i d)
facts_next image form entries i d lt = ap (facts image form) (take_more entries i d lt) ∙ facts_push image form (take i entries) (get_or entries i d)
