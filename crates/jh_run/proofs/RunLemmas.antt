-- Items after items.
use Rattle.std.proofs.Common.{◌≡◌, ℕ, Bool, ◌+◌, List, [], ◌∷◌, ◌++◌, true, false, refl, sym, ◌∙◌, ap, subst, append_assoc, inl, inr, add-one}
use Rattle.std.specs.Prelude.{filter}
use Rattle.std.proofs.lemmas.List.{append-nil}
use Rattle.std.proofs.lemmas.List.Elements.{filter-append}
use Rattle.jh_script.specs.declared.image.Image.{Image}
use Rattle.jh_history.specs.declared.form.Form.{Form}
use Rattle.jh_history.specs.declared.entry.Entry.{Entry}
use Rattle.jh_history.specs.Due.{IsQuiet}
use Rattle.jh_history.specs.Items.{below}
use Rattle.jh_laws.specs.Items.{ItemsLead, IsCutShort}

-- items behind items
pub lead_append : (image : Image) (form : Form) (limit : ℕ) (xs ys : List ℕ) (es fs gs : List Entry) → ItemsLead image form limit xs es fs → ItemsLead image form limit ys fs gs → ItemsLead image form limit (xs ++ ys) es gs
lead_append image form limit [] ys es fs gs first second = let P : List Entry → Type 0 = λ hs. ItemsLead image form limit ys hs gs in subst P first second
lead_append image form limit (x ∷ xs) ys es fs gs first second = elim first [
  | inl same ↦ inl (same.0, lead_append image form limit xs ys es fs gs same.1 second)
  | inr more ↦ inr (more.0, more.1, more.2, lead_append image form limit xs ys (es ++ more.0 ∷ []) fs gs more.3 second)
]

-- a stop behind items
pub cut_behind : (image : Image) (form : Form) (limit : ℕ) (xs ys : List ℕ) (es fs gs : List Entry) → ItemsLead image form limit xs es fs → IsCutShort image form limit ys fs gs → IsCutShort image form limit (xs ++ ys) es gs
cut_behind image form limit xs ys es fs gs first cut = record {
  done = xs ++ cut.done;
  next = cut.next;
  left = cut.left;
  split = ap (λ (zs : List ℕ). xs ++ zs) cut.split ∙ sym (append_assoc xs cut.done (cut.next ∷ cut.left));
  lead = lead_append image form limit xs cut.done es fs gs first cut.lead;
  is_due = cut.is_due;
  reached = cut.reached;
}

-- items behind a stop
pub cut_before : (image : Image) (form : Form) (limit : ℕ) (xs ys : List ℕ) (es fs : List Entry) → IsCutShort image form limit xs es fs → IsCutShort image form limit (xs ++ ys) es fs
cut_before image form limit xs ys es fs cut = record {
  done = cut.done;
  next = cut.next;
  left = cut.left ++ ys;
  split = ap (λ (zs : List ℕ). zs ++ ys) cut.split ∙ append_assoc cut.done (cut.next ∷ cut.left) ys;
  lead = cut.lead;
  is_due = cut.is_due;
  reached = cut.reached;
}

-- at a quiet journal no item changes anything
pub lead_quiet : (image : Image) (form : Form) (limit : ℕ) (cpus : List ℕ) (es : List Entry) → IsQuiet image form es → ItemsLead image form limit cpus es es
lead_quiet image form limit [] es quiet = refl
lead_quiet image form limit (cpu ∷ cpus) es quiet = inl (quiet cpu, lead_quiet image form limit cpus es quiet)

-- one number more that passes, or that doesn't
pub filter_below_more : (p : ℕ → Bool) (k : ℕ) → p k ≡ true → filter p (below (k + 1)) ≡ filter p (below k) ++ k ∷ []
filter_below_more p k e = rw (add-one, filter-append, e) refl

pub filter_below_skip : (p : ℕ → Bool) (k : ℕ) → p k ≡ false → filter p (below (k + 1)) ≡ filter p (below k)
filter_below_skip p k e = rw (add-one, filter-append, e) (append-nil (filter p (below k)))
