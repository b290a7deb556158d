-- What items do, one after another.
use Rattle.std.specs.Prelude.{◌≡◌, ◌<◌, ◌≤◌, ◌⊎◌, ℕ, List, [], ◌∷◌, ◌++◌, length, Some, None, IsSome}
use Rattle.jh_script.specs.declared.image.Image.{Image}
use Rattle.jh_history.specs.declared.form.Form.{Form}
use Rattle.jh_history.specs.declared.entry.Entry.{Entry}
use Rattle.jh_history.specs.Due.{due}

-- the items of the CPUs lead from the one journal to the other: at each item either nothing was due to
-- its CPU, or the entry that was due to it was added, where the journal had fewer than `limit` entries
abbrev pub ItemsLead : Image → Form → ℕ → List ℕ → List Entry → List Entry → Type 0
ItemsLead image form limit [] before after = after ≡ before
ItemsLead image form limit (cpu ∷ cpus) before after =
    ((due image form before cpu ≡ None) × ItemsLead image form limit cpus before after)
    ⊎ ((entry : Entry) × (due image form before cpu ≡ Some entry) × (length before < limit) × ItemsLead image form limit cpus (before ++ entry ∷ []) after)

-- the first items lead to a journal of `limit` entries or more, and the CPU of the next item has an entry due
pub record IsCutShort (image : Image) (form : Form) (limit : ℕ) (cpus : List ℕ) (before after : List Entry) : Type 0 where
  pub done : List ℕ
  pub next : ℕ
  pub left : List ℕ
  pub split : cpus ≡ done ++ next ∷ left
  pub lead : ItemsLead image form limit done before after
  pub is_due : IsSome (due image form after next)
  pub reached : limit ≤ length after
