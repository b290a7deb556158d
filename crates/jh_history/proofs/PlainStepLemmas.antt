-- What an entry does to the open call and to the live cells, for the slow plain program.
use Rattle.std.proofs.Common.{◌≡◌, ℤ, ◌≤◌, true, false, List, length, Option, Some, None, refl, sym, ap, subst, ◌∙◌, inl, inr, ◌⊎◌}
use Rattle.std.specs.Prelude.{All}
use Rattle.std.proofs.lemmas.Bool.{both_ways, true≢false}
use Rattle.jh_check.specs.Clean.{IsSoundBitmap, IsSoundCpuSet}
use Rattle.jh_script.specs.declared.image.Image.{Image}
use Rattle.jh_history.specs.Facts.{Facts}
use Rattle.jh_history.specs.History.{after, coming_of}
use Rattle.jh_shape.specs.Lives.{configs_of}
use Rattle.jh_history.specs.Sound.{AreSoundCells, IsSound}
use Rattle.jh_history.specs.Private.PlainView.{HasSoundCells}
use Rattle.jh_history.proofs.FewLemmas.{few_sound}
use Rattle.jh_cellcfg.specs.declared.config.CellConfig.{CellConfig}
use Rattle.jh_cellcfg.specs.declared.live.Live.{Live}
use Rattle.jh_history.specs.declared.call.OpenCall.{OpenCall}
use Rattle.jh_history.specs.declared.entry.Entry.{Entry}
use Rattle.jh_history.specs.declared.entry.Act.{Act}
use Rattle.jh_history.specs.declared.entry.Act.TheVariants.{Read, Write, Fetch, Await, Irq, Hvc, Begin, Stop, Decide, Settle, Commit, Note, Noted, Finish}
use Rattle.jh_history.specs.Calls.{call_by}
use Rattle.jh_history.specs.Commits.{cells_by, is_commit}

-- what a create reads matters at its Decide alone
coming_by : (lives : List Live) (a b : Option CellConfig) (call : Option OpenCall) (entry : Entry) (act : Act) → ((refused : Option ℤ) → act ≡ Decide refused → ⊥) → call_by lives a call entry act ≡ call_by lives b call entry act
coming_by lives a b call entry (Read width at got) other = refl
coming_by lives a b call entry (Write width at value ok) other = refl
coming_by lives a b call entry (Fetch at got) other = refl
coming_by lives a b call entry (Await width at value ok) other = refl
coming_by lives a b call entry (Irq device vector) other = refl
coming_by lives a b call entry (Hvc code x y answer) other = refl
coming_by lives a b call entry (Begin code x y) other = refl
coming_by lives a b call entry Stop other = refl
coming_by lives a b call entry (Decide refused) other = absurd (other refused refl)
coming_by lives a b call entry (Settle how) other = refl
coming_by lives a b call entry Commit other = refl
coming_by lives a b call entry (Note id) other = refl
coming_by lives a b call entry (Noted id how) other = refl
coming_by lives a b call entry (Finish answer) other = refl

pub coming_elsewhere : (lives : List Live) (a b : Option CellConfig) (call : Option OpenCall) (entry : Entry) → ((refused : Option ℤ) → entry.act ≡ Decide refused → ⊥) → call_by lives a call entry entry.act ≡ call_by lives b call entry entry.act
coming_elsewhere lives a b call entry other = coming_by lives a b call entry entry.act other

other_by : (begun : Option OpenCall) (old : List Live) (act : Act) → (act ≡ Commit → ⊥) → old ≡ cells_by begun old act
other_by begun old (Read width at got) other = refl
other_by begun old (Write width at value ok) other = refl
other_by begun old (Fetch at got) other = refl
other_by begun old (Await width at value ok) other = refl
other_by begun old (Irq device vector) other = refl
other_by begun old (Hvc code a b answer) other = refl
other_by begun old (Begin code a b) other = refl
other_by begun old Stop other = refl
other_by begun old (Decide refused) other = refl
other_by begun old (Settle how) other = refl
other_by begun old Commit other = absurd (other refl)
other_by begun old (Note id) other = refl
other_by begun old (Noted id how) other = refl
other_by begun old (Finish answer) other = refl

pub commit_other : (begun : Option OpenCall) (act : Act) (old : List Live) → (act ≡ Commit → ⊥) → old ≡ cells_by begun old act
commit_other begun act old other = other_by begun old act other

-- ---- how many cells live

not_commit : (act : Act) → act ≡ Commit → is_commit act ≡ false → ⊥
not_commit act e other = both_ways true (sym (ap is_commit e) ∙ other) refl

abbrev Names : List CellConfig → Type 0
Names configs = All (λ (c : CellConfig). IsSoundBitmap c.cpu_set → IsSoundCpuSet c.cpu_set) configs

-- an act that is no Commit changes no cell
pub uncommitted_cells : (call : Option OpenCall) (cells : List Live) (act : Act) → is_commit act ≡ false → cells_by call cells act ≡ cells
uncommitted_cells call cells act other = sym (commit_other call act cells (λ is. true≢false (sym (ap is_commit is) ∙ other)))

pub after_cells : (image : Image) (f : Facts) (entry : Entry) → (after image f entry).cells ≡ cells_by f.call f.cells entry.act
unfolding after
after_cells image f entry = refl

pub after_call : (image : Image) (f : Facts) (entry : Entry) → (after image f entry).call ≡ call_by f.cells (coming_of image f) f.call entry entry.act
unfolding after
after_call image f entry = refl

-- after a Commit the call is still open
still_open : (lives : List Live) (coming : Option CellConfig) (o : OpenCall) (entry : Entry) (act : Act) → act ≡ Commit → (p : OpenCall) × (call_by lives coming (Some o) entry act ≡ Some p)
still_open lives coming o entry act is = (_, ap (call_by lives coming (Some o) entry) is)

few_by : (image : Image) (f : Facts) (entry : Entry) (call : Option OpenCall) → f.call ≡ call → IsSound image (after image f entry) → length f.cells ≤ 15 → Names (configs_of (cells_by f.call f.cells entry.act))
    → entry.act ≡ Commit → length (cells_by f.call f.cells entry.act) ≤ 15
few_by image f entry None e sound few names is =
    let same : cells_by f.call f.cells entry.act ≡ f.cells = ap (λ (c : Option OpenCall). cells_by c f.cells entry.act) e ∙ ap (cells_by None f.cells) is in
    subst (λ (lives : List Live). length lives ≤ 15) (sym same) few
few_by image f entry (Some o) e sound few names is =
    let p = still_open f.cells (coming_of image f) o entry entry.act is in
    let open_call = after_call image f entry ∙ ap (λ (c : Option OpenCall). call_by f.cells (coming_of image f) c entry entry.act) e ∙ p.1 in
    subst (λ (lives : List Live). length lives ≤ 15) (after_cells image f entry)
    (few_sound image (after image f entry) p.0 sound open_call (subst (λ (lives : List Live). Names (configs_of lives)) (sym (after_cells image f entry)) names))

pub commit_or : (act : Act) → (act ≡ Commit) ⊎ (act ≡ Commit → ⊥)
commit_or (Read width at got) = inr (λ e. not_commit (Read width at got) e refl)
commit_or (Write width at value ok) = inr (λ e. not_commit (Write width at value ok) e refl)
commit_or (Fetch at got) = inr (λ e. not_commit (Fetch at got) e refl)
commit_or (Await width at value ok) = inr (λ e. not_commit (Await width at value ok) e refl)
commit_or (Irq device vector) = inr (λ e. not_commit (Irq device vector) e refl)
commit_or (Hvc code a b answer) = inr (λ e. not_commit (Hvc code a b answer) e refl)
commit_or (Begin code a b) = inr (λ e. not_commit (Begin code a b) e refl)
commit_or Stop = inr (λ e. not_commit Stop e refl)
commit_or (Decide refused) = inr (λ e. not_commit (Decide refused) e refl)
commit_or (Settle how) = inr (λ e. not_commit (Settle how) e refl)
commit_or Commit = inl refl
commit_or (Note id) = inr (λ e. not_commit (Note id) e refl)
commit_or (Noted id how) = inr (λ e. not_commit (Noted id how) e refl)
commit_or (Finish answer) = inr (λ e. not_commit (Finish answer) e refl)

few_at : (image : Image) (f : Facts) (entry : Entry) (act : Act) → entry.act ≡ act → IsSound image (after image f entry) → length f.cells ≤ 15 → Names (configs_of (cells_by f.call f.cells entry.act)) → length (cells_by f.call f.cells entry.act) ≤ 15
few_at image f entry act is sound few names = elim (commit_or act) [
  | inl commit ↦ few_by image f entry f.call refl sound few names (is ∙ commit)
  | inr other ↦ subst (λ (lives : List Live). length lives ≤ 15) (commit_other f.call entry.act f.cells (λ e. other (sym is ∙ e))) few
]

-- the cells that live after an entry that is due are fit
pub fit_after : (image : Image) (f : Facts) (entry : Entry) (cells new : List Live) → HasSoundCells image cells → f.cells ≡ cells → IsSound image (after image f entry) → new ≡ cells_by f.call f.cells entry.act → Names (configs_of new) → HasSoundCells image new
fit_after image f entry cells new fit e sound is names =
    let few : length f.cells ≤ 15 = subst (λ (lives : List Live). length lives ≤ 15) (sym e) fit.few in
    record {
      admitted = fit.admitted;
      sound = subst (λ (lives : List Live). AreSoundCells image.system (configs_of lives)) (after_cells image f entry ∙ sym is) sound.cells;
      few = subst (λ (lives : List Live). length lives ≤ 15) (sym is) (few_at image f entry entry.act refl sound few (subst (λ (lives : List Live). Names (configs_of lives)) is names));
    }
