-- What a call goes on to do, and what it needs for that.
use Rattle.std.proofs.Common.{◌≡◌, ℕ, List, true, false, Option, Some, None, refl, sym, ◌∙◌, ap, subst, ℤ}
use Rattle.std.specs.Prelude.{pos, option_and_then}
use Rattle.std.proofs.lemmas.Bool.{both_ways}
use Rattle.std.proofs.lemmas.Option.{none-some, same_Some}
use Rattle.jh_cellcfg.specs.declared.config.CellConfig.{CellConfig}
use Rattle.jh_cellcfg.specs.declared.live.Live.{Live}
use Rattle.jh_call.specs.declared.call.Call.{Call}
use Rattle.jh_call.specs.declared.call.Call.TheVariants.{Create, Destroy}
use Rattle.jh_history.specs.declared.call.OpenCall.{OpenCall}
use Rattle.jh_history.specs.declared.call.Phase.{Phase}
use Rattle.jh_history.specs.declared.call.Phase.TheVariants.{ToDecide, ToCreate}
use Rattle.jh_history.specs.declared.entry.Entry.{Entry}
use Rattle.jh_history.specs.declared.entry.Act.{Act}
use Rattle.jh_history.specs.declared.entry.Act.TheVariants.{Decide}
use Rattle.jh_script.specs.declared.image.Image.{Image}
use Rattle.jh_history.specs.declared.call.Creation.{Creation}
use Rattle.jh_history.specs.declared.call.Creation.TheVariants.{Refused, Accepted}
use Rattle.jh_history.specs.Facts.{Facts}
use Rattle.jh_history.specs.declared.reading.ReadCell.TheVariants.{Reads}
use Rattle.jh_history.specs.Configs.{read_at, config_read}
use Rattle.jh_history.specs.Phases.{refused_by}
use Rattle.jh_history.specs.History.{coming_by, coming_of, call_after}
use Rattle.jh_history.specs.Calls.{telling, first_recipient, after_decide, after_commit, call_by}
use Rattle.jh_board.specs.declared.held.Held.{Held}
use Rattle.jh_board.specs.Means.{IsReadyIn, IsReadyToGoOn, IsReadyFor}
use Rattle.jh_board.specs.Private.Steps.{decides_to_go_on, create_of}
use Rattle.jh_board.proofs.ComingLemmas.{IsComing}

-- ---- readiness

ready_telling : (held : Held) (about : ℕ) (answer : ℤ) (o : Option ℕ) → IsReadyIn held (telling about answer o)
ready_telling held about answer None = tt
ready_telling held about answer (Some id) = tt

pub ready_committed : (held : Held) (call : Call) (cells : List Live) (phase : Phase) → IsReadyIn held (after_commit call phase cells)
ready_committed held (Create at) cells (ToCreate config) = ready_telling held config.id (pos config.id) (first_recipient config.id cells)
ready_committed held (Destroy id) cells phase = ready_telling held id (pos 0) (first_recipient id cells)
ready_committed held call cells phase = tt

-- an act that goes on is a Decide
pub going_decides : (act : Act) → decides_to_go_on act ≡ true → act ≡ Decide None
going_decides (Decide None) h = refl
going_decides act h = absurd (both_ways false refl h)

pub create_at : (call : Call) (at : ℕ) → create_of call ≡ Some at → call ≡ Create at
create_at (Create a) at h = ap Create (same_Some a at h)
create_at call at h = absurd (none-some at h)

-- ---- a create that goes on

-- what it reads
pub coming_is : (image : Image) (f : Facts) (o : OpenCall) (at : ℕ) (config : CellConfig) → f.call ≡ Some o → o.call ≡ Create at → read_at image f at ≡ Reads config → coming_of image f ≡ Some config
coming_is image f o at config is create reads =
    ap (option_and_then (λ (p : OpenCall). coming_by image f p.call)) is ∙ ap (coming_by image f) create ∙ ap config_read reads

-- the call goes on so
goes_on_so : (image : Image) (f : Facts) (entry : Entry) (o : OpenCall) (at : ℕ) (config : CellConfig) → f.call ≡ Some o → coming_of image f ≡ Some config → entry.act ≡ Decide None
    → call_after image f entry ≡ call_by f.cells (Some config) (Some o) entry (Decide None)
goes_on_so image f entry o at config is coming act =
    ap (λ (c : Option CellConfig). call_by f.cells c f.call entry entry.act) coming
    ∙ ap (λ (k : Option OpenCall). call_by f.cells (Some config) k entry entry.act) is
    ∙ ap (λ (a : Act). call_by f.cells (Some config) (Some o) entry a) act

-- and waits for the cell
pub coming_next : (image : Image) (f : Facts) (entry : Entry) (o : OpenCall) (at : ℕ) (config : CellConfig) → f.call ≡ Some o → o.call ≡ Create at → coming_of image f ≡ Some config → entry.act ≡ Decide None → IsComing (call_after image f entry) config
coming_next image f entry o at config is create coming act =
    let P : Option OpenCall → Type 0 = λ call. IsComing call config in
    subst P (sym (goes_on_so image f entry o at config is coming act)) (record { begun = _; is = refl; phase = ap (λ (call : Call). after_decide call (Some config) None) create })

-- it is ready for what comes
pub ready_create : (held : Held) (image : Image) (f : Facts) (entry : Entry) (o : OpenCall) (at : ℕ) (config : CellConfig) → f.call ≡ Some o → o.call ≡ Create at → coming_of image f ≡ Some config → entry.act ≡ Decide None
    → IsReadyFor held config → IsReadyToGoOn held (call_after image f entry)
ready_create held image f entry o at config is create coming act ready =
    let e = goes_on_so image f entry o at config is coming act in
    let P : Option OpenCall → Type 0 = IsReadyToGoOn held in
    let Q : Call → Type 0 = λ call. IsReadyIn held (after_decide call (Some config) None) in
    subst P (sym e) (subst Q (sym create) ready)

-- a call that waits for its Decide needs nothing
pub ready_early : (held : Held) (call : Option OpenCall) (o : OpenCall) → call ≡ Some o → o.phase ≡ ToDecide → IsReadyToGoOn held call
ready_early held call o is early =
    let P : Option OpenCall → Type 0 = IsReadyToGoOn held in
    let Q : Phase → Type 0 = IsReadyIn held in
    subst P (sym is) (subst Q (sym early) tt)

-- what comes isn't refused
pub not_refused : (config : CellConfig) (number : ℤ) (c : Creation) → c ≡ Accepted config → c ≡ Refused number → ⊥
not_refused config number c comes refused = none-some number (ap refused_by (sym comes ∙ refused))
