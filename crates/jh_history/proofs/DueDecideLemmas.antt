-- What a Decide that is due says of the call that is open.
use Rattle.std.proofs.Common.{◌≡◌, ◌≢◌, ℕ, ℤ, [], ◌∷◌, ◌++◌, Bool, true, false, cond, Option, Some, None, refl, sym, ap, subst, ◌∙◌}
use Rattle.std.specs.List.{list_any}
use Rattle.std.proofs.lemmas.Option.{none-some, same_Some}
use Rattle.jh_num.specs.declared.error.TheConstants.{EPERM}
use Rattle.jh_cellcfg.specs.declared.config.CellConfig.{CellConfig}
use Rattle.jh_call.specs.declared.call.Call.{Call}
use Rattle.jh_call.specs.declared.call.Call.TheVariants.{Create}
use Rattle.jh_check.specs.Refusals.{refusal_of}
use Rattle.jh_shape.specs.Pages.{pages_of}
use Rattle.jh_script.specs.declared.image.Image.{Image}
use Rattle.jh_history.specs.declared.call.OpenCall.{OpenCall}
use Rattle.jh_history.specs.declared.call.Creation.{Creation}
use Rattle.jh_history.specs.declared.call.Creation.TheVariants.{Refused, Accepted}
use Rattle.jh_history.specs.declared.call.Phase.{Phase}
use Rattle.jh_history.specs.declared.call.Phase.TheVariants.{ToDecide, ToSettle, ToCreate, ToCommit, ToNote, ToNoted, ToFinish}
use Rattle.jh_history.specs.declared.entry.Entry.{Entry}
use Rattle.jh_history.specs.declared.entry.Act.{Act}
use Rattle.jh_history.specs.declared.entry.Act.TheVariants.{Decide, Settle, Commit, Note, Noted, Finish}
use Rattle.jh_history.specs.Facts.{Facts}
use Rattle.jh_history.specs.declared.reading.ReadCell.{ReadCell}
use Rattle.jh_history.specs.declared.reading.ReadCell.TheVariants.{Reads, Refuses}
use Rattle.jh_history.specs.Configs.{read_at}
use Rattle.jh_history.specs.Admitted.{pool_pages}
use Rattle.jh_history.specs.Phases.{may_give, is_locked, unless_refused, creation_by, creation_of, refused_by, decision}
use Rattle.jh_shape.specs.Lives.{configs_of}
use Rattle.jh_history.specs.Due.{due_at}
use Rattle.jh_history.specs.Sound.{IsSound}
use Rattle.jh_history.specs.DueFacts.{HasRead}
use Rattle.jh_history.proofs.DuePhaseLemmas.{IsLater, IsActIn, IsOfOpen, later_open}

-- ---- what comes of a create is what it read

abbrev came : Creation → Option CellConfig
came (Accepted config) = Some config
came (Refused number) = None

not_refused : (number : ℤ) (config : CellConfig) {X : Type 0} → Refused number ≡ Accepted config → X
not_refused number config e = absurd (none-some config (ap came e))

unless_read : (c : CellConfig) (o : Option ℤ) (config : CellConfig) → unless_refused c o ≡ Accepted config → c ≡ config
unless_read c None config e = same_Some c config (ap came e)
unless_read c (Some number) config e = not_refused number config e

by_read : (image : Image) (f : Facts) (caller : ℕ) (read : ReadCell) (config : CellConfig) → creation_by image f caller read ≡ Accepted config → read ≡ Reads config
by_read image f caller (Refuses number) config e = not_refused number config e
by_read image f caller (Reads c) config e =
    ap Reads
    (unless_read c
    (refusal_of image.system (configs_of f.cells) c (may_give image f caller) (pages_of image.system.root.memory_regions (configs_of f.cells ++ c ∷ [])) (pool_pages image.system))
    config e)

by_lock : (image : Image) (f : Facts) (caller : ℕ) (locked : Bool) (read : ReadCell) (config : CellConfig) → cond locked (Refused EPERM) (creation_by image f caller read) ≡ Accepted config → read ≡ Reads config
by_lock image f caller true read config e = not_refused EPERM config e
by_lock image f caller false read config e = by_read image f caller read config e

pub read_from_comes : (image : Image) (f : Facts) (caller at : ℕ) (config : CellConfig) → creation_of image f caller at ≡ Accepted config → read_at image f at ≡ Reads config
unfolding creation_of
read_from_comes image f caller at config e = by_lock image f caller (list_any (is_locked f) f.cells) (read_at image f at) config e

read_by : (image : Image) (f : Facts) (caller at : ℕ) (c : Creation) → creation_of image f caller at ≡ c → refused_by c ≡ None → HasRead image f caller at
read_by image f caller at (Refused number) e none = absurd (none-some number (sym none))
read_by image f caller at (Accepted config) e none = record { config = config; comes = e; read = read_from_comes image f caller at config e }

-- ---- the call

abbrev decides : Act → Option (Option ℤ)
decides (Decide refused) = Some refused
decides act = None

no_decide : (act other : Act) (refused : Option ℤ) {X : Type 0} → decides other ≡ None → act ≡ Decide refused → act ≡ other → X
no_decide act other refused none is e = absurd (none-some refused (sym none ∙ ap decides (sym e) ∙ ap decides is))

-- the phase is that of the Decide, which says what the call is refused for
decide_by : (image : Image) (f : Facts) (caller : ℕ) (call : Call) (phase : Phase) (act : Act) (refused : Option ℤ) → IsActIn image f caller call phase act → act ≡ Decide refused → (phase ≡ ToDecide) × (refused ≡ decision image f caller call)
decide_by image f caller call ToDecide act refused h is = (refl, same_Some refused (decision image f caller call) (ap decides (sym is ∙ h)))
decide_by image f caller call (ToSettle waited) act refused h is = no_decide act (Settle h.0) refused refl is h.1
decide_by image f caller call (ToCreate config) act refused h is = no_decide act Commit refused refl is h
decide_by image f caller call ToCommit act refused h is = no_decide act Commit refused refl is h
decide_by image f caller call (ToNote id about answer) act refused h is = no_decide act (Note id) refused refl is h
decide_by image f caller call (ToNoted id about answer waited) act refused h is = no_decide act (Noted id h.0) refused refl is h.1
decide_by image f caller call (ToFinish answer) act refused h is = no_decide act (Finish answer) refused refl is h

-- the CPU made the call, whose Decide is due
pub record IsDeciding (image : Image) (f : Facts) (cpu : ℕ) (refused : Option ℤ) (o : OpenCall) : Type 0 where
  pub caller : o.caller ≡ cpu
  pub phase : o.phase ≡ ToDecide
  pub why : refused ≡ decision image f o.caller o.call

later_decide : (entry : Entry) (refused : Option ℤ) → entry.act ≡ Decide refused → IsLater entry.act
later_decide entry refused is = subst IsLater (sym is) tt

open_decide : (image : Image) (f : Facts) (entry : Entry) (refused : Option ℤ) → IsSound image f → due_at image f entry.cpu ≡ Some entry → entry.act ≡ Decide refused → IsOfOpen image f entry.cpu entry.act
open_decide image f entry refused sound due is = later_open image f entry sound due (later_decide entry refused is)

deciding : (image : Image) (f : Facts) (entry : Entry) (refused : Option ℤ) (o : OpenCall) → IsSound image f → due_at image f entry.cpu ≡ Some entry → entry.act ≡ Decide refused → f.call ≡ Some o → IsDeciding image f entry.cpu refused o
deciding image f entry refused o sound due is call =
    let h = open_decide image f entry refused sound due is in
    let parts = decide_by image f h.call.caller h.call.call h.call.phase entry.act refused h.phase is in
    let P : OpenCall → Type 0 = IsDeciding image f entry.cpu refused in
    subst P (same_Some h.call o (sym h.is ∙ call)) (record { caller = h.caller; phase = parts.0; why = parts.1 })

pub decide_call : (image : Image) (f : Facts) (entry : Entry) (refused : Option ℤ) → IsSound image f → due_at image f entry.cpu ≡ Some entry → entry.act ≡ Decide refused → f.call ≢ None
decide_call image f entry refused sound due is none =
    let h = open_decide image f entry refused sound due is in
    absurd (none-some h.call (sym none ∙ h.is))

pub decide_caller : (image : Image) (f : Facts) (entry : Entry) (refused : Option ℤ) (o : OpenCall) → IsSound image f → due_at image f entry.cpu ≡ Some entry → entry.act ≡ Decide refused → f.call ≡ Some o → o.caller ≡ entry.cpu
decide_caller image f entry refused o sound due is call = (deciding image f entry refused o sound due is call).caller

pub decide_phase : (image : Image) (f : Facts) (entry : Entry) (refused : Option ℤ) (o : OpenCall) → IsSound image f → due_at image f entry.cpu ≡ Some entry → entry.act ≡ Decide refused → f.call ≡ Some o → o.phase ≡ ToDecide
decide_phase image f entry refused o sound due is call = (deciding image f entry refused o sound due is call).phase

pub decide_goes_on : (image : Image) (f : Facts) (entry : Entry) (o : OpenCall) (at : ℕ) → IsSound image f → due_at image f entry.cpu ≡ Some entry → entry.act ≡ Decide None → f.call ≡ Some o → o.call ≡ Create at → HasRead image f o.caller at
decide_goes_on image f entry o at sound due is call create =
    let h = deciding image f entry None o sound due is call in
    read_by image f o.caller at (creation_of image f o.caller at) refl (sym (h.why ∙ ap (decision image f o.caller) create))
