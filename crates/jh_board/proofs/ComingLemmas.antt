-- The cell that comes by the Commit of a create: which call waits for it, that what is held is ready for it, and that it may
-- join those that live.
use Rattle.std.proofs.Common.{◌≡◌, ◌<◌, Option, Some, refl, sym, ◌∙◌, ap, subst, length}
use Rattle.std.specs.Prelude.{IfSome}
use Rattle.std.proofs.lemmas.Option.{none-some, same_Some}
use Rattle.jh_cellcfg.specs.declared.config.CellConfig.{CellConfig}
use Rattle.jh_call.specs.declared.call.Call.{Call}
use Rattle.jh_call.specs.declared.call.Call.TheVariants.{Create}
use Rattle.jh_script.specs.declared.image.Image.{Image}
use Rattle.jh_history.specs.declared.call.OpenCall.{OpenCall}
use Rattle.jh_history.specs.declared.call.Phase.{Phase}
use Rattle.jh_history.specs.declared.call.Phase.TheVariants.{ToCreate}
use Rattle.jh_history.specs.declared.entry.Act.{Act}
use Rattle.jh_history.specs.declared.entry.Act.TheVariants.{Commit}
use Rattle.jh_history.specs.Facts.{Facts}
use Rattle.jh_history.specs.Commits.{created, created_by}
use Rattle.jh_history.specs.DueFacts.{NamesCpu, MayLive}
use Rattle.jh_board.specs.declared.held.Held.{Held}
use Rattle.jh_board.specs.Means.{Means, IsReadyToGoOn, IsReadyIn, IsReadyFor}
use Rattle.jh_board.specs.Private.Steps.{NeedsNothingYet, MayJoinCells}

pub created_phase : (call : Call) (phase : Phase) (config : CellConfig) → created call phase ≡ Some config → phase ≡ ToCreate config
created_phase (Create at) (ToCreate made) config h = ap ToCreate (same_Some made config h)
created_phase call phase config h = absurd (none-some config h)

-- the call that waits for its cell
pub record IsComing (call : Option OpenCall) (config : CellConfig) : Type 0 where
  pub begun : OpenCall
  pub is : call ≡ Some begun
  pub phase : begun.phase ≡ ToCreate config

pub created_is : (call : Option OpenCall) (act : Act) (config : CellConfig) → created_by call act ≡ Some config → IsComing call config
created_is (Some o) Commit config h = record { begun = o; is = refl; phase = created_phase o.call o.phase config h }
created_is call act config h = absurd (none-some config h)

pub ready_coming : (held : Held) (call : Option OpenCall) (o : OpenCall) (config : CellConfig) → IsReadyToGoOn held call → call ≡ Some o → o.phase ≡ ToCreate config → IsReadyFor held config
ready_coming held call o config ready is phase =
    let P : Option OpenCall → Type 0 = IsReadyToGoOn held in
    let Q : Phase → Type 0 = IsReadyIn held in
    subst Q phase (subst P is ready)

-- facts that what is held stands for have one open call
pub free_same : (image : Image) (held : Held) (f g : Facts) (config : CellConfig) → Means image held f → Means image held g → NeedsNothingYet f (Some config) → NeedsNothingYet g (Some config)
free_same image held f g config first second free = λ other. let P : Option OpenCall → Type 0 = IsReadyToGoOn other in subst P (sym first.call ∙ second.call) (free other)

-- the cell that comes may join those that live
pub may_join : (image : Image) (held : Held) (f : Facts) (o : OpenCall) (config : CellConfig) → Means image held f → f.call ≡ Some o → o.phase ≡ ToCreate config → MayLive image f.cells config
    → (NamesCpu config → length f.cells < 15) → MayJoinCells held.cells held.coming_regions config
may_join image held f o config means is phase may few =
    let ready = ready_coming held f.call o config means.ready is phase in
    record {
      cpus = may.cpus;
      few = λ named. rw means.cells (few named);
      unknown = rw (means.cells, means.system) may.unknown;
      within = may.within;
      regions = ready.regions;
      spare_cells = ready.spare_cells;
      spare_regions = ready.spare_regions;
    }

-- so it may where devices have changed
pub join_kept : (old new : Held) (act : Act) → new.call ≡ old.call → new.cells ≡ old.cells → new.coming_regions ≡ old.coming_regions → IfSome (created_by old.call act) (MayJoinCells old.cells old.coming_regions) → IfSome (created_by new.call act) (MayJoinCells new.cells new.coming_regions)
join_kept old new act call cells regions h = rw (call, cells, regions) h
