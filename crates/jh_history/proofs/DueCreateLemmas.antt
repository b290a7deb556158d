-- What a cell that comes is, and what it is beside those that live.
use Rattle.std.proofs.Common.{◌≡◌, ℕ, ◌<◌, List, [], ◌∷◌, ◌++◌, get_or, suc, false, Option, Some, sym, ap, subst, ◌∙◌, arith}
use Rattle.std.specs.Prelude.{Contains}
use Rattle.std.proofs.lemmas.Option.{same_Some, slice_get-get_or}
use Rattle.std.proofs.lemmas.List.Elements.{Contains-push}
use Rattle.jh_cellcfg.specs.declared.config.CellConfig.{CellConfig}
use Rattle.jh_cellcfg.specs.declared.config.SystemConfig.{SystemConfig}
use Rattle.jh_cellcfg.specs.declared.region.Region.{Region}
use Rattle.jh_check.specs.Clean.{IsClean}
use Rattle.jh_check.specs.Laws.{IsNumbered}
use Rattle.jh_check.specs.Refusals.{is_known, IsAccepted}
use Rattle.jh_check.proofs.Public.{joins_clean, accepted_from, item_at}
use Rattle.jh_shape.specs.Pages.{pages_of}
use Rattle.jh_script.specs.declared.image.Image.{Image}
use Rattle.jh_history.specs.declared.call.OpenCall.{OpenCall}
use Rattle.jh_history.specs.declared.call.Phase.{Phase}
use Rattle.jh_history.specs.declared.call.Phase.TheVariants.{ToCreate}
use Rattle.jh_history.specs.declared.call.Creation.TheVariants.{Accepted}
use Rattle.jh_history.specs.Facts.{Facts}
use Rattle.jh_history.specs.Admitted.{pool_pages}
use Rattle.jh_history.specs.declared.reading.ReadCell.TheVariants.{Reads}
use Rattle.jh_history.specs.Configs.{config_read}
use Rattle.jh_history.specs.Phases.{may_give, creation_of, refused_by}
use Rattle.jh_shape.specs.Lives.{configs_of}
use Rattle.jh_history.specs.Sound.{MayBeCreated, IsSoundCall, IsInPhase, IsOpen, IsSound}
use Rattle.jh_history.specs.DueFacts.{MayLive}
use Rattle.jh_history.proofs.SoundDecideLemmas.{coming_from_decision}
use Rattle.jh_history.proofs.DueDecideLemmas.{read_from_comes}

-- ---- a cell in which nothing is found

-- a cell besides root by its number
pub numbered : (system : SystemConfig) (configs : List CellConfig) (config : CellConfig) → Contains configs config → (a : ℕ) × (0 < a) × IsNumbered system configs a config
numbered system configs config held = (suc held.0, omega arith, slice_get-get_or configs held.0 config held.1 ∙ ap Some held.2)

pub clean_lives : (image : Image) (f : Facts) (config : CellConfig) → is_known (image.system.root ∷ configs_of f.cells) config ≡ false → IsClean image.system (configs_of f.cells ++ config ∷ []) → MayLive image f.cells config
clean_lives image f config unknown clean =
    let regions : List Region = config.memory_regions in
    let n = numbered image.system (configs_of f.cells ++ config ∷ []) config (Contains-push (configs_of f.cells) config) in
    record {
      unknown = unknown;
      apart = λ i j d lt within at hx hy.
          let same : i ≡ j = clean.addresses n.0 config n.2 i j (get_or regions i d) (get_or regions j d) (item_at regions i d (omega arith)) (item_at regions j d within) at hx hy in
          absurd (omega arith);
      within = λ k d lt some. clean.within n.0 config n.2 k (get_or regions k d) (item_at regions k d lt) some;
      cpus = clean.cpus n.0 config n.2;
    }

-- ---- at the Decide

same_read : (c config : CellConfig) → Reads c ≡ Reads config → c ≡ config
same_read c config e = same_Some c config (ap config_read e)

accepted : (image : Image) (f : Facts) (caller at : ℕ) (config : CellConfig) → creation_of image f caller at ≡ Accepted config
    → IsAccepted image.system (configs_of f.cells) config (may_give image f caller) (pages_of image.system.root.memory_regions (configs_of f.cells ++ config ∷ [])) (pool_pages image.system)
accepted image f caller at config comes =
    let coming = coming_from_decision image f caller at (ap refused_by comes) in
    let reads : Reads coming.config ≡ Reads config = sym coming.reads ∙ read_from_comes image f caller at config comes in
    let P : CellConfig → Type 0 = λ c. IsAccepted image.system (configs_of f.cells) c (may_give image f caller) (pages_of image.system.root.memory_regions (configs_of f.cells ++ c ∷ [])) (pool_pages image.system) in
    subst P (same_read coming.config config reads)
    (accepted_from image.system (configs_of f.cells) coming.config (may_give image f caller)
    (pages_of image.system.root.memory_regions (configs_of f.cells ++ coming.config ∷ [])) (pool_pages image.system) coming.good)

-- nothing is found with it
pub comes_clean : (image : Image) (f : Facts) (caller at : ℕ) (config : CellConfig) → IsSound image f → creation_of image f caller at ≡ Accepted config → IsClean image.system (configs_of f.cells ++ config ∷ [])
comes_clean image f caller at config sound comes = joins_clean image.system (configs_of f.cells) config sound.cells.clean (accepted image f caller at config comes).clean

pub decided_lives : (image : Image) (f : Facts) (caller at : ℕ) (config : CellConfig) → IsSound image f → creation_of image f caller at ≡ Accepted config → MayLive image f.cells config
decided_lives image f caller at config sound comes =
    clean_lives image f config (accepted image f caller at config comes).unknown (comes_clean image f caller at config sound comes)

-- ---- until it comes

pub call_open : (image : Image) (f : Facts) (o : OpenCall) → IsSound image f → f.call ≡ Some o → IsOpen image (configs_of f.cells) f.cpu o
call_open image f o sound call =
    let P : Option OpenCall → Type 0 = IsSoundCall image (configs_of f.cells) f.cpu in
    subst P call sound.call

-- the cell that the open call creates
pub to_come : (image : Image) (f : Facts) (o : OpenCall) (config : CellConfig) → IsSound image f → f.call ≡ Some o → o.phase ≡ ToCreate config → MayBeCreated image (configs_of f.cells) f.cpu o.caller config
to_come image f o config sound call phase =
    let P : Phase → Type 0 = IsInPhase image (configs_of f.cells) f.cpu o.caller o.call in
    (subst P phase (call_open image f o sound call).phase).1

pub comes_lives : (image : Image) (f : Facts) (o : OpenCall) (config : CellConfig) → IsSound image f → f.call ≡ Some o → o.phase ≡ ToCreate config → MayLive image f.cells config
comes_lives image f o config sound call phase =
    let may = to_come image f o config sound call phase in
    clean_lives image f config may.unknown may.clean
