-- What the verdict says of what was read.
use Rattle.std.proofs.Common.{◌≡◌, ℕ, ℤ, Option, ◌==◌, ◌&&◌, Bool, false, List, [], ◌∷◌, ◌++◌, ap, ◌∙◌}
use Rattle.jh_num.specs.Bits.{has_bit}
use Rattle.jh_cellcfg.specs.declared.config.CellConfig.{CellConfig}
use Rattle.jh_cellcfg.specs.declared.config.SystemConfig.{SystemConfig}
use Rattle.jh_cellcfg.specs.declared.live.Live.{Live}
use Rattle.jh_check.specs.Refusals.{refusal_of}
use Rattle.jh_shape.specs.Pages.{pages_of}
use Rattle.jh_life.specs.CellsView.{CellsView}
use Rattle.jh_life.specs.Verdict.{may_have, verdict_of_create}
use Rattle.jh_script.specs.declared.image.Image.{Image}
use Rattle.jh_history.specs.Admitted.{pool_pages}
use Rattle.jh_history.specs.Facts.{Facts}
use Rattle.jh_history.specs.Lives.{is_on_board}
use Rattle.jh_history.specs.Phases.{may_give, unless_refused}
use Rattle.jh_shape.specs.Lives.{configs_of}
use Rattle.jh_history.specs.ReadView.{refusal_by}
use Rattle.jh_history.proofs.Public.{given_of_root, same_function}
use Rattle.jh_board.proofs.creation.creation_from.Goals as goal

verdict_is : (image : Image) (f : Facts) (seen : CellsView) (new : CellConfig) (mask caller pool : ℕ)
    → seen.system ≡ image.system → seen.lives ≡ f.cells
    → ((k : ℕ) → has_bit mask k ≡ (is_on_board image k && ((f.cpu k).owner == image.system.root.id)))
    → pool ≡ pool_pages image.system
    → verdict_of_create seen false new mask caller pool ≡ refusal_by image (configs_of f.cells) (may_give image f caller) new
verdict_is image f seen new mask caller pool system lives owned pages =
    let may : may_have mask caller ≡ may_give image f caller =
    same_function (may_have mask caller) (may_give image f caller) (given_of_root image f mask caller owned) in
    let by : SystemConfig → List Live → (ℕ → Bool) → ℕ → Option ℤ = λ s ls m p. refusal_of s (configs_of ls) new m (pages_of s.root.memory_regions (configs_of ls ++ new ∷ [])) p in
    ap (λ (s : SystemConfig). by s seen.lives (may_have mask caller) pool) system
    ∙ ap (λ (ls : List Live). by image.system ls (may_have mask caller) pool) lives
    ∙ ap (λ (m : ℕ → Bool). by image.system f.cells m pool) may
    ∙ ap (λ (p : ℕ). by image.system f.cells (may_give image f caller) p) pages

pub returns : goal.returns
returns c = λ f h.
    let image = c.args.image.now in
    let owned : (k : ℕ) → has_bit c.cpus_of_root-owned.result k ≡ (is_on_board image k && ((f.cpu k).owner == image.system.root.id)) =
    λ k. c.cpus_of_root-owned.ensures f h.cpus k ∙ ap (λ (i : Image). is_on_board i k && ((f.cpu k).owner == i.system.root.id)) c.image.ensures.image in
    let is = verdict_is image f c.cells-cells.result.now c.get.result.now c.cpus_of_root-owned.result c.args.caller c.pool_pages.result
    (c.cells-cells.ensures.system ∙ h.system) (c.cells-cells.ensures.lives ∙ h.cells) owned c.pool_pages.ensures in
    c.unless_refused.ensures
    ∙ ap (unless_refused c.args.config) (c.in_ok-refusal.ensures.value ∙ is ∙ ap (refusal_by image (configs_of f.cells) (may_give image f c.args.caller)) c.get.ensures)
