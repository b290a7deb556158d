-- The regions of what is clean lie within addresses and places.
use Rattle.std.proofs.Common.{◌≡◌, ℕ, List, [], Option, ap, subst, ◌∙◌, sym}
use Rattle.std.specs.Option.{option_map_or}
use Rattle.jh_cellcfg.specs.declared.config.CellConfig.{CellConfig}
use Rattle.jh_cellcfg.specs.declared.live.Live.{Live}
use Rattle.jh_cellcfg.specs.Regions.{AreInRange}
use Rattle.jh_check.specs.Clean.{IsClean}
use Rattle.jh_history.specs.Lives.{cell_in, regions_in}
use Rattle.jh_shape.specs.Lives.{configs_of}
use Rattle.jh_history.proofs.GrantedLemmas.{unmarked, configs_unmarked, regions_within}
use Rattle.jh_history.proofs.cells.regions_in.Goals as goal

pub returns-in-Some-clause-within : goal.returns-in-Some-clause-within
returns-in-Some-clause-within c =
    let image = c.args.image.now in
    let lives : List Live = unmarked c.args.cells.now in
    let same : configs_of lives ≡ c.args.cells.now = configs_unmarked c.args.cells.now in
    let clean : IsClean image.system (configs_of lives) = subst (λ (cells : List CellConfig). IsClean image.system cells) (sym same) c.requires in
    let is : c.as_slice.result.now ≡ regions_in image lives c.args.id =
    c.as_slice.ensures.value ∙ ap (λ (o : Option CellConfig). option_map_or (λ (cell : CellConfig). cell.memory_regions) o []) (c.in-Some.ensures lives same ∙ ap (λ (n : ℕ). cell_in image lives n) c.from.ensures) in
    subst AreInRange (sym is) (regions_within image lives c.args.id clean)
