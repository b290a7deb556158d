-- The bytes are those of the cell.
use Rattle.std.proofs.Common.{◌≡◌, List, [], ◌∷◌, ℕ, ap, ◌∙◌}
use Rattle.jh_cellcfg.specs.declared.config.CellConfig.{CellConfig}
use Rattle.jh_cellcfg.specs.Spelling.{spelling}
use Rattle.jh_script.specs.declared.image.Preload.{Preload}
use Rattle.jh_run.specs.Soak.{bare_cell, loadable_cell}
use Rattle.jh_run.proofs.soak.preloaded_cell.Goals as goal

pub returns : goal.returns
returns c =
    let bytes : List ℕ → Preload = λ bytes. record { at = c.args.at; bytes = bytes } in
    let written : CellConfig → List ℕ = λ cell. spelling cell in
    let cell : c.in_ok-cell.cell ≡ loadable_cell c.args.name c.args.id c.args.cpus c.args.place =
    c.in_ok-cell.ensures ∙ (λ i. bare_cell c.args.name c.args.id c.args.cpus (c.region-memory.ensures i ∷ c.region-communication.ensures i ∷ [])) in
    ap bytes (c.from_vec-bytes.ensures ∙ c.in_ok-write_cell.ensures ∙ ap written cell)
