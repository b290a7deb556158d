-- One cell more at the end.
use Rattle.std.proofs.Common.{◌≡◌, false, List, [], ◌∷◌, ◌++◌, Bool, ap, ◌∙◌}
use Rattle.jh_shape.proofs.Public.{joined_push}
use Rattle.jh_cellcfg.specs.declared.config.CellConfig.{CellConfig}
use Rattle.jh_history.proofs.plain_cells.PlainCells.add.Goals as goal

pub returns-clause-ok : goal.returns-clause-ok
returns-clause-ok c =
    let configs = c.self.inside.configs.items in
    let marks = c.self.inside.marks.items in
    let first : c.push_reserved.new.self.items ≡ configs ++ c.args.config ∷ [] = c.push_reserved.ensures.items ∙ ap (λ (l : List CellConfig). l ++ c.args.config ∷ []) c.in_ok-reserve.ensures.items in
    let second : c.push_reserved-2.new.self.items ≡ marks ++ false ∷ [] = c.push_reserved-2.ensures.items ∙ ap (λ (l : List Bool). l ++ false ∷ []) c.in_ok-reserve-2.ensures.items in
    rw (first, second, ← c.self.view_is) (joined_push configs marks c.args.config false c.self.invariant)
