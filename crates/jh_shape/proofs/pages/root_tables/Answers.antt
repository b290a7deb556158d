-- A mask with all bits set makes each cell a holder, and one with none set makes none loadable.
use Rattle.std.proofs.Common.{true, List, ap, ◌∙◌}
use Rattle.jh_shape.specs.Claims.{Holder}
use Rattle.jh_shape.specs.Pages.{tables_of}
use Rattle.jh_shape.proofs.PageLemmas.{tables_le, all_held}
use Rattle.jh_shape.proofs.pages.root_tables.Goals as goal

pub returns-clause-value : goal.returns-clause-value
returns-clause-value c =
    c.tables.ensures
    ∙ ap (λ (hs : List Holder). tables_of (record { regions = c.args.root.now; root = true; holders = hs; comm = 0 })) (all_held c.args.cells.now c.args.extra c.requires)

pub returns-clause-bound : goal.returns-clause-bound
returns-clause-bound c = rw c.tables.ensures (tables_le _)
