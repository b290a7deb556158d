-- A cell's first table is a page of the hypervisor's.
use Rattle.std.proofs.Common.{◌∙◌, ap, sym}
use Rattle.jh_edit.specs.Seats.{cell_tree}
use Rattle.jh_edit.proofs.LeafLemmas.{tree_place}
use Rattle.jh_edit.proofs.stage.Stage2.leaves.Goals as goal

pub add_leaves-requires-clause-table : goal.add_leaves-requires-clause-table
add_leaves-requires-clause-table c = tree_place c.args.id c.requires.forest.0 c.args.self.now c.requires.forest.1 c.in-Some.tree
    (ap (cell_tree c.args.id) (sym c.as_slice.ensures.value) ∙ (sym c.cell_tree.ensures ∙ c.in-Some.is))
