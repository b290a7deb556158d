-- The leaves of the tables of all cells, by configurations alone.
use Rattle.std.specs.Prelude.{ℕ, ◌-◌, ◌++◌, zero, suc, flat_map, map, List, [], ◌∷◌}
use Rattle.jh_num.specs.declared.level.TheConstants.{LAST_LEVEL}
use Rattle.jh_cellcfg.specs.declared.live.Live.{Live}
use Rattle.jh_cellcfg.specs.Lives.{id_of}
use Rattle.jh_script.specs.declared.image.Image.{Image}
use Rattle.jh_shape.specs.declared.want.Want.{Want}
use Rattle.jh_shape.specs.declared.want.Want.TheVariants.{Nothing, Table, Leaf}
use Rattle.jh_shape.specs.Claims.{Claims}
use Rattle.jh_shape.specs.Pages.{cell_claims, live_root_claims}
use Rattle.jh_shape.specs.Shapes.{want_of}
use Rattle.jh_shape.specs.Wanted.{slot_start, Wants}
use Rattle.jh_walk.specs.Walks.{levels}
use Rattle.jh_edit.specs.declared.leaves.LeafAt.{LeafAt}
use Rattle.jh_edit.specs.Leaves.{leaves_before}
use Rattle.jh_board.specs.declared.leaves.TableLeaf.{TableLeaf}

-- the leaves that are wanted of a slot of the level, which begins at the address; `below` are those of a table there
abbrev pub leaves_from : List LeafAt → ℕ → ℕ → Want → List LeafAt
leaves_from below level start Nothing = []
leaves_from below level start Table = below
leaves_from below level start (Leaf out rights device) = record { level = level; at = start; out = out; rights = rights; device = device } ∷ []

-- those of a table that begins at the address, with so many levels left at it, in order of address
unfoldable pub leaves_wanted : Wants → ℕ → ℕ → List LeafAt
leaves_wanted want zero start = []
leaves_wanted want (suc n) start =
    leaves_before (λ slot. leaves_from (leaves_wanted want n (slot_start (LAST_LEVEL - n) start slot)) (LAST_LEVEL - n) (slot_start (LAST_LEVEL - n) start slot) (want (LAST_LEVEL - n) (slot_start (LAST_LEVEL - n) start slot))) 512

-- those of the cell with the id, which are wanted by these claims
abbrev pub cell_leaves : ℕ → Claims → List TableLeaf
cell_leaves id claims = map (λ (leaf : LeafAt). record { cell = id; leaf = leaf }) (leaves_wanted (want_of claims) levels 0)

-- those of root, and then of the cells that live besides it, in order of creation; a leaf to a communication page has the
-- place 0
abbrev pub leaves_of_all : Image → List Live → List TableLeaf
leaves_of_all image lives =
    cell_leaves image.system.root.id (live_root_claims image.system.root.memory_regions lives) ++ flat_map (λ (live : Live). cell_leaves (id_of live) (cell_claims live.config)) lives
