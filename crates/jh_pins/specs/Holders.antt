-- Who holds a pin.
use Rattle.std.specs.Prelude.{◌≢◌, ℕ, Bool, false, not, ◌==◌, List, [], ◌∷◌, ◌++◌, map, filter, find, All, Option, option_map}
use Rattle.std.specs.Option.{option_map_or}
use Rattle.jh_cellcfg.specs.declared.config.CellConfig.{CellConfig}
use Rattle.jh_pins.specs.declared.pin.Pin.{Pin}
use Rattle.jh_pins.specs.Claims.{Claim}
use Rattle.jh_pins.specs.Pins.{is_named_by, claim_of}
use Rattle.jh_pins.specs.TableView.{TableView}

-- whose claims go first: those of the cells, in order of creation, and root's last
abbrev pub claimants : TableView → List Claim
claimants table = table.cells ++ table.root ∷ []

-- the id of the claim's cell
abbrev pub id_of : Claim → ℕ
id_of claim = claim.id

-- the id of the cell that holds the pin: of the first that names it, root last; none where no cell names it
abbrev pub holder : TableView → Pin → Option ℕ
holder table pin = option_map id_of (find (is_named_by pin) (claimants table))

-- the cell with the id holds the pin
abbrev pub is_held_by : TableView → ℕ → Pin → Bool
is_held_by table id pin = option_map_or (λ of. of == id) (holder table pin) false

-- the claim is of the cell with the id
abbrev pub has_id : ℕ → Claim → Bool
has_id id claim = claim.id == id

-- the claim is of another cell than that with the id
abbrev pub is_other : ℕ → Claim → Bool
is_other id claim = not (has_id id claim)

-- the table with the cell of the configuration, as the last
abbrev pub with_cell : CellConfig → TableView → TableView
with_cell config table = record table { cells = table.cells ++ claim_of config ∷ [] }

-- the table without the cell with the id, where that isn't root
abbrev pub without : ℕ → TableView → TableView
without id table = record table { cells = filter (is_other id) table.cells }

-- no cell of the table, root neither, has the id
abbrev pub IsNewId : TableView → ℕ → Type 0
IsNewId table id = All (λ (claim : Claim). claim.id ≢ id) (table.root ∷ table.cells)

-- the table of root and these cells, in order of creation
abbrev pub table_of : CellConfig → List CellConfig → TableView
table_of root configs = record { root = claim_of root; cells = map claim_of configs }
