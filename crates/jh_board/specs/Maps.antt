-- What a board tells of the cells that live: their maps, and what a map tells of grants.
use Rattle.std.specs.Prelude.{◌≡◌, ℕ, ◌+◌, ◌-◌, Bool, ◌&&◌, nat_le, nat_lt, if◌then◌else◌, List, Option, Some, None, find, option_map, IsSome}
use Rattle.jh_cellcfg.specs.declared.live.Live.{Live}
use Rattle.jh_map.specs.declared.run.Run.{Run}
use Rattle.jh_map.specs.Maps.{IsMap}
use Rattle.jh_script.specs.declared.image.Image.{Image}
use Rattle.jh_history.specs.declared.access.Access.{Access}
use Rattle.jh_history.specs.declared.entry.Entry.{Entry}
use Rattle.jh_history.specs.declared.form.Form.{Form}
use Rattle.jh_history.specs.declared.place.Place.{Place}
use Rattle.jh_history.specs.declared.place.Place.TheVariants.{Physical, Page}
use Rattle.jh_history.specs.Access.{has_right}
use Rattle.jh_history.specs.Admitted.{IsAdmitted}
use Rattle.jh_history.specs.Due.{IsLegal}
use Rattle.jh_history.specs.Grants.{is_closed_to}
use Rattle.jh_history.specs.History.{facts}
use Rattle.jh_history.specs.Lives.{cell_in, regions_in}

-- the physical place is closed to the cell with the id
abbrev pub is_closed_at : Image → List Live → ℕ → ℕ → Bool
is_closed_at image lives id place = is_closed_to image lives id (Physical place)

-- the map of the live cell with the id: that of its regions, with the places that are closed to it
abbrev pub IsMapIn : Image → List Live → ℕ → List Run → Type 0
IsMapIn image lives id = IsMap (is_closed_at image lives id) (regions_in image lives id)

-- what is told of a cell with the id: its map, or nothing where no live cell has the id
abbrev pub IsMapOrNone : Image → List Live → ℕ → Option (List Run) → Type 0
IsMapOrNone image lives id None = cell_in image lives id ≡ None
IsMapOrNone image lives id (Some runs) = IsSome (cell_in image lives id) × IsMapIn image lives id runs

-- a legal journal of an admitted image, and the map of the cell with the id after it
pub record AdmittedMap : Type 0 where
  pub image : Image
  pub form : Form
  pub entries : List Entry
  pub admitted : IsAdmitted image
  pub legal : IsLegal image form entries
  pub id : ℕ
  pub runs : List Run
  pub is : IsMapIn image (facts image form entries).cells id runs

-- ---- what a map tells of grants

-- the run tells that memory may be accessed so at the address
abbrev pub is_mapped_at : Access → ℕ → Run → Bool
is_mapped_at access at run = (nat_le run.start at && nat_lt at run.end) && (run.page && has_right access run.rights)

-- the place to which the run leads the address of the cell with the id
abbrev pub place_of_run : ℕ → ℕ → Run → Place
place_of_run id at run = if run.comm then Page id (run.place + (at - run.start)) else Physical (run.place + (at - run.start))

-- what the map of the cell tells that it is granted at the address, with the right
abbrev pub grant_of_map : ℕ → List Run → Access → ℕ → Option Place
grant_of_map id runs access at = option_map (place_of_run id at) (find (is_mapped_at access at) runs)
