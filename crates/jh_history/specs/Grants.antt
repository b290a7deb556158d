-- What a live cell is granted.
use Rattle.std.specs.Prelude.{ℕ, Bool, false, ◌&&◌, ◌==◌, List, map, Option, Some, None, option_and_then, if◌then◌else◌}
use Rattle.jh_cellcfg.specs.declared.live.Live.{Live}
use Rattle.jh_cellcfg.specs.declared.region.Region.{Region}
use Rattle.jh_ivshmem.specs.declared.endpoint.Endpoint.{Endpoint}
use Rattle.jh_shape.specs.Shapes.{is_closed, holder_of_live}
use Rattle.jh_script.specs.declared.image.Image.{Image}
use Rattle.jh_history.specs.declared.place.Place.{Place}
use Rattle.jh_history.specs.declared.place.Place.TheVariants.{Physical, Page}
use Rattle.jh_history.specs.declared.access.Access.{Access}
use Rattle.jh_history.specs.declared.access.Reach.{Reach}
use Rattle.jh_history.specs.Access.{place_of, reach_by, or_behind}
use Rattle.jh_history.specs.Behind.{Behind, answer}
use Rattle.jh_history.specs.Devices.{Devices, devices_in}
use Rattle.jh_history.specs.Facts.{Facts}
use Rattle.jh_history.specs.Lives.{regions_in}

-- the place is closed to the cell with the id: it is root, and a cell that lives besides it holds the place
-- for itself
abbrev pub is_closed_to : Image → List Live → ℕ → Place → Bool
is_closed_to image cells id (Physical p) = (id == image.system.root.id) && is_closed (map holder_of_live cells) p
is_closed_to image cells id (Page cell offset) = false

-- the place, unless it is closed
abbrev pub unless : (Place → Bool) → Place → Option Place
unless closed place = if closed place then None else Some place

-- what a cell with these regions, to which such places are closed, is granted at the address, with the right
abbrev pub granted_by : ℕ → List Region → (Place → Bool) → Access → ℕ → Option Place
granted_by id regions closed access at = option_and_then (unless closed) (place_of id regions access at)

-- what the cell with the id is granted, where these cells live besides root: a cell besides root what its
-- regions give, and root what its regions give at places that no other live cell closes to it
abbrev pub granted_in : Image → List Live → ℕ → Access → ℕ → Option Place
granted_in image cells id = granted_by id (regions_in image cells id) (is_closed_to image cells id)

-- what the cell with the id is granted at the address, with the right, where these facts hold
abbrev pub granted : Image → Facts → ℕ → Access → ℕ → Option Place
granted image facts id = granted_in image facts.cells id

-- what the cell with the id has behind memory, where these cells live besides root, and all have these endpoints
abbrev pub behind_of : Image → List Live → List Endpoint → ℕ → Behind
behind_of image cells endpoints id =
    record { regions = regions_in image cells id; devices = devices_in image cells endpoints id; system = image.system; closed = is_closed_to image cells id }

-- what answers the access of the cell with the id where no memory does, where these cells live besides root, and all
-- have these endpoints
abbrev pub behind_in : Image → List Live → List Endpoint → ℕ → Access → ℕ → ℕ → Reach
behind_in image cells endpoints id access at width = answer (behind_of image cells endpoints id) (record { access = access; at = at; width = width })

-- what the access of so many bytes reaches: memory where each byte is granted, and else what answers behind memory
abbrev pub reach_in : Image → List Live → List Endpoint → ℕ → Access → ℕ → ℕ → Reach
reach_in image cells endpoints id access at width =
    or_behind (reach_by (granted_in image cells id access) at width) (behind_in image cells endpoints id access at width)

-- what the access of so many bytes reaches, made by the cell with the id, where these facts hold
abbrev pub reach : Image → Facts → ℕ → Access → ℕ → ℕ → Reach
reach image facts id = reach_in image facts.cells facts.endpoints id

-- the devices of the cell with the id, where these facts hold
abbrev pub devices_of : Image → Facts → ℕ → Devices
devices_of image facts id = devices_in image facts.cells facts.endpoints id
